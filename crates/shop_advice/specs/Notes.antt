-- What a server reports about its answers, and of its backups.
use Rattle.std.specs.Prelude.{ℕ, Bool, not, ◌&&◌, ◌==◌, List, ◌++◌, Option, Some, None, codes, decimal, if◌then◌else◌}
use Rattle.std.specs.List.{starts_with, ends_with}
use Rattle.shop_advice.specs.Causes.{backup_text}
use Rattle.shop_advice.specs.declared.causes.BackupCause.{BackupCause}
use Rattle.shop_advice.specs.declared.causes.FailureCause.{FailureCause}
use Rattle.shop_advice.specs.declared.causes.FailureCause.TheVariants.{Full, Shut, Passing}

abbrev pub is_unavailable : List ℕ → Bool
is_unavailable bytes = starts_with (λ a b. a == b) bytes (codes "HTTP/1.1 503 ")

abbrev pub reports_memory : List ℕ → Bool
reports_memory bytes = ends_with (λ a b. a == b) bytes (codes ":98}")

-- an answer, by its bytes, reports that the store failed
abbrev pub reports_failure : List ℕ → Bool
reports_failure bytes = is_unavailable bytes && not (reports_memory bytes)

abbrev pub failure_note : FailureCause → List ℕ
failure_note Full = codes "cutshop: answered 99 StoreFault; the disk is full; make room, and messages are accepted again\n"
failure_note Shut = codes "cutshop: answered 99 StoreFault; look at the store's disk, and start this program anew\n"
failure_note Passing = codes "cutshop: answered 99 StoreFault; look at the store's disk\n"

-- an answer, by its bytes, has the status 503: memory was wanting, or the store failed, for this cause
abbrev pub answer_note : List ℕ → FailureCause → Option (List ℕ)
answer_note bytes cause =
    if reports_failure bytes then Some (failure_note cause)
    else (if is_unavailable bytes
    then Some (codes "cutshop: answered 98 NoMemory; end other programs, or give this one more memory\n")
    else None)

-- a backup of this number was made in a folder
abbrev pub backup_note : ℕ → List ℕ → List ℕ
backup_note number folder = codes "cutshop: made backup " ++ (decimal number ++ (codes " in " ++ (folder ++ codes "\n")))

-- none could be made in it
abbrev pub no_backup_note : BackupCause → List ℕ → List ℕ
no_backup_note cause folder =
    codes "cutshop: answered 99 StoreFault; no backup was made in " ++ (folder ++ (codes ": " ++ (backup_text cause ++ codes "\n")))
