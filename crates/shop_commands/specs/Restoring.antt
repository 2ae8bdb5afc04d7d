-- What a restore prints, and how it stops.
use Rattle.std.specs.Prelude.{◌≡◌, ◌≢◌, ◌⊎◌, List, [], ◌++◌, ℕ, String, codes, string_bytes}
use Rattle.std.specs.Fmt.{decimal}
use Rattle.std.specs.declared.alloc.Global.{Global}
use Rattle.shop_times.specs.Times.{IsTimeText}
use Rattle.shop_advice.specs.declared.causes.BackupCause.{BackupCause}
use Rattle.shop_advice.specs.declared.causes.StoreCause.{StoreCause}
use Rattle.shop_commands.specs.declared.faults.Fault.{Fault}
use Rattle.shop_commands.specs.declared.faults.Fault.TheVariants.{Backup, NoMemory, Store, Write}
use Rattle.shop_commands.specs.Sinks.{SinkChange, Adds, AddsNone, AddsPrefix, SinkFailed}

-- the lines of a store of this path that was restored from a folder, with so many entries, and the line of the last one's time
abbrev pub restored_lines : (store from : List ℕ) → (entries : ℕ) → (until : List ℕ) → List ℕ
restored_lines store from entries until = codes "restored " ++ store ++ codes " from " ++ from ++ codes "\nentries " ++ decimal entries ++ codes "\n" ++ until

-- the line of an entry's time, or nothing: an entry may have none
abbrev pub IsUntilLine : ℕ → List ℕ → Type 0
IsUntilLine time line = (line ≡ []) ⊎ ((time ≢ 0) × ((text : String Global) × IsTimeText time text × (line ≡ codes "until " ++ string_bytes text ++ codes "\n")))

-- these are the lines of a store that was restored
abbrev pub IsRestoredText : (store from : List ℕ) → List ℕ → Type 0
IsRestoredText store from text = (entries : ℕ) × (time : ℕ) × (until : List ℕ) × IsUntilLine time until × (text ≡ restored_lines store from entries until)

-- the store is in use or its files can't be replaced, or the folder is no backup, or memory runs out
abbrev pub IsUnrestored : Fault → Type 0
IsUnrestored fault = (fault ≡ NoMemory) ⊎ ((cause : StoreCause) × (fault ≡ Store cause)) ⊎ ((cause : BackupCause) × (fault ≡ Backup cause))

-- it was restored, and its lines were printed
abbrev pub IsRestoreDone : List ℕ → List ℕ → (out : SinkChange) → Type 0
IsRestoreDone store from out = (text : List ℕ) × IsRestoredText store from text × Adds out text

-- it wasn't restored, or memory ran out for its lines, and nothing was printed; or it was, and its lines can't be written
abbrev pub IsRestoreStopped : List ℕ → List ℕ → Fault → (out : SinkChange) → Type 0
IsRestoreStopped store from fault out =
    (IsUnrestored fault × AddsNone out) ⊎ ((fault ≡ Write) × ((text : List ℕ) × IsRestoredText store from text × AddsPrefix out text) × SinkFailed out)
