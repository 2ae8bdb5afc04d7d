-- What a server learns beside its connections: the times that it reads, the backups that are made, and where the store's names
-- lead.
use Rattle.std.specs.Prelude.{◌≡◌, ℕ, Bool, List, [], ◌∷◌, ◌++◌, Option, Some, None, Result, ⊤}
use Rattle.std.specs.declared.time.Instant.{Instant}
use Rattle.shop_records.specs.declared.refusals.Refusal.{Refusal}

-- what is known grows by these
abbrev pub Adds : {X : Type 0} → Option (List X) → Option (List X) → List X → Type 0
Adds None new more = ⊤
Adds (Some xs) None more = ⊥
Adds (Some xs) (Some ys) more = ys ≡ xs ++ more

-- a time; that it stands still from here until it is reported next; what came of a backup: its number, or why none was made; or whether the
-- store's names led to the files that are open
pub data Report : Type 0 where
  time : Instant → Report
  stand : Report
  copy : Result ℕ Refusal → Report
  look : Bool → Report

-- the times that were reported so far, and what came of backups and looks meanwhile, where they are known
abbrev pub Times : Type 0
Times = Option (List Report)

-- the time was read, and it was this
abbrev pub Reports : Times → Times → Instant → Type 0
Reports seen seeing now = Adds seen seeing (time now ∷ [])

-- from here on the time stands still, until it is reported next
abbrev pub Stands : Times → Times → Type 0
Stands seen seeing = Adds seen seeing (stand ∷ [])

-- it stood still, and was reported next, and it was this
abbrev pub StandsUntil : Times → Times → Instant → Type 0
StandsUntil seen seeing now = (still : Times) × Stands seen still × Reports still seeing now

-- a backup was made or not, and this came of it
abbrev pub Copies : Times → Times → Result ℕ Refusal → Type 0
Copies seen seeing outcome = Adds seen seeing (copy outcome ∷ [])

-- it was looked where the store's names lead, and this was seen
abbrev pub Looks : Times → Times → Bool → Type 0
Looks seen seeing leads = Adds seen seeing (look leads ∷ [])

-- it wasn't read, and no backup was made, and no look
abbrev pub ReportsNone : Times → Times → Type 0
ReportsNone seen seeing = seeing ≡ seen
