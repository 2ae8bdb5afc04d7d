-- What is done for a backup, step by step.
use Rattle.std.specs.Prelude.{◌≡◌, ◌⊎◌, ◌<◌, ◌-◌, ℕ, suc, zero, max, min, List, [], ◌∷◌, ◌++◌, length, All, Option, Some, None, IsSome, ⊤}
use Rattle.std.specs.List.Sorted.{IsNonDecreasing, IsPermutation}
use Rattle.shop_backup.specs.declared.shelves.StoreFile.{StoreFile}
use Rattle.shop_backup.specs.declared.shelves.StoreFile.TheVariants.{Store, Log}

-- What was done: the folder was looked at, and is the one of the start, in which nobody but its owner may write; the numbers of all
-- that is named as a backup there, whole or not, were listed, and those of what is named as a whole one. And under a number: its
-- folder was made, under a name that no backup has; a file was written to it, with these bytes, and is on the disk; it got the name
-- of a backup, which is on the disk, too; what was made of it was taken away. And of a backup that was there: it was taken away; or
-- it was to be, and stayed, which whoever runs the shop learns.
pub data BackupStep : Type 0 where
  looked : BackupStep
  listed : List ℕ → List ℕ → BackupStep
  made : ℕ → BackupStep
  kept : ℕ → StoreFile → List ℕ → BackupStep
  finished : ℕ → BackupStep
  cleared : ℕ → BackupStep
  taken : ℕ → BackupStep
  stayed : ℕ → BackupStep

-- what is known grows by these
abbrev pub Adds : {X : Type 0} → Option (List X) → Option (List X) → List X → Type 0
Adds None new more = ⊤
Adds (Some xs) None more = ⊥
Adds (Some xs) (Some ys) more = ys ≡ xs ++ more

-- the greatest of these numbers, or 0 where there is none
abbrev pub greatest : List ℕ → ℕ
greatest [] = zero
greatest (n ∷ numbers) = max n (greatest numbers)

-- the number of a backup that is made beside these
abbrev pub next_number : List ℕ → ℕ
next_number there = suc (greatest there)

-- these are all of some numbers but the greatest, of which so many are left out
abbrev pub IsAllBut : ℕ → List ℕ → List ℕ → Type 0
IsAllBut count numbers old =
    (newest : List ℕ) × IsPermutation numbers (old ++ newest) × IsNonDecreasing (old ++ newest) × (length newest ≡ min count (length numbers))

-- these are to be taken away of the whole backups that were there, once one more is made of which so many are kept
abbrev pub IsOld : Option ℕ → List ℕ → List ℕ → Type 0
IsOld None wholes old = old ≡ []
IsOld (Some keep) wholes old = IsAllBut (keep - 1) wholes old

-- what is done with one that is to be taken away
abbrev pub IsPassing : ℕ → BackupStep → Type 0
IsPassing n step = (step ≡ taken n) ⊎ (step ≡ stayed n)

-- what is done with these, each in turn
abbrev pub ArePassed : List ℕ → List BackupStep → Type 0
ArePassed [] steps = steps ≡ []
ArePassed (n ∷ numbers) steps = (step : BackupStep) × ((rest : List BackupStep) × IsPassing n step × (steps ≡ step ∷ rest) × ArePassed numbers rest)

-- what is done before a backup is made beside these, of which some are whole
abbrev pub begins : List ℕ → List ℕ → List BackupStep
begins there wholes = looked ∷ listed there wholes ∷ []

-- the steps of a backup, beside these: the folder was looked at, and the numbers in it were listed; then the folder of the next number
-- was made, both files were kept with just the bytes that the store's hold, and at last it got its name
abbrev pub whole : (StoreFile → List ℕ) → List ℕ → List ℕ → List BackupStep
whole holds there wholes =
    begins there wholes ++ made (next_number there) ∷ kept (next_number there) Store (holds Store) ∷ kept (next_number there) Log (holds Log) ∷ finished (next_number there) ∷ []

-- some first ones of the steps between a folder and its name
abbrev pub IsPart : (StoreFile → List ℕ) → ℕ → List BackupStep → Type 0
IsPart holds n steps =
    (steps ≡ []) ⊎ (steps ≡ kept n Store (holds Store) ∷ []) ⊎ (steps ≡ kept n Store (holds Store) ∷ kept n Log (holds Log) ∷ [])

-- the steps before the folder of a backup, as far as they went
abbrev pub IsUnbegun : List BackupStep → Type 0
IsUnbegun steps = (steps ≡ []) ⊎ (steps ≡ looked ∷ []) ⊎ ((there : List ℕ) × ((wholes : List ℕ) × (steps ≡ begins there wholes)))

-- the steps of a backup of which a part was made and taken away, and which got no name
abbrev pub IsTakenAway : (StoreFile → List ℕ) → List BackupStep → Type 0
IsTakenAway holds steps =
    (there : List ℕ) × ((wholes : List ℕ) × ((part : List BackupStep) × IsPart holds (next_number there) part
    × (steps ≡ begins there wholes ++ (made (next_number there) ∷ (part ++ cleared (next_number there) ∷ [])))))

-- the steps of a backup that wasn't made: none was begun; or a part of it was made and taken away
abbrev pub IsUndone : (StoreFile → List ℕ) → List BackupStep → Type 0
IsUndone holds steps = IsUnbegun steps ⊎ IsTakenAway holds steps

-- a backup was begun under this number, and these are to be taken away once it is whole
pub record IsBegun (keep : Option ℕ) (old new : Option (List BackupStep)) (number : ℕ) (gone : List ℕ) : Type 0 where
  pub there : List ℕ
  pub wholes : List ℕ
  pub numbered : number ≡ next_number there
  pub are_old : IsOld keep wholes gone
  pub are_before : IsSome old → All (λ n. n < number) gone
  pub adds : Adds old new (begins there wholes ++ made number ∷ [])

-- the backup of a number was made, by these steps and no others: it is whole, and its number is behind all that were there; then, and
-- no sooner, those of the whole ones that are old, so that so many are kept, were taken away or stayed; each has a smaller number
pub record IsBackupMade (keep : Option ℕ) (holds : StoreFile → List ℕ) (old new : Option (List BackupStep)) (number : ℕ) : Type 0 where
  pub there : List ℕ
  pub wholes : List ℕ
  pub gone : List ℕ
  pub passed : List BackupStep
  pub numbered : number ≡ next_number there
  pub are_old : IsOld keep wholes gone
  pub are_before : IsSome old → All (λ n. n < number) gone
  pub are_passed : ArePassed gone passed
  pub adds : Adds old new (whole holds there wholes ++ passed)

-- none was made, nothing is left of one, and none was taken away
abbrev pub IsNoBackupMade : (StoreFile → List ℕ) → (old new : Option (List BackupStep)) → Type 0
IsNoBackupMade holds old new = (steps : List BackupStep) × IsUndone holds steps × Adds old new steps
