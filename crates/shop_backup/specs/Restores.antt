-- What is done to put a backup in the place of a store, step by step.
use Rattle.std.specs.Prelude.{◌<◌, ℕ, List, [], ◌∷◌, take, length, Option}
use Rattle.shop_backup.specs.Steps.{Adds}
use Rattle.shop_backup.specs.declared.restoring.RestoreStep.{RestoreStep}
use Rattle.shop_backup.specs.declared.restoring.RestoreStep.TheVariants.{Close, Judge, Look, Copy, PutAside, PutIn}
use Rattle.shop_backup.specs.declared.shelves.StoreFile.TheVariants.{Store, Log}

-- the steps of a backup that was put in a store's place, in their order: no program has the store open, the backup holds a book, and
-- the names for the files that were there are free; both files were copied beside the store; then those that were there got these
-- names, the store first; and the new ones got theirs, the store last
abbrev pub restored : List RestoreStep
restored = Close ∷ Judge ∷ Look ∷ Copy Store ∷ Copy Log ∷ PutAside Store ∷ PutAside Log ∷ PutIn Log ∷ PutIn Store ∷ []

-- only so many of these steps were done, from the first on, and not all
abbrev pub IsBrokenOff : List RestoreStep → (old new : Option (List RestoreStep)) → Type 0
IsBrokenOff steps old new = (count : ℕ) × (count < length steps) × Adds old new (take count steps)
