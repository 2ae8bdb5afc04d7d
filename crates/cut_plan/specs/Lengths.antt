-- Entries as a map.
use Rattle.std.specs.Prelude.{◌≡◌, ◌↔◌, ℕ, List, Option, Some, Contains}
use Rattle.cut_bars.specs.declared.reach.Entry.{Entry}

-- the map finds at each span the worth of its entry, and nothing else
abbrev pub IsMapOf : List Entry → (ℕ → Option ℕ) → Type 0
IsMapOf entries found = (n v : ℕ) → (found n ≡ Some v) ↔ Contains entries (record { span = n; worth = v })
