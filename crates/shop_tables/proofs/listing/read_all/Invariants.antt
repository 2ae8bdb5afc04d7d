use Rattle.std.proofs.Common.{◌≡◌, ℕ, List, map, take}
use Rattle.shop_records.specs.declared.records.Totals.{Totals}
use Rattle.shop_tables.specs.Listing.{code_row, key_of, listed_row, named}
use Rattle.shop_tables.proofs.listing.read_all.Given as goal

abbrev pub invariant-loop-i : goal.invariant-loop-i
invariant-loop-i l =
    (cs : List (List ℕ)) (es : List (List ℕ × Totals)) → l.codes ≡ map code_row cs → l.rows ≡ map listed_row es
    → (l.list.items ≡ map named (take l.i es)) × (map key_of (take l.i es) ≡ take l.i cs)
