-- Totals of tables, and the sums of the parts that are handed out.
use Rattle.std.specs.Prelude.{◌≡◌, ◌⊎◌, ℕ, ◌<◌, ◌^◌, ⊤, List, [], ◌∷◌, Bool, true, false, cond, map}
use Rattle.std.specs.List.{AllByRecursion}
use Rattle.std.specs.Ordering.{eq_by_cmp}
use Rattle.cut_measure.specs.Codes.{code_cmp}
use Rattle.shop_records.specs.declared.changes.MaterialTotals.{MaterialTotals}
use Rattle.shop_records.specs.declared.records.Column.{Column}
use Rattle.shop_records.specs.declared.records.Part.{Part}
use Rattle.std.specs.FinMap.{entries}
use Rattle.shop_tables.specs.Listing.{HaveTotals, named}
use Rattle.shop_statements.specs.Shown.{Books}
use Rattle.shop_rows.specs.Adding.{IsAdded, IsLost, IsOver}
use Rattle.shop_rows.specs.Sums.{total_in, totals_from}
use Rattle.shop_rows.specs.declared.sums.Sums.{Sums}
use Rattle.shop_store.specs.declared.adders.PartAdder.{PartAdder}

-- a part is added where there are sums for its material, and 64 bits hold them
abbrev pub AddsPart : PartAdder → Part → Bool → PartAdder → Type 0
AddsPart old part true new = IsAdded part old.sums.items new.sums.items
AddsPart old part false new = IsLost part old.sums.items ⊎ IsOver part old.sums.items

-- whether some of these totals are the material's
abbrev pub are_totals_for : List ℕ → List MaterialTotals → Bool
are_totals_for code [] = false
are_totals_for code (row ∷ rows) = cond (eq_by_cmp code_cmp code row.material) true (are_totals_for code rows)

-- these are the totals of all materials, by rising code
abbrev pub IsListOf : Books → List MaterialTotals → Type 0
IsListOf b list = HaveTotals b × (list ≡ map named (entries b.totals))

-- 64 bits hold each of these totals
abbrev pub AreNarrow : List MaterialTotals → Type 0
AreNarrow rows = AllByRecursion (λ (row : MaterialTotals). (column : Column) → total_in column row.totals < 2 ^ 64) rows

-- each of these totals is the material's sums
abbrev pub AreSumsIn : List Sums → List MaterialTotals → Type 0
AreSumsIn sums [] = ⊤
AreSumsIn sums (row ∷ rows) = (totals_from row.material sums ≡ row.totals) × AreSumsIn sums rows
