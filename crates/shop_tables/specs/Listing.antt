-- The totals of all materials, as a list.
use Rattle.std.specs.Prelude.{◌≡◌, ℕ, IsTrue, List, [], ◌∷◌, ◌++◌, map, Option, Some, None, is_some, Vec}
use Rattle.std.specs.FinMap.{entries, get}
use Rattle.std.specs.List.{AllByRecursion}
use Rattle.std.specs.declared.alloc.Global.{Global}
use Rattle.sqlite_value.specs.Order.{Row}
use Rattle.sqlite_value.specs.declared.value.Value.TheVariants.{Text}
use Rattle.cut_measure.specs.Codes.{is_code}
use Rattle.shop_records.specs.Content.{material_at}
use Rattle.shop_records.specs.declared.changes.MaterialTotals.{MaterialTotals}
use Rattle.shop_records.specs.declared.records.Totals.{Totals}
use Rattle.shop_statements.specs.Rows.{totals_columns}
use Rattle.shop_statements.specs.Shown.{Books}

abbrev pub key_of : {X : Type 0} → List ℕ × X → List ℕ
key_of e = e.0

-- each text is a code
abbrev pub AreCodes : List (List ℕ) → Type 0
AreCodes texts = AllByRecursion (λ text. IsTrue (is_code text)) texts

-- a row of a code alone
abbrev pub code_row : List ℕ → Row
code_row code = Text code ∷ []

-- a row of totals, its code after them
abbrev pub listed_row : List ℕ × Totals → Row
listed_row e = totals_columns e.1 ++ code_row e.0

abbrev pub named : List ℕ × Totals → MaterialTotals
named e = record { material = e.0; totals = e.1 }

-- each known material has a row of totals, and no other code has one
abbrev pub HaveTotals : Books → Type 0
HaveTotals b = (code : List ℕ) → is_some (get b.totals code) ≡ is_some (material_at b.content code)

-- all of them by rising code, or none where a material has none or another code has some
abbrev pub AreAllTotals : Books → Option (Vec MaterialTotals Global) → Type 0
AreAllTotals b None = ¬ HaveTotals b
AreAllTotals b (Some list) = HaveTotals b × (list.items ≡ map named (entries b.totals))
