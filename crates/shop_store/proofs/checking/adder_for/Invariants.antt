use Rattle.std.proofs.Common.{◌≡◌, ℕ, List, take}
use Rattle.std.specs.Prelude.{IsTrue}
use Rattle.cut_measure.specs.Codes.{code_cmp}
use Rattle.shop_records.specs.declared.records.Column.{Column}
use Rattle.shop_rows.specs.Adding.{has_sums}
use Rattle.shop_store.specs.Checking.{AreNarrow, are_totals_for}
use Rattle.shop_rows.specs.Rows.{rise}
use Rattle.shop_rows.specs.Sums.{sum_at, sums_key}
use Rattle.shop_store.proofs.checking.adder_for.Given as goal

abbrev pub invariant-loop-row : goal.invariant-loop-row
invariant-loop-row l =
    record {
      rising : IsTrue (rise sums_key code_cmp l.sums.items);
      none : (column : Column) (code : List ℕ) → sum_at column code l.sums.items ≡ 0;
      there : (code : List ℕ) → has_sums code l.sums.items ≡ are_totals_for code (take l.row-index l.totals);
      narrow : AreNarrow (take l.row-index l.totals);
    }
