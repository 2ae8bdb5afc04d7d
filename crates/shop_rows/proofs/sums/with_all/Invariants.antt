use Rattle.std.proofs.Common.{◌≡◌, ◌+◌, List, ℕ, false, take}
use Rattle.std.specs.Prelude.{All, IsTrue}
use Rattle.std.specs.Ordering.{is_eq}
use Rattle.cut_measure.specs.Codes.{code_cmp}
use Rattle.shop_records.specs.declared.records.Column.{Column}
use Rattle.shop_records.specs.Content.{cells_in}
use Rattle.shop_rows.specs.Sums.{sum_in, all_small}
use Rattle.shop_rows.proofs.sums.with_all.Given as goal

abbrev pub invariant-loop-part : goal.invariant-loop-part
invariant-loop-part l =
    record {
      code : l.more.code ≡ l.sums.code;
      own : (column : Column) → sum_in column l.more ≡ sum_in column l.sums + cells_in column l.sums.code (take l.part-index l.parts);
      others : (column : Column) (code : List ℕ) → is_eq (code_cmp l.sums.code code) ≡ false → cells_in column code (take l.part-index l.parts) ≡ 0;
      small : IsTrue (all_small (take l.part-index l.parts));
      owned : All (λ part. part.material ≡ l.sums.code) (take l.part-index l.parts);
    }
