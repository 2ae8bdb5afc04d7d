use Rattle.std.proofs.Common.{◌≡◌, length, take, subst, ◌∙◌, arith}
use Rattle.std.proofs.lemmas.List.Elements.{All-more}
use Rattle.shop_records.specs.declared.records.Part.{Part}
use Rattle.std.proofs.lemmas.List.{length-take-le}
use Rattle.shop_rows.proofs.Summed.{cells_bounded, cells-more, small-more, cells_own, cells_other}
use Rattle.shop_rows.proofs.sums.with_all.Goals as goal

pub with_part-more-requires : goal.with_part-more-requires
with_part-more-requires c = λ column.
    let own = c.loop-part.invariant.own column in
    let bound = cells_bounded column c.args.sums.code (take c.loop-part.part-index c.args.parts.now) c.loop-part.invariant.small in
    let count : length (take c.loop-part.part-index c.args.parts.now) ≡ c.loop-part.part-index = length-take-le c.loop-part.part-index c.args.parts.now (omega (arith, c.loop-part-test.true)) in
    omega (arith, c.requires column, own, bound, count, c.loop-part-test.true, c.cells-cells.ensures.value, c.cells-cells.ensures.most)

pub loop-part-preserved : goal.loop-part-preserved
loop-part-preserved c =
    let parts = c.args.parts.now in
    let i = c.loop-part.part-index in
    let part = c.part-item.result in
    let same : part.material ≡ c.args.sums.code = c.is.ensures.0 c.if-not-is.false in
    record {
      code = c.with_part-more.ensures.code ∙ c.loop-part.invariant.code;
      own = λ column.
          omega (arith, c.with_part-more.ensures.sums column, c.loop-part.invariant.own column, cells-more parts i part c.loop-part-test.true c.part-item.is column c.args.sums.code, cells_own column part c.args.sums.code same);
      others = λ column code other.
          omega (arith, cells-more parts i part c.loop-part-test.true c.part-item.is column code, c.loop-part.invariant.others column code other, cells_other column part c.args.sums.code code same other);
      small = small-more parts i part c.loop-part-test.true c.part-item.is (omega (arith, c.cells-cells.ensures.value, c.cells-cells.ensures.most)) c.loop-part.invariant.small;
      owned = All-more (λ (p : Part). p.material ≡ c.args.sums.code) parts i part c.loop-part-test.true c.loop-part.invariant.owned (subst (λ (p : Part). p.material ≡ c.args.sums.code) c.part-item.is same);
    }
