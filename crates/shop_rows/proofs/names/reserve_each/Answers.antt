use Rattle.std.proofs.Common.{◌≤◌, List, get_or, take, subst, ◌∙◌, arith}
use Rattle.std.specs.Prelude.{All}
use Rattle.std.proofs.lemmas.List.{take_all}
use Rattle.std.proofs.lemmas.List.Elements.{All-more}
use Rattle.shop_records.specs.declared.records.Part.{Part}
use Rattle.shop_rows.specs.Open.{spare_of}
use Rattle.shop_rows.proofs.names.reserve_each.Goals as goal

pub loop-part-preserved : goal.loop-part-preserved
loop-part-preserved c =
    let parts = c.args.parts.now in
    let i = c.loop-part.part-index in
    let has_spare : Part → Type 0 = λ part. c.args.count ≤ spare_of part.material c.reserve_list.new.lists.items in
    record {
      names = λ code. c.reserve_list.ensures.names code ∙ c.loop-part.invariant.names code;
      order = c.reserve_list.ensures.order;
      spare = All-more has_spare parts i c.part-item.result c.loop-part-test.true
          (λ k d within.
          let before = c.loop-part.invariant.spare k d within in
          let more = c.reserve_list.ensures.more (get_or (take i parts) k d).material in
          omega (arith, before, more)) (subst has_spare c.part-item.is c.in_ok-near.ensures.spare);
      more = λ code.
          let before = c.loop-part.invariant.more code in
          let more = c.reserve_list.ensures.more code in
          omega (arith, before, more);
    }

pub returns-clause-spare : goal.returns-clause-spare
returns-clause-spare c =
    subst (λ (ps : List Part). All (λ part. c.args.count ≤ spare_of part.material c.loop-part.lists.items) ps) (take_all c.loop-part.part-index c.args.parts.now c.loop-part-test.false) c.loop-part.invariant.spare
