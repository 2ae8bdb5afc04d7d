use Rattle.std.proofs.Common.{◌≤◌, Option, get_or, take, sym, ap, subst, ◌∙◌, add-one, arith}
use Rattle.std.proofs.lemmas.List.{take_all}
use Rattle.cut_measure.specs.Names.{Name, name_cmp}
use Rattle.shop_rows.specs.Keys.{part_key}
use Rattle.shop_records.specs.declared.records.Part.{Part}
use Rattle.shop_rows.specs.Open.{finds_with_all, spare_of, ListsParts}
use Rattle.shop_rows.proofs.Listed.{finds_more, keep_at}
use Rattle.shop_rows.proofs.names.list_all.Goals as goal

pub list_in_place-near-requires-clause-spare : goal.list_in_place-near-requires-clause-spare
list_in_place-near-requires-clause-spare c =
    let lists = c.loop-part.lists.items in
    let parts = c.args.parts.now in
    let i = c.loop-part.part-index in
    let part = c.part-item.result in
    subst (λ (p : Part). 1 ≤ spare_of p.material lists) (sym c.part-item.is)
    (let spare = c.loop-part.invariant.spare i part c.loop-part-test.true in omega (arith, spare, c.loop-part-test.true))

pub loop-part-preserved : goal.loop-part-preserved
loop-part-preserved c =
    let parts = c.args.parts.now in
    let i = c.loop-part.part-index in
    let part = c.part-item.result in
    record {
      order = c.list_in_place-near.ensures.order;
      spare = λ k d within.
          let before = c.loop-part.invariant.spare k d within in
          let step = c.list_in_place-near.ensures.spare (get_or parts k d).material in
          omega (arith, before, step, c.loop-part-test.true);
      listed = λ find lists keep.
          subst (λ (f : Name → Option Part). ListsParts f c.list_in_place-near.new.lists.items)
          (sym (ap (λ n. finds_with_all part_key name_cmp (take n parts) find) (add-one i) ∙ finds_more part_key name_cmp parts i part find c.loop-part-test.true c.part-item.is))
          (c.list_in_place-near.ensures.lists (finds_with_all part_key name_cmp (take i parts) find) (c.loop-part.invariant.listed find lists keep) (keep_at parts i part find c.loop-part-test.true c.part-item.is keep));
    }

pub returns-clause-lists : goal.returns-clause-lists
returns-clause-lists c = λ find lists keep.
    let parts = c.args.parts.now in
    subst (λ ps. ListsParts (finds_with_all part_key name_cmp ps find) c.loop-part.lists.items) (take_all c.loop-part.part-index parts c.loop-part-test.false) (c.loop-part.invariant.listed find lists keep)
