use Rattle.std.proofs.Common.{Some, get_or}
use Rattle.std.proofs.lemmas.List.{get_or_default}
use Rattle.shop_book.proofs.EntriesFiled.{any_more}
use Rattle.shop_book.proofs.number_index.NumberIndex.next_for_any.Goals as goal

pub loop-act-init : goal.loop-act-init
loop-act-init c = record { left = tt; none = λ number left filed. absurd filed.among }

pub loop-act-preserved : goal.loop-act-preserved
loop-act-preserved c =
    let acts = c.args.acts.now in
    let i = c.loop-act.act-index in
    let act = get_or acts i 0 in
    record {
      left = c.lesser-first.ensures.left _ c.loop-act.invariant.left c.next_for_some.ensures.left;
      none =
          any_more c.args.self.now acts (Some c.args.last) i act c.loop-act.first c.next_for_some.result c.lesser-first.result c.loop-act-test.true (get_or_default acts i 0 act c.loop-act-test.true) c.loop-act.invariant c.next_for_some.ensures
          c.lesser-first.ensures.first c.lesser-first.ensures.second;
    }
