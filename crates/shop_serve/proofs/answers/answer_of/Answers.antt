use Rattle.std.proofs.Common.{◌∙◌, inr, refl, sym}
use Rattle.shop_serve.proofs.ServedRequests.{no_route, one_checked}
use Rattle.shop_serve.proofs.Dated.{unrouted_timed}
use Rattle.shop_serve.proofs.answers.answer_of.Goals as goal

pub returns-in-Some-clause-made : goal.returns-in-Some-clause-made
returns-in-Some-clause-made g c =
    let reported = c.in-Some.ensures.made in
    inr (
      c.check-verdict.result,
      reported.0,
      c.check-verdict.ensures,
      no_route c.check-verdict.result (sym c.is_routed.ensures ∙ c.if-is_routed.false),
      reported.1,
      reported.2,
    )

pub returns-in-Some-clause-step : goal.returns-in-Some-clause-step
returns-in-Some-clause-step g c =
    let asked = c.checked_answer.ensures.asked in
    one_checked c.args.site.now g.B.Book c.args.book.now c.checked_answer.new.book c.args.received.now c.check-verdict.result asked.0 c.requires.some c.check-verdict.ensures
    (no_route c.check-verdict.result (sym c.is_routed.ensures ∙ c.if-is_routed.false)) asked.1.1

pub returns-in-None-clause-step : goal.returns-in-None-clause-step
returns-in-None-clause-step g c =
    let asked = c.checked_answer.ensures.asked in
    one_checked c.args.site.now g.B.Book c.args.book.now c.checked_answer.new.book c.args.received.now c.check-verdict.result asked.0 c.requires.some c.check-verdict.ensures
    (no_route c.check-verdict.result (sym c.is_routed.ensures ∙ c.if-is_routed.false)) asked.1.1

pub returns-in-Some-clause-timed : goal.returns-in-Some-clause-timed
returns-in-Some-clause-timed g c =
    unrouted_timed c.args.site.now g.B.Book c.args.book.now c.checked_answer.new.book c.args.at c.args.received.now c.check-verdict.result c.check-verdict.ensures
    (no_route c.check-verdict.result (sym c.is_routed.ensures ∙ c.if-is_routed.false))

pub returns-in-None-clause-timed : goal.returns-in-None-clause-timed
returns-in-None-clause-timed g c =
    unrouted_timed c.args.site.now g.B.Book c.args.book.now c.checked_answer.new.book c.args.at c.args.received.now c.check-verdict.result c.check-verdict.ensures
    (no_route c.check-verdict.result (sym c.is_routed.ensures ∙ c.if-is_routed.false))

pub returns-in-Some-clause-clean_disk : goal.returns-in-Some-clause-clean_disk
returns-in-Some-clause-clean_disk g c = c.checked_answer.ensures.asked.1.1.0.clean_disk

pub returns-in-None-clause-clean_disk : goal.returns-in-None-clause-clean_disk
returns-in-None-clause-clean_disk g c = c.checked_answer.ensures.asked.1.1.0.clean_disk
