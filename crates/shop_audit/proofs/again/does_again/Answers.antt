use Rattle.std.proofs.lemmas.Result.{IfOk-weaker}
use Rattle.shop_forms.specs.Forms.{json_texts}
use Rattle.shop_audit.specs.Whole.{HoldsPart}
use Rattle.shop_audit.proofs.Given.{given_next}
use Rattle.shop_audit.proofs.again.does_again.Goals as goal

pub returns-clause-given : goal.returns-clause-given
returns-clause-given g c clean whole count next entered stored part =
    let done = c.handle_with_text_at-reply in
    let last = c.written.ensures in
    let done_clean = last.keeps.clean_disk clean in
    let seen = c.in_ok-new.ensures.given (done.ensures.clean_disk done_clean) part.content part.holds in
    let mid : HoldsPart json_texts g.F.Book whole c.is_new.new.anew count =
    record { content = part.content; given = part.given; many = part.many; within = part.within; holds = seen.0 } in
    let h = done.ensures.step done_clean part.content seen.0 part.given.well_formed in
    IfOk-weaker c.written.result _ _
    (λ found there same.
    given_next json_texts g.F.Book whole c.is_new.new.anew done.new.book c.written.new.anew c.args.message.now done.result.0 count c.args.number mid h done.ensures.message (seen.1 c.if-not-new.false)
    (c.in_ok-reported.ensures c.if-not-reported.false) next c.args.entry.now c.args.kept.now entered stored (there same).0 (there same).1 (last.keeps.stays clean h.next h.held))
    (last.same clean h.next h.held)
