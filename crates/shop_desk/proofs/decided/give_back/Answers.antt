use Rattle.std.proofs.Common.{refl}
use Rattle.shop_records.specs.declared.messages.Command.TheVariants.{GiveBack}
use Rattle.shop_records.specs.declared.messages.Reply.TheVariants as reply
use Rattle.shop_records.specs.declared.records.State.TheVariants.{Returned}
use Rattle.shop_machine.specs.Retiring.{return_refusal}
use Rattle.shop_forms.specs.Forms.{json_texts}
use Rattle.shop_desk.proofs.Deciding.{state_decided}
use Rattle.shop_desk.proofs.decided.give_back.Goals as goal

pub returns-clause-decision : goal.returns-clause-decision
returns-clause-decision g c =
    λ clean_disk m held well_formed.
    let before_totals = c.totals_for.ensures.keeps.clean_disk clean_disk in
    state_decided m c.args.part c.in_ok-row.row c.in_ok-totals.totals (c.in_ok-row.ensures.row before_totals m held)
    (c.in_ok-totals.ensures.row clean_disk m (c.part.ensures.keeps.stays before_totals m held)) json_texts (GiveBack c.args.part) refl return_refusal Returned reply.GiveBack refl (λ change it. it)
    (g.B.Book.failed c.args.book.now) (g.B.Book.failed c.totals_for.new.book) c.decide_give_back.result c.decide_give_back.ensures.decision
