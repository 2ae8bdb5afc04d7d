use Rattle.std.proofs.Common.{sym, ◌∙◌}
use Rattle.std.proofs.lemmas.List.{length-map}
use Rattle.shop_records.specs.declared.imports.Form.TheVariants.{Cgcut}
use Rattle.shop_machine.specs.declared.ordering.FoundLine.{FoundLine}
use Rattle.shop_machine.specs.Ordering.{order_change, lines_in}
use Rattle.shop_machine.specs.Receiving.{receive_change}
use Rattle.shop_machine.proofs.ImportingDecision.{none_both, unused, received_as, imported_as, both_as}
use Rattle.shop_machine.proofs.importing.decide_problem.Goals as goal

pub returns-clause-decision : goal.returns-clause-decision
returns-clause-decision c = λ at found.
    let ordered = c.in_ok-change.ensures.decision at found in
    let received = received_as c.args.known c.args.totals c.args.act c.w.result c.h.result c.args.size c.args.material c.args.order c.in_ok-receipt.receipt c.w.ensures.value c.h.ensures.value c.in_ok-receipt.ensures.decision in (
      none_both _ _ (unused c.args.used c.if-used.false)
          (none_both _ _ (sym c.unit_refusal.ensures ∙ c.in_default.is)
          (none_both _ _ (sym (c.lines_refusal.ensures.refusal at found) ∙ c.in_default-lines_refusal.is) (none_both _ _ received.0 ordered.0))),
      c.imported.ensures
          ∙ imported_as c.with_receipt.result _ c.args.order c.args.text c.new.result (Cgcut c.args.material) c.args.act _ _ c.args.first
          (c.with_receipt.ensures ∙ both_as c.in_ok-change.change (order_change c.args.order (lines_in c.args.lines.now) c.args.first) c.in_ok-receipt.receipt
          (receive_change c.args.material c.args.order c.args.size c.args.act 1 c.args.totals) ordered.1 received.1) c.new.ensures
          (sym (length-map c.args.lines.now (λ (f : FoundLine). f.line))),
    )
