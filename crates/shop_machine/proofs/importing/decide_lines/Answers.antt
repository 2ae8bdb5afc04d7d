use Rattle.std.proofs.Common.{sym, ◌∙◌}
use Rattle.std.proofs.lemmas.List.{length-map}
use Rattle.shop_records.specs.declared.imports.Form.TheVariants.{Csv}
use Rattle.shop_machine.specs.declared.ordering.FoundLine.{FoundLine}
use Rattle.shop_machine.specs.Ordering.{order_change, lines_in}
use Rattle.shop_machine.proofs.ImportingDecision.{imported_as}
use Rattle.shop_machine.proofs.importing.decide_lines.Goals as goal

pub returns-clause-decision : goal.returns-clause-decision
returns-clause-decision c = λ at found.
    let decided = c.in_ok-change.ensures.decision at found in (
      decided.0,
      c.imported.ensures
          ∙ imported_as c.in_ok-change.change (order_change c.args.order (lines_in c.args.lines.now) c.args.first) c.args.order c.args.text c.new.result Csv 0 _ _ c.args.first decided.1 c.new.ensures
          (sym (length-map c.args.lines.now (λ (f : FoundLine). f.line))),
    )
