use Rattle.std.proofs.Common.{sym, ◌∙◌, true≢false}
use Rattle.shop_rows.proofs.ByLine.{added, is_free, passed_by}
use Rattle.shop_rows.proofs.lines.add_line.Goals as goal

pub returns-then-not-is-clause-added : goal.returns-then-not-is-clause-added
returns-then-not-is-clause-added c = λ free rows are.
    passed_by c.args.order.now rows c.args.lines.now.items c.args.demand.now are (λ same. true≢false (sym (c.is.ensures.1 same) ∙ c.if-not-is.true))

pub returns-clause-added : goal.returns-clause-added
returns-clause-added c = λ free rows are.
    added c.args.order.now rows c.args.lines.now.items c.args.demand.now are c.put_line.new.lines.items (c.is.ensures.0 c.if-not-is.false) (is_free _ (sym free ∙ c.in_ok-free.ensures.free)) c.in_ok-free.ensures.put c.put_line.ensures.rising
