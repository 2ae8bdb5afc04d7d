use Rattle.shop_records.specs.Messages.{IsLine}
use Rattle.shop_forms.proofs.Lists.{seen_more, seen_all}
use Rattle.shop_messages.proofs.ordering.see_lines.Goals as goal

pub loop-line-preserved : goal.loop-line-preserved
loop-line-preserved c = seen_more IsLine c.args.lines.now c.loop-line.line-index c.line-item.result c.loop-line-test.true c.line-item.is c.see_line.ensures c.loop-line.invariant

pub returns : goal.returns
returns c = seen_all IsLine c.args.lines.now c.loop-line.line-index c.loop-line-test.false c.loop-line.invariant
