use Rattle.shop_forms.proofs.Lists.{seen_more, seen_all}
use Rattle.shop_forms.proofs.Pieces.{one_more}
use Rattle.shop_forms.proofs.elements.write_rows.Goals as goal

pub loop-row-preserved : goal.loop-row-preserved
loop-row-preserved g c = (
  one_more g.T.Listed.said c.args.rows.now c.args.writer.now c.loop-row.writer c.write.new.writer _ c.loop-row.row-index c.row-item.result
      c.loop-row-test.true c.row-item.is c.in_ok-write.ensures.value c.loop-row.invariant.0,
  seen_more g.T.Listed.is_wide c.args.rows.now c.loop-row.row-index c.row-item.result c.loop-row-test.true c.row-item.is c.in_ok-write.ensures.wide c.loop-row.invariant.1,
)

pub returns-clause-wide : goal.returns-clause-wide
returns-clause-wide g c = seen_all g.T.Listed.is_wide c.args.rows.now c.loop-row.row-index c.loop-row-test.false c.loop-row.invariant.1
