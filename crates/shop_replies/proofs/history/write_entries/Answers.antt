use Rattle.shop_forms.specs.Forms.{entry_data, HasWideEntry}
use Rattle.shop_forms.proofs.Lists.{seen_more, seen_all}
use Rattle.shop_forms.proofs.Pieces.{one_more}
use Rattle.shop_replies.proofs.history.write_entries.Goals as goal

pub loop-entry-preserved : goal.loop-entry-preserved
loop-entry-preserved c = (
  one_more entry_data c.args.entries.now c.args.writer.now c.loop-entry.writer c.write_entry.new.writer _ c.loop-entry.entry-index c.entry-item.result
      c.loop-entry-test.true c.entry-item.is c.in_ok-write_entry.ensures.value c.loop-entry.invariant.0,
  seen_more HasWideEntry c.args.entries.now c.loop-entry.entry-index c.entry-item.result c.loop-entry-test.true c.entry-item.is c.in_ok-write_entry.ensures.wide c.loop-entry.invariant.1,
)

pub returns-clause-wide : goal.returns-clause-wide
returns-clause-wide c = seen_all HasWideEntry c.args.entries.now c.loop-entry.entry-index c.loop-entry-test.false c.loop-entry.invariant.1
