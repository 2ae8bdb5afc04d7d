use Rattle.shop_rows.proofs.Packed.{appended_next, none_appended, spare_next}
use Rattle.shop_rows.proofs.part_rows.PartRows.append_all.Goals as goal

pub loop-part-init : goal.loop-part-init
loop-part-init c = none_appended c.args.self.now

pub append-requires : goal.append-requires
append-requires c = spare_next c.args.added.now c.loop-part.part-index c.args.self.now c.loop-part.self c.loop-part-test.true c.requires c.loop-part.invariant

pub loop-part-preserved : goal.loop-part-preserved
loop-part-preserved c =
    appended_next c.args.added.now c.loop-part.part-index c.part-item.result c.args.self.now c.loop-part.self c.append.new.self
    c.loop-part-test.true c.part-item.is c.loop-part.invariant c.append.ensures
