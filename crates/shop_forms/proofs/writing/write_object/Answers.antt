use Rattle.shop_forms.proofs.Pieces.{one_member}
use Rattle.shop_forms.proofs.writing.write_object.Goals as goal

pub loop-member-preserved : goal.loop-member-preserved
loop-member-preserved c =
    one_member c.args.members.now c.loop-member.member-index c.member-item.result c.loop-member-test.true c.member-item.is
    c.in_ok-write_member.ensures c.loop-member.invariant
