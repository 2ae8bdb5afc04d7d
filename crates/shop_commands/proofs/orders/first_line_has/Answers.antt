use Rattle.std.proofs.Common.{◌∙◌, sym}
use Rattle.shop_commands.proofs.OrderFiles.{stands_here, passed}
use Rattle.shop_commands.proofs.orders.first_line_has.Goals as goal

pub returns-then-byte-wanted : goal.returns-then-byte-wanted
returns-then-byte-wanted c =
    sym (stands_here c.args.wanted c.args.text.now c.loop-byte.byte-index 0 c.loop-byte-test.true c.if-byte-eq10.false c.if-byte-wanted.true) ∙ c.loop-byte.invariant

pub loop-byte-preserved : goal.loop-byte-preserved
loop-byte-preserved c =
    passed c.args.wanted c.args.text.now c.loop-byte.byte-index 0 c.loop-byte-test.true c.if-byte-eq10.false c.if-byte-wanted.false ∙ c.loop-byte.invariant
