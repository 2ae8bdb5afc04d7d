use Rattle.std.proofs.Common.{arith, sym}
use Rattle.std.proofs.lemmas.List.{take_all, length-take-le}
use Rattle.shop_request.proofs.heads.prefix_of.Goals as goal

pub slice_bounds-result-end : goal.slice_bounds-result-end
slice_bounds-result-end c = sym (length-take-le 8192 c.args.received.now (omega (arith, c.if-received-gt-MAX_HEAD_LEN.true)))

pub returns : goal.returns
returns c = sym (take_all 8192 c.args.received.now (omega (arith, c.if-received-gt-MAX_HEAD_LEN.false)))
