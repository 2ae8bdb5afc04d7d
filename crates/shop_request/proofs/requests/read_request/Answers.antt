use Rattle.std.proofs.Common.{◌<◌, ◌++◌, subst, sym, length}
use Rattle.shop_request.specs.Reading.{HasEnough, IsHeadIn}
use Rattle.shop_request.specs.Requests.{ParsesTo, parse_of}
use Rattle.shop_request.proofs.After.{gathered}
use Rattle.shop_request.proofs.requests.read_request.Goals as goal

pub inbound_of-inbound-requires : goal.inbound_of-inbound-requires
inbound_of-inbound-requires g c = subst (λ received. IsHeadIn received c.in_ok-head.head) (sym c.deref.ensures.value) c.in_ok-head.ensures.head

pub returns-clause-parsed : goal.returns-clause-parsed
returns-clause-parsed g c =
    let received = c.gather.new.received.items in
    let s = parse_of c.inbound_of-inbound.result in
    let same = c.deref.ensures.value in
    gathered (g.S.Source.left c.args.source.now) (g.S.Source.left c.gather.new.source) received s
    ((0 < length received) × HasEnough (length received) c.in_ok-head.head.found) c.in_ok-head.ensures.took
    (subst (λ l. ParsesTo l s) same c.inbound_of-inbound.ensures.parsed)
    (λ enough more. subst (λ l. ParsesTo (l ++ more) s) same (c.inbound_of-inbound.ensures.determined
    (subst (λ l. 0 < length l) (sym same) enough.0) (subst (λ l. HasEnough (length l) c.in_ok-head.head.found) (sym same) enough.1) more))
    c.in_ok-head.ensures.whole
