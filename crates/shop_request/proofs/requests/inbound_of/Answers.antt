use Rattle.std.proofs.Common.{◌<◌, length, subst}
use Rattle.shop_request.specs.Heads.{prefix}
use Rattle.shop_request.specs.Reading.{HasEnough, IsFound}
use Rattle.shop_request.specs.Requests.{faulty}
use Rattle.shop_request.proofs.Prefix.{some_of}
use Rattle.shop_request.proofs.Determined.{as_it_is, fault_later, full_later, part_parse, refused_later, silence_of}
use Rattle.shop_request.proofs.requests.inbound_of.Goals as goal

pub returns-then-is_empty-clause-parsed : goal.returns-then-is_empty-clause-parsed
returns-then-is_empty-clause-parsed c = silence_of c.args.received.now c.is_empty.result c.is_empty.ensures c.if-is_empty.true

pub returns-in-Faulty-clause-determined : goal.returns-in-Faulty-clause-determined
returns-in-Faulty-clause-determined c some enough more =
    let received = c.args.received.now in
    let head = c.args.head.now in
    fault_later received head.headers _ c.in-Faulty.fault some c.requires.slots (subst (IsFound (prefix received) head.headers) c.in-Faulty.is c.requires.found) more

pub returns-in-Faulty-clause-parsed : goal.returns-in-Faulty-clause-parsed
returns-in-Faulty-clause-parsed c =
    let received = c.args.received.now in
    let head = c.args.head.now in
    let some : 0 < length received = some_of c.is_empty.result _ c.is_empty.ensures c.if-is_empty.false in
    as_it_is received (faulty c.in-Faulty.fault) (fault_later received head.headers _ c.in-Faulty.fault some c.requires.slots (subst (IsFound (prefix received) head.headers) c.in-Faulty.is c.requires.found))

pub returns-in-Unfinished-clause-determined : goal.returns-in-Unfinished-clause-determined
returns-in-Unfinished-clause-determined c some enough more =
    let received = c.args.received.now in
    let part = subst (IsFound (prefix received) c.args.head.now.headers) c.in-Unfinished.is c.requires.found in
    full_later received c.part_fault.result c.part_fault.ensures.long c.part_fault.ensures.short part.0 part.1 (subst (HasEnough (length received)) c.in-Unfinished.is enough) more

pub returns-in-Unfinished-clause-parsed : goal.returns-in-Unfinished-clause-parsed
returns-in-Unfinished-clause-parsed c =
    let received = c.args.received.now in
    let part = subst (IsFound (prefix received) c.args.head.now.headers) c.in-Unfinished.is c.requires.found in
    part_parse received c.part_fault.result c.part_fault.ensures.long c.part_fault.ensures.short part.0 part.1 (some_of c.is_empty.result _ c.is_empty.ensures c.if-is_empty.false)

pub returns-in-Refused-clause-determined : goal.returns-in-Refused-clause-determined
returns-in-Refused-clause-determined c some enough more =
    let received = c.args.received.now in
    refused_later received some c.in-Refused.fault (subst (IsFound (prefix received) c.args.head.now.headers) c.in-Refused.is c.requires.found) more

pub returns-in-Refused-clause-parsed : goal.returns-in-Refused-clause-parsed
returns-in-Refused-clause-parsed c =
    let received = c.args.received.now in
    let some : 0 < length received = some_of c.is_empty.result _ c.is_empty.ensures c.if-is_empty.false in
    as_it_is received (faulty c.in-Refused.fault) (refused_later received some c.in-Refused.fault (subst (IsFound (prefix received) c.args.head.now.headers) c.in-Refused.is c.requires.found))

pub returns-in-Asks-clause-determined : goal.returns-in-Asks-clause-determined
returns-in-Asks-clause-determined c some enough = c.asked_for.ensures.determined (subst (HasEnough (length c.args.received.now)) c.in-Asks.is enough)
