use Rattle.std.proofs.Common.{◌∙◌, ◌≤◌, ◌<◌, ◌-◌, sym, subst, refl, Some, Ok, arith, take, drop, length, ◌++◌}
use Rattle.std.proofs.lemmas.List.{length-take}
use Rattle.shop_request.specs.Heads.{prefix}
use Rattle.shop_request.specs.Reading.{IsFound, parsed_head_at}
use Rattle.shop_request.specs.Requests.{faulty, asking}
use Rattle.shop_request.specs.Routes.{path_of}
use Rattle.shop_request.proofs.Prefix.{some_of}
use Rattle.shop_request.proofs.After.{found_judged, parse_of_part, parse_of_body, read_nothing}
use Rattle.shop_request.proofs.Counting.{short_body}
use Rattle.shop_request.proofs.Determined.{fault_later, refused_determined, full_determined, body_unsettled}
use Rattle.shop_request.proofs.Waiting.{nothing_waits, head_waits, body_waits}
use Rattle.shop_request.proofs.wholes.least_bytes.Goals as goal

pub returns-then-is_empty-clause-waits : goal.returns-then-is_empty-clause-waits
returns-then-is_empty-clause-waits c more few = nothing_waits (c.args.received.now ++ more) few

pub returns-then-not-takes_body-clause-determined : goal.returns-then-not-takes_body-clause-determined
returns-then-not-takes_body-clause-determined c whole =
    let received = c.args.received.now in
    let some : 0 < length received = some_of c.is_empty.result _ c.is_empty.ensures c.if-is_empty.false in
    let is = subst (IsFound (prefix received) c.args.head.now.headers) c.in-Asks.is c.requires.found in
    let j = found_judged received c.args.head.now.headers c.in-Asks.spans (Ok c.in-Asks.asked) some c.requires.slots is in
    let parsed_head = parsed_head_at (path_of is.1.0.target) c.in-Asks.asked in
    (asking parsed_head.route parsed_head.part, λ more. parse_of_part j (Some (received ++ more)) (Some more) refl parsed_head refl (sym c.takes_body.ensures ∙ c.if-not-takes_body.true) parsed_head.part refl)

pub overflow_add-result : goal.overflow_add-result
overflow_add-result c =
    let received = c.args.received.now in
    let some : 0 < length received = some_of c.is_empty.result _ c.is_empty.ensures c.if-is_empty.false in
    let is = subst (IsFound (prefix received) c.args.head.now.headers) c.in-Asks.is c.requires.found in
    let j = found_judged received c.args.head.now.headers c.in-Asks.spans (Ok c.in-Asks.asked) some c.requires.slots is in
    omega (arith, short_body j (parsed_head_at (path_of is.1.0.target) c.in-Asks.asked) refl, is.0.section.len_fits, length-take 8192 received)

pub returns-else-not-takes_body-clause-determined : goal.returns-else-not-takes_body-clause-determined
returns-else-not-takes_body-clause-determined c whole =
    let received = c.args.received.now in
    let some : 0 < length received = some_of c.is_empty.result _ c.is_empty.ensures c.if-is_empty.false in
    let is = subst (IsFound (prefix received) c.args.head.now.headers) c.in-Asks.is c.requires.found in
    let j = found_judged received c.args.head.now.headers c.in-Asks.spans (Ok c.in-Asks.asked) some c.requires.slots is in
    let parsed_head = parsed_head_at (path_of is.1.0.target) c.in-Asks.asked in
    let spans = c.in-Asks.spans in
    let long : parsed_head.length ≤ length received - spans.len = omega (arith, whole) in (
      asking parsed_head.route (take parsed_head.length (drop spans.len received)),
      λ more. parse_of_body j (Some (received ++ more)) (Some more) (Some more) refl parsed_head refl
          (sym c.takes_body.ensures ∙ c.if-not-takes_body.false) received (read_nothing (Some more) received) long (take parsed_head.length (drop spans.len received)) refl,
    )

pub returns-else-not-takes_body-clause-bound : goal.returns-else-not-takes_body-clause-bound
returns-else-not-takes_body-clause-bound c =
    let received = c.args.received.now in
    let some : 0 < length received = some_of c.is_empty.result _ c.is_empty.ensures c.if-is_empty.false in
    let is = subst (IsFound (prefix received) c.args.head.now.headers) c.in-Asks.is c.requires.found in
    let j = found_judged received c.args.head.now.headers c.in-Asks.spans (Ok c.in-Asks.asked) some c.requires.slots is in
    omega (arith, short_body j (parsed_head_at (path_of is.1.0.target) c.in-Asks.asked) refl, is.0.section.len_fits, length-take 8192 received)

pub returns-else-not-takes_body-clause-waits : goal.returns-else-not-takes_body-clause-waits
returns-else-not-takes_body-clause-waits c more few =
    let received = c.args.received.now in
    let some : 0 < length received = some_of c.is_empty.result _ c.is_empty.ensures c.if-is_empty.false in
    let is = subst (IsFound (prefix received) c.args.head.now.headers) c.in-Asks.is c.requires.found in
    let j = found_judged received c.args.head.now.headers c.in-Asks.spans (Ok c.in-Asks.asked) some c.requires.slots is in
    body_waits j (parsed_head_at (path_of is.1.0.target) c.in-Asks.asked) refl (sym c.takes_body.ensures ∙ c.if-not-takes_body.false) more few

pub returns-else-not-takes_body-clause-least : goal.returns-else-not-takes_body-clause-least
returns-else-not-takes_body-clause-least c more some_more few =
    let received = c.args.received.now in
    let some : 0 < length received = some_of c.is_empty.result _ c.is_empty.ensures c.if-is_empty.false in
    let is = subst (IsFound (prefix received) c.args.head.now.headers) c.in-Asks.is c.requires.found in
    let j = found_judged received c.args.head.now.headers c.in-Asks.spans (Ok c.in-Asks.asked) some c.requires.slots is in
    body_unsettled j (parsed_head_at (path_of is.1.0.target) c.in-Asks.asked) refl (sym c.takes_body.ensures ∙ c.if-not-takes_body.false) more few

pub returns-in-Faulty-clause-determined : goal.returns-in-Faulty-clause-determined
returns-in-Faulty-clause-determined c whole =
    let received = c.args.received.now in
    let some : 0 < length received = some_of c.is_empty.result _ c.is_empty.ensures c.if-is_empty.false in
    let is = subst (IsFound (prefix received) c.args.head.now.headers) c.in-Faulty.is c.requires.found in
    (faulty c.in-Faulty.field-1, fault_later received c.args.head.now.headers c.in-Faulty.field-0 c.in-Faulty.field-1 some c.requires.slots is)

pub returns-then-received-ge-MAX_HEAD_LEN-clause-determined : goal.returns-then-received-ge-MAX_HEAD_LEN-clause-determined
returns-then-received-ge-MAX_HEAD_LEN-clause-determined c whole =
    let is = subst (IsFound (prefix c.args.received.now) c.args.head.now.headers) c.in-Unfinished.is c.requires.found in
    full_determined c.args.received.now (omega (arith, c.if-received-ge-MAX_HEAD_LEN.true)) is.0 is.1

pub returns-else-received-ge-MAX_HEAD_LEN-clause-waits : goal.returns-else-received-ge-MAX_HEAD_LEN-clause-waits
returns-else-received-ge-MAX_HEAD_LEN-clause-waits c more few =
    let is = subst (IsFound (prefix c.args.received.now) c.args.head.now.headers) c.in-Unfinished.is c.requires.found in
    head_waits c.args.received.now more (omega (arith, c.if-received-ge-MAX_HEAD_LEN.false)) is.0 is.1 few

pub returns-in-Refused-clause-determined : goal.returns-in-Refused-clause-determined
returns-in-Refused-clause-determined c whole =
    let some : 0 < length c.args.received.now = some_of c.is_empty.result _ c.is_empty.ensures c.if-is_empty.false in
    refused_determined c.args.received.now some c.in-Refused.field-0 (subst (IsFound (prefix c.args.received.now) c.args.head.now.headers) c.in-Refused.is c.requires.found)
