use Rattle.std.proofs.Common.{subst}
use Rattle.shop_request.specs.Heads.{prefix}
use Rattle.shop_request.specs.Reading.{IsFound}
use Rattle.shop_request.proofs.Guarding.{refused_verdict, unfinished_verdict}
use Rattle.shop_request.proofs.guards.Guard.check.Goals as goal

pub returns-in-Unfinished : goal.returns-in-Unfinished
returns-in-Unfinished c =
    let guard = c.args.self.now in
    let part = subst (IsFound (prefix c.args.received.now) c.args.head.now.headers) c.in-Unfinished.is c.requires.found in
    unfinished_verdict guard c.args.received.now part.0 part.1

pub returns-in-Refused : goal.returns-in-Refused
returns-in-Refused c =
    let guard = c.args.self.now in
    refused_verdict guard c.args.received.now c.in-Refused.field-0 (subst (IsFound (prefix c.args.received.now) c.args.head.now.headers) c.in-Refused.is c.requires.found)
