use Rattle.std.proofs.Common.{subst, sym}
use Rattle.std.specs.Prelude.{IfSome}
use Rattle.shop_request.specs.Requests.{ParsesTo, ParseResult}
use Rattle.shop_wire.specs.Serves.{HandlesInputAt}
use Rattle.shop_wire.proofs.serving.begin_inbound.Goals as goal

pub returns-in-Some-clause-begun : goal.returns-in-Some-clause-begun
returns-in-Some-clause-begun g c = λ left parsed. c.begin_plans.ensures.begun left (subst (λ (s : ParseResult). IfSome left (λ input. ParsesTo input s)) c.in-Some.ensures parsed)

pub returns-in-Some-clause-timed : goal.returns-in-Some-clause-timed
returns-in-Some-clause-timed g c = subst (HandlesInputAt g.B.Book c.args.book.now c.begin_plans.new.book c.args.at) (sym c.in-Some.ensures) (λ clean_disk m held well_formed. tt)
