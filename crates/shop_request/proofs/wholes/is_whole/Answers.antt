use Rattle.std.proofs.Common.{◌≡◌, ◌++◌, [], ap, length, arith, subst, append-nil}
use Rattle.std.proofs.lemmas.Bool.{leb-true, leb-false}
use Rattle.shop_request.specs.Parses.{IsUnfinished}
use Rattle.shop_request.proofs.wholes.is_whole.Goals as goal

pub returns-clause-determined : goal.returns-clause-determined
returns-clause-determined c whole = let enough = leb-true _ _ whole in c.least_bytes.ensures.determined (omega (arith, enough))

pub returns-clause-waits : goal.returns-clause-waits
returns-clause-waits c waits =
    let received = c.args.received.now in
    let same : received ++ [] ≡ received = append-nil received in
    let short = leb-false _ _ waits in
    subst IsUnfinished same (c.least_bytes.ensures.waits [] (omega (arith, ap length same, short)))

pub returns-clause-short : goal.returns-clause-short
returns-clause-short c waits = let short = leb-false _ _ waits in omega (arith, short, c.least_bytes.ensures.bound)
