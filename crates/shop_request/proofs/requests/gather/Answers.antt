use Rattle.std.proofs.Common.{◌∙◌, ap, Ok, subst, sym, arith}
use Rattle.shop_request.specs.Reading.{IsHeadIn}
use Rattle.shop_request.proofs.Prefix.{more_taken}
use Rattle.shop_request.proofs.requests.gather.Goals as goal

pub returns-then-not-goes_on-clause-head : goal.returns-then-not-goes_on-clause-head
returns-then-not-goes_on-clause-head g c = subst (λ received. IsHeadIn received c.read-head.result) c.deref.ensures.value c.read-head.ensures

pub returns-then-not-goes_on-clause-took : goal.returns-then-not-goes_on-clause-took
returns-then-not-goes_on-clause-took g c =
    let on = c.in_ok-goes_on.ensures.on in
    more_taken (g.S.Source.left c.args.source.now) (g.S.Source.left c.loop-goes_on.source) (g.S.Source.left c.read_to.new.source) c.loop-goes_on.received.items c.read_to.new.received.items on.0 c.loop-goes_on.invariant.took on.1 on.2

pub least_bytes-needed-requires : goal.least_bytes-needed-requires
least_bytes-needed-requires g c =
    subst (λ received. IsHeadIn received c.read-head.result) (sym c.deref-in-loop-goes_on.ensures.value) (subst (λ received. IsHeadIn received c.read-head.result) c.deref.ensures.value c.read-head.ensures)

pub returns-then-needed-len-clause-head : goal.returns-then-needed-len-clause-head
returns-then-needed-len-clause-head g c = subst (λ received. IsHeadIn received c.read-head.result) c.deref.ensures.value c.read-head.ensures

pub returns-then-needed-len-clause-took : goal.returns-then-needed-len-clause-took
returns-then-needed-len-clause-took g c =
    let on = c.in_ok-goes_on.ensures.on in
    more_taken (g.S.Source.left c.args.source.now) (g.S.Source.left c.loop-goes_on.source) (g.S.Source.left c.read_to.new.source) c.loop-goes_on.received.items c.read_to.new.received.items on.0 c.loop-goes_on.invariant.took on.1 on.2

pub loop-goes_on-preserved : goal.loop-goes_on-preserved
loop-goes_on-preserved g c =
    let so_far = c.loop-goes_on.invariant in
    let on = c.in_ok-goes_on.ensures.on in
    let all = c.in_ok-goes_on.ensures.all (ap Ok c.if-not-goes_on.false) in
    record {
      took = more_taken (g.S.Source.left c.args.source.now) (g.S.Source.left c.loop-goes_on.source) (g.S.Source.left c.read_to.new.source) c.loop-goes_on.received.items c.read_to.new.received.items on.0 so_far.took on.1 on.2;
      short = omega (arith, c.if-needed-len.false, c.len.ensures, c.read_to.new.received.ok.0);
      most = c.least_bytes-needed.ensures.bound;
      failed = c.in_ok-goes_on.ensures.worked ∙ so_far.failed;
      reads = omega (arith, c.read_to.ensures.reads, so_far.reads, so_far.short, all);
    }
