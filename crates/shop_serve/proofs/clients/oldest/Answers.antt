use Rattle.std.proofs.Common.{◌∙◌, None, sym, subst}
use Rattle.shop_serve.proofs.Oldest.{IsOldestSo, oldest-first, oldest-passed, oldest-taken, oldest-found, oldest-none}
use Rattle.shop_serve.proofs.clients.oldest.Goals.{else-may_go-via-then-may_go+else-is_older, else-may_go-via-else-may_go}
use Rattle.shop_serve.proofs.clients.oldest.Goals as goal

pub loop-key-init : goal.loop-key-init
loop-key-init g c =
    (tt, tt, subst (λ left. IsOldestSo c.args.clients.now left None) (sym (c.into_iter-key-iterator.ensures.into_iter_gives ∙ c.iter-key-items.ensures.rest)) (oldest-first c.args.clients.now))

pub loop-key-preserved-then-is_older : goal.loop-key-preserved-then-is_older
loop-key-preserved-then-is_older g c = (
  tt,
  tt,
  oldest-taken c.args.clients.now c.in-Some.key c.in-Some.client.now c.next.new.self c.loop-key.found
      (subst (λ left. IsOldestSo c.args.clients.now left c.loop-key.found) c.in-Some.ensures.steps c.loop-key.invariant.2)
      (c.may_go.ensures.0 c.if-may_go.true) (c.is_older.ensures.older c.if-is_older.true),
)

pub loop-key-preserved : goal.loop-key-preserved
loop-key-preserved g c = (
  tt,
  tt,
  oldest-passed c.args.clients.now c.in-Some.key c.in-Some.client.now c.next.new.self c.loop-key.found
      (subst (λ left. IsOldestSo c.args.clients.now left c.loop-key.found) c.in-Some.ensures.steps c.loop-key.invariant.2)
      (λ goes. elim c.else-may_go.branch [
        | else-may_go-via-then-may_go+else-is_older w ↦ w.is_older.ensures.younger w.if-is_older.false
        | else-may_go-via-else-may_go w ↦ absurd (cc (c.may_go.ensures.1 goes, w.if-may_go.false))
      ]),
)

pub returns-in-Some-found-clause-found : goal.returns-in-Some-found-clause-found
returns-in-Some-found-clause-found g c =
    oldest-found c.args.clients.now c.loop-key.key-iterator c.loop-key.found c.loop-key.invariant.2 c.in-None.ensures.steps.0 c.in-Some-found.key c.in-Some-found.field-0-1 c.in-Some-found.is

pub returns-in-None-found-clause-none : goal.returns-in-None-found-clause-none
returns-in-None-found-clause-none g c none =
    oldest-none c.args.clients.now c.loop-key.key-iterator c.loop-key.found c.loop-key.invariant.2 c.in-None.ensures.steps.0 c.in-None-found.is
