use Rattle.std.proofs.Common.{◌∙◌, None, sym, subst, refl}
use Rattle.std.specs.Prelude.{IsSome}
use Rattle.shop_serve.specs.declared.searching.Place.{Place}
use Rattle.shop_serve.proofs.PlanTasks.{IsFoundSo, found-first, found-passed, found-taken}
use Rattle.shop_serve.proofs.searching.next_task.Goals as goal

pub loop-key-init : goal.loop-key-init
loop-key-init g c =
    (tt, tt, subst (λ left. IsFoundSo {P = Place} c.args.clients.now left None) (sym (c.into_iter-key-iterator.ensures.into_iter_gives ∙ c.iter-key-items.ensures.rest)) (found-first c.args.clients.now))

pub loop-key-preserved-then-is_first : goal.loop-key-preserved-then-is_first
loop-key-preserved-then-is_first g c = (
  tt,
  tt,
  found-taken c.args.clients.now c.in-Some.key c.in-Some.client.now c.next.new.self c.loop-key.found
      (subst (λ left. IsFoundSo c.args.clients.now left c.loop-key.found) c.in-Some.ensures.steps c.loop-key.invariant.2)
      c.in-Some-place_of.place (c.in-Some-place_of.ensures.some refl),
)

pub loop-key-preserved : goal.loop-key-preserved
loop-key-preserved g c = (
  tt,
  tt,
  found-passed c.args.clients.now c.in-Some.key c.in-Some.client.now c.next.new.self c.loop-key.found
      (subst (λ left. IsFoundSo c.args.clients.now left c.loop-key.found) c.in-Some.ensures.steps c.loop-key.invariant.2)
      (λ asks. c.is_first.ensures c.if-is_first.false),
)

pub loop-key-preserved-in-None-place_of : goal.loop-key-preserved-in-None-place_of
loop-key-preserved-in-None-place_of g c = (
  tt,
  tt,
  found-passed c.args.clients.now c.in-Some.key c.in-Some.client.now c.next.new.self c.loop-key.found
      (subst (λ left. IsFoundSo c.args.clients.now left c.loop-key.found) c.in-Some.ensures.steps c.loop-key.invariant.2)
      (λ asks. absurd (cc (subst IsSome (c.place_of.ensures.none c.in-None-place_of.is) asks))),
)
