use Rattle.std.proofs.Common.{◌≡◌, ◌↔◌, List, ℕ, refl, subst}
use Rattle.std.specs.Prelude.{All, IsTrue}
use Rattle.cut_bound.specs.declared.check.CheckedOrder.{CheckedOrder}
use Rattle.cut_bound.proofs.CheckedOrders.{checked_order}
use Rattle.cut_bound.proofs.check.checked_units.Goals as goal

pub returns-clause-ok : goal.returns-clause-ok
returns-clause-ok c =
    let checked : CheckedOrder = record { missing = c.in_ok-missing.missing; cost = c.in-Some.cost; proved = c.is_proved-proved.result } in
    let proved =
    subst (λ (numbers : List ℕ). IsTrue c.is_proved-proved.result ↔ ((c.in-Some.cost ≡ c.args.bound) × All (λ n. n ≡ 0) numbers)) c.deref.ensures.value c.is_proved-proved.ensures in
    checked_order c.args.wants.now c.args.kerf c.args.sizes.now c.args.bound c.args.units.now checked (c.in-Ok-true.ensures.0 c.in-Ok-true.field-0-test) (c.if-not-are_at_hand.ensures.0 refl)
    c.in_ok-missing.ensures.no_more c.in_ok-missing.ensures.missing c.in-Some.ensures.some proved
