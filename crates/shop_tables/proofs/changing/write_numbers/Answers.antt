use Rattle.std.proofs.Common.{Option, Some, None, refl}
use Rattle.std.specs.Prelude.{⊤, IfSome}
use Rattle.shop_tables.specs.Changing.{with_act, with_number}
use Rattle.shop_tables.proofs.InTurn.{of_some, writes_so, writes_then}
use Rattle.shop_tables.proofs.changing.write_numbers.Goals as goal

pub returns-clause-writes : goal.returns-clause-writes
returns-clause-writes g c =
    let change = c.args.change.now in
    writes_so (λ b _. (nothing change.act, nothing change.demand)) (λ b. refl)
    (writes_then (of_some with_act (λ b. refl) (λ n b. refl) change.act c.in_ok-write_some.ensures.writes) (of_some with_number (λ b. refl) (λ n b. refl) change.demand c.write_some-2.ensures.writes))
  where
    nothing : {X : Type 0} (o : Option X) → IfSome o (λ _. ⊤)
    nothing None = tt
    nothing (Some x) = tt
