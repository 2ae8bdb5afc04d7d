use Rattle.std.proofs.Common.{Option, Some, None, refl}
use Rattle.std.specs.Prelude.{⊤, IfSome}
use Rattle.shop_tables.specs.Changing.{with_begins, with_notes}
use Rattle.shop_tables.proofs.InTurn.{of_some, writes_so, writes_then}
use Rattle.shop_tables.proofs.changing.write_said.Goals as goal

pub returns-clause-writes : goal.returns-clause-writes
returns-clause-writes g c =
    let change = c.args.change.now in
    writes_so (λ b new. ((new, nothing change.begun), nothing change.note)) (λ b. refl)
    (writes_then (writes_then c.in_ok-write_halt.ensures.writes (of_some with_begins (λ b. refl) (λ x b. refl) change.begun c.in_ok-write_some.ensures.writes))
    (of_some with_notes (λ b. refl) (λ x b. refl) change.note c.write_some-2.ensures.writes))
  where
    nothing : {X : Type 0} (o : Option X) → IfSome o (λ _. ⊤)
    nothing None = tt
    nothing (Some x) = tt
