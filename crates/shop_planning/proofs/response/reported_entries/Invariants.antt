use Rattle.std.proofs.Common.{◌≡◌, map}
use Rattle.shop_planning.specs.declared.response.Entry.{Entry}
use Rattle.shop_planning.proofs.response.reported_entries.Given as goal

abbrev pub invariant-loop-entry : goal.invariant-loop-entry
invariant-loop-entry l = l.plans.items ≡ map (λ (e : Entry). e.reported) l.yielded
