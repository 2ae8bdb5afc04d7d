use Rattle.std.proofs.Common.{◌≡◌}
use Rattle.cut_order.specs.Searches.{instance_of}
use Rattle.cut_order.proofs.planning.go_on.Given as goal

abbrev pub invariant-loop : goal.invariant-loop
invariant-loop l = instance_of l.search ≡ instance_of l.initial.search
