use Rattle.std.proofs.Common.{◌≡◌, take, map}
use Rattle.shop_records.specs.declared.records.State.TheVariants.{Undone}
use Rattle.shop_records.specs.Content.{in_state}
use Rattle.shop_machine.proofs.undoing.undone_parts.Given as goal

abbrev pub invariant-loop-part : goal.invariant-loop-part
invariant-loop-part l = l.parts ≡ map (in_state (Undone l.job)) (take l.part-index l.left)
