use Rattle.std.proofs.Common.{◌≡◌, take}
use Rattle.cut_sheets.specs.Rounded.{wants_down}
use Rattle.cut_sheets.proofs.bound.all_down.Given as goal

abbrev pub invariant-loop-want : goal.invariant-loop-want
invariant-loop-want l = l.rounded.items ≡ wants_down l.kerf l.step (take l.want-index l.wants)
