use Rattle.std.proofs.Common.{◌≡◌, take}
use Rattle.cut_sheets.specs.Rounded.{wants_up}
use Rattle.cut_sheets.specs.Table.{HaveSides}
use Rattle.cut_sheets.proofs.bound.all_up.Given as goal

abbrev pub invariant-loop-want : goal.invariant-loop-want
invariant-loop-want l = (l.rounded.items ≡ wants_up l.kerf l.step (take l.want-index l.wants)) × HaveSides (take l.want-index l.wants)
