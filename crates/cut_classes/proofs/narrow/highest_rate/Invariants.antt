use Rattle.std.proofs.Common.{Bool, take}
use Rattle.std.specs.Prelude.{Contains}
use Rattle.cut_wants.specs.declared.wants.Want.{Want}
use Rattle.cut_classes.specs.Grids.{across_of, down_of}
use Rattle.cut_classes.specs.Rates.{IsRatedWant}
use Rattle.cut_classes.proofs.narrow.highest_rate.Given as goal

abbrev pub invariant-loop-want : goal.invariant-loop-want
invariant-loop-want l =
    (x : Want) → Contains (take l.want-index l.wants) x → (turned : Bool) → IsRatedWant l.slack_across l.slack_down (across_of l.grid) (down_of l.grid) l.kerf x turned l.highest
