use Rattle.std.proofs.Common.{ℕ, ◌+◌, ◌*◌, ◌^◌, ◌<◌, ◌≤◌, length, get_or}
use Rattle.cut_sheets.proofs.KeptLeaves.{LeadsTo}
use Rattle.cut_sheets.proofs.keep.+keep_first.Given as goal

abbrev pub decreases-keep_first : goal.decreases-keep_first
decreases-keep_first l = l.w + l.h

abbrev pub invariant-loop-parts : goal.invariant-loop-parts
invariant-loop-parts l =
    (l.across ≤ l.w) × (l.down ≤ l.h) × ((i : ℕ) → i < length l.counts → get_or l.counts i 0 + l.across * l.down < 2 ^ 32)
    × LeadsTo l.wants l.w l.h l.initial.counts l.initial.pieces l.across l.down l.counts l.pieces l.parts.items

abbrev pub decreases-loop-parts : goal.decreases-loop-parts
decreases-loop-parts l = l.across + l.down
