use Rattle.std.proofs.Common.{◌≡◌, ◌≤◌, map, take}
use Rattle.std.specs.Prelude.{All}
use Rattle.cut_bound.specs.Solutions.{pieces_of}
use Rattle.cut_bound.specs.Planned.{solution_of, missing_of}
use Rattle.cut_bound.proofs.check.missing_pieces.Given as goal

abbrev pub invariant-loop-want : goal.invariant-loop-want
invariant-loop-want l = record {
  no_more : All (λ x. pieces_of (solution_of l.units) x.demand ≤ x.left) (take l.want-index l.wants);
  missing : l.missing.items ≡ map (missing_of (solution_of l.units)) (take l.want-index l.wants);
}
