use Rattle.std.proofs.Common.{◌≡◌, drop}
use Rattle.shop_planning.specs.Queries.{parts_refusal}
use Rattle.shop_planning.proofs.posing.parts_refusal.Given as goal

abbrev pub invariant-loop-part : goal.invariant-loop-part
invariant-loop-part l = parts_refusal l.material l.found ≡ parts_refusal l.material (drop l.part-index l.found)
