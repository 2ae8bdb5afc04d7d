use Rattle.std.proofs.Common.{◌≡◌, ◌≤◌, take}
use Rattle.cut_bound.specs.declared.limits.TheConstants.{MAX_PARTS}
use Rattle.shop_planning.specs.Entries.{first_place}
use Rattle.shop_planning.proofs.response.first_place.Given as goal

abbrev pub invariant-loop-part : goal.invariant-loop-part
invariant-loop-part l = record { first : l.first ≡ first_place (take l.part-index l.parts); most : l.first ≤ MAX_PARTS }
