use Rattle.std.proofs.Common.{◌≡◌, length, arith}
use Rattle.std.specs.Prelude.{None}
use Rattle.cut_bound.specs.declared.limits.TheConstants.{MAX_PARTS}
use Rattle.shop_records.specs.Lists.{parts_after}
use Rattle.shop_planning.proofs.FirstRows.{planned_enough}
use Rattle.shop_planning.proofs.asking.planned_parts.Goals as goal

pub returns-then-len-clause-found : goal.returns-then-len-clause-found
returns-then-len-clause-found g c = λ clean_disk m held.
    let found = c.in_ok-found.found in
    let full : length found.items ≡ MAX_PARTS = omega (arith, found.ok.0, c.len.ensures, c.if-len.true) in
    planned_enough c.args.kind (parts_after m c.args.material None) found.items (c.in_ok-found.ensures.found clean_disk m held) full
