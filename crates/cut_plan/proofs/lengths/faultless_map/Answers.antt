use Rattle.std.proofs.Common.{◌+◌}
use Rattle.std.specs.BTreeMap.{get}
use Rattle.std.specs.Ordering.{nat_cmp}
use Rattle.cut_plan.proofs.EntryMaps.{map_reached}
use Rattle.cut_plan.proofs.lengths.faultless_map.Goals as goal

pub returns : goal.returns
returns c =
    map_reached c.args.kerf (c.args.size.w + c.args.kerf) c.args.wants.now c.in_ok-entries.entries.items (get nat_cmp c.in_ok-map.map) (rw c.w.ensures.value at c.in_ok-entries.ensures.reached)
    (rw c.deref.ensures.value at c.in_ok-map.ensures)
