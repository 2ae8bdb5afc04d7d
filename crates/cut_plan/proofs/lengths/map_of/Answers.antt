use Rattle.std.proofs.Common.{arith}
use Rattle.std.specs.BTreeMap.{get}
use Rattle.std.specs.Ordering.{nat_cmp}
use Rattle.cut_plan.proofs.EntryMaps.{map_more, map_whole}
use Rattle.cut_plan.proofs.lengths.map_of.Goals as goal

pub loop-entry-preserved : goal.loop-entry-preserved
loop-entry-preserved c =
    map_more c.args.entries.now c.loop-entry.entry-index (record { span = 0; worth = 0 }) c.requires (omega arith) (get nat_cmp c.loop-entry.map) (get nat_cmp c.insert.new.self) c.loop-entry.invariant
    c.in_ok-insert.ensures.updates.0

pub returns : goal.returns
returns c = map_whole c.args.entries.now c.loop-entry.entry-index (get nat_cmp c.loop-entry.map) (omega arith) c.loop-entry.invariant
