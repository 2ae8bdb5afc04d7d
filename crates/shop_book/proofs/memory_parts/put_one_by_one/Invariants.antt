use Rattle.std.proofs.Common.{◌≡◌, ◌+◌, ◌-◌, ℕ, List, length, drop}
use Rattle.cut_measure.specs.Names.{name_cmp}
use Rattle.shop_records.specs.declared.records.Part.{Part}
use Rattle.shop_records.specs.Content.{with_parts}
use Rattle.shop_rows.specs.Keys.{part_key}
use Rattle.shop_rows.specs.PartRows.{parts_in, AreKnown}
use Rattle.shop_rows.specs.Rows.{map_of}
use Rattle.shop_book.specs.Tallies.{HaveSpareCapacity, Tallies}
use Rattle.shop_book.proofs.memory_parts.put_one_by_one.Given as goal

abbrev pub invariant-loop-part : goal.invariant-loop-part
invariant-loop-part l =
    record {
      known : AreKnown l.parts;
      tally : Tallies (parts_in l.parts) l.totals.items l.lists.items;
      spares : HaveSpareCapacity (length l.rows - l.part-index) l.rows l.parts l.totals l.lists.items;
      further : (count : ℕ) (more : List Part) → HaveSpareCapacity (length l.rows + count) more l.fn.parts l.fn.totals l.fn.lists.items
          → HaveSpareCapacity (length l.rows - l.part-index + count) more l.parts l.totals l.lists.items;
      rest : with_parts (drop l.part-index l.rows) (map_of part_key name_cmp (parts_in l.parts)) ≡ with_parts l.rows (map_of part_key name_cmp (parts_in l.fn.parts));
    }
