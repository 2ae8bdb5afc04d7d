use Rattle.std.proofs.Common.{◌-◌, Option, length, take}
use Rattle.cut_measure.specs.Names.{Name, name_cmp}
use Rattle.shop_rows.specs.Keys.{part_key}
use Rattle.shop_records.specs.declared.records.Part.{Part}
use Rattle.shop_rows.specs.Open.{finds_with_all, AreInOrder, HaveSpareNames, ListsParts, KeepMaterials}
use Rattle.shop_rows.proofs.names.list_all.Given as goal

abbrev pub invariant-loop-part : goal.invariant-loop-part
invariant-loop-part l =
    record {
      order : AreInOrder l.lists.items;
      spare : HaveSpareNames (length l.parts - l.part-index) l.parts l.lists.items;
      listed : (find : Name → Option Part) → ListsParts find l.fn.lists.items → KeepMaterials find l.parts → ListsParts (finds_with_all part_key name_cmp (take l.part-index l.parts) find) l.lists.items;
    }
