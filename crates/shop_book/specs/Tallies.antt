-- What is kept beside the parts of a book in memory: the sums of their cells, and the names of those that stand.
use Rattle.std.specs.Prelude.{◌+◌, ◌≤◌, ℕ, IsTrue, List, Vec, vec_len, vec_capacity}
use Rattle.std.specs.declared.alloc.Global.{Global}
use Rattle.cut_measure.specs.Codes.{code_cmp}
use Rattle.cut_measure.specs.Names.{name_cmp}
use Rattle.shop_records.specs.declared.records.Part.{Part}
use Rattle.shop_rows.specs.Keys.{part_key}
use Rattle.shop_rows.specs.Open.{AreInOrder, AreListed, HaveSpareNames}
use Rattle.shop_rows.specs.PartRows.{HasCapacity}
use Rattle.shop_rows.specs.Rows.{rise}
use Rattle.shop_rows.specs.Sums.{sums_key, AreSumsOf, all_small}
use Rattle.shop_rows.specs.declared.names.NameList.{NameList}
use Rattle.shop_rows.specs.declared.part_rows.PartRows.{PartRows}
use Rattle.shop_rows.specs.declared.sums.Sums.{Sums}

-- the parts rise by name, the sums are those of the parts, and the lists have the names of the parts that stand
pub record Tallies (rows : List Part) (totals : List Sums) (lists : List NameList) : Type 0 where
  pub rising : IsTrue (rise part_key name_cmp rows)
  pub small : IsTrue (all_small rows)
  pub materials : IsTrue (rise sums_key code_cmp totals)
  pub sums : AreSumsOf rows totals
  pub order : AreInOrder lists
  pub listed : AreListed rows lists

-- there is room for so many more, which are of the materials of these parts
pub record HaveSpareCapacity (count : ℕ) (rows : List Part) (parts : PartRows) (totals : Vec Sums Global) (lists : List NameList) : Type 0 where
  pub spare : HasCapacity count parts
  pub sums : vec_len totals + count ≤ vec_capacity totals
  pub names : HaveSpareNames count rows lists
