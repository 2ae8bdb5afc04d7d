-- Room for parts, and what is kept beside them where they are the same.
use Rattle.std.proofs.Common.{◌≡◌, ◌+◌, ◌<◌, ◌≤◌, ℕ, List, [], ◌∷◌, length, get_or, sym, subst, zero, suc, arith}
use Rattle.std.specs.Prelude.{Vec}
use Rattle.std.specs.declared.alloc.Global.{Global}
use Rattle.cut_measure.specs.Names.{name_cmp}
use Rattle.shop_records.specs.declared.records.Part.{Part}
use Rattle.shop_rows.specs.Keys.{part_key}
use Rattle.shop_rows.specs.Open.{names_of, spare_of, AreInOrder, HaveSpareNames}
use Rattle.shop_rows.specs.Rows.{row_at}
use Rattle.shop_rows.specs.declared.names.NameList.{NameList}
use Rattle.shop_rows.specs.declared.part_rows.PartRows.{PartRows}
use Rattle.shop_rows.specs.declared.sums.Sums.{Sums}
use Rattle.shop_rows.proofs.Listed.{still_listed}
use Rattle.shop_rows.proofs.Packed.{spare_less}
use Rattle.shop_book.specs.Tallies.{HaveSpareCapacity, Tallies}

-- lists with the same names
pub tally_same : (rows : List Part) (totals : List Sums) (old new : List NameList) → ((code : List ℕ) → names_of code new ≡ names_of code old) → AreInOrder new → Tallies rows totals old → Tallies rows totals new
tally_same rows totals old new same order tally = record {
  rising = tally.rising;
  small = tally.small;
  materials = tally.materials;
  sums = tally.sums;
  order = order;
  listed = still_listed (λ name. row_at part_key name_cmp name rows) old new same tally.listed;
}

-- room for fewer
pub spares_less : (count : ℕ) (rows : List Part) (parts : PartRows) (totals : Vec Sums Global) (lists : List NameList) → HaveSpareCapacity (count + 1) rows parts totals lists → HaveSpareCapacity count rows parts totals lists
spares_less count rows parts totals lists spares = record {
  spare = spare_less (count + 1) count parts (omega arith) spares.spare;
  sums = let h = spares.sums in omega (arith, h);
  names = λ k d within. let h = spares.names k d within in omega (arith, h);
}

pub spares_fewer : (more count : ℕ) (rows : List Part) (parts : PartRows) (totals : Vec Sums Global) (lists : List NameList) → count ≤ more → HaveSpareCapacity more rows parts totals lists → HaveSpareCapacity count rows parts totals lists
spares_fewer more count rows parts totals lists le spares = record {
  spare = spare_less more count parts le spares.spare;
  sums = let h = spares.sums in omega (arith, h, le);
  names = λ k d within. let h = spares.names k d within in omega (arith, h, le);
}

-- room for one of them
pub spares_one : (count i : ℕ) (rows : List Part) (part : Part) (parts : PartRows) (totals : Vec Sums Global) (lists : List NameList) → 1 ≤ count → i < length rows → part ≡ get_or rows i part
    → HaveSpareCapacity count rows parts totals lists → HaveSpareCapacity 1 (part ∷ []) parts totals lists
spares_one count i rows part parts totals lists some within is spares = record {
  spare = spare_less count 1 parts some spares.spare;
  sums = let h = spares.sums in omega (arith, h, some);
  names = at;
}
  where
    own : 1 ≤ spare_of part.material lists
    own = subst (λ (p : Part). 1 ≤ spare_of p.material lists) (sym is) (let h = spares.names i part within in omega (arith, h, some))

    at : HaveSpareNames 1 (part ∷ []) lists
    at zero d inside = own
    at (suc k) d inside = absurd (omega arith)
