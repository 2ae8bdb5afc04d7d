-- A job's part and the rows that its plan lays in it.
use Rattle.std.proofs.Common.{◌≡◌, ℕ, ◌+◌, ◌*◌, ◌≤◌, List, map, true, nat_eq, ◌∙◌, arith}
use Rattle.std.specs.Prelude.{All, nat_le, sum_by}
use Rattle.std.proofs.Math.Nat.{mul-le-mul_left, mul-le-mul_right}
use Rattle.std.proofs.lemmas.Bool.{and_parts, leb-true, eqb-true}
use Rattle.cut_measure.specs.declared.ranges.TheConstants.{MAX_WIDTH, MAX_HEIGHT, MAX_NUMBERS}
use Rattle.cut_measure.specs.Measures.{CutParams}
use Rattle.cut_tree.specs.declared.lay.Row.{Row}
use Rattle.cut_tree.specs.Tree.{Tree}
use Rattle.cut_tree.specs.Cells.{Outcome}
use Rattle.cut_tree.specs.Laying.{IsLaid}
use Rattle.cut_tree.proofs.CellCounts.{inside, add_up, count_all}
use Rattle.shop_records.specs.declared.records.Job.{Job}
use Rattle.shop_records.specs.declared.records.Part.{Part}
use Rattle.shop_records.specs.Columns.{is_reserved_for}
use Rattle.shop_machine.specs.Ending.{is_part_of, row_part}
use Rattle.shop_records.specs.Elements.{IsIn}
use Rattle.shop_records.proofs.Basics.{all_in}
use Rattle.shop_records.proofs.Puts.{sum_map}

-- a laid row has a cell and lies in the unit
pub record IsInside (w h : ℕ) (r : Row) : Type 0 where
  pub some_width : 1 ≤ r.w
  pub some_height : 1 ≤ r.h
  pub right : r.x + r.w ≤ w
  pub bottom : r.y + r.h ≤ h

pub all_inside : (t : Tree) (w h k : ℕ) (outcome : ℕ → Outcome) (laid : List Row) → IsLaid t w h k outcome laid → All (IsInside w h) laid
all_inside t w h k outcome laid is i d within =
    let some = is.some_cell i d within in
    let in' = inside t w h k outcome laid is i d within in
    record { some_width = some.0; some_height = some.1; right = in'.0; bottom = in'.1 }

pub row_inside : (t : Tree) (w h k : ℕ) (outcome : ℕ → Outcome) (laid : List Row) → IsLaid t w h k outcome laid → (r : Row) → IsIn r laid → IsInside w h r
row_inside t w h k outcome laid is = all_in (IsInside w h) laid (all_inside t w h k outcome laid is)

-- the cells of the parts that laid rows become are those of the unit
pub part_cells : (part : Part) (params : CutParams) (act : ℕ) (t : Tree) (w h k : ℕ) (outcome : ℕ → Outcome) (laid : List Row) → IsLaid t w h k outcome laid
    → sum_by (λ (p : Part). p.size.w * p.size.h) (map (row_part part params act) laid) ≡ w * h
part_cells part params act t w h k outcome laid is =
    sum_map (λ (p : Part). p.size.w * p.size.h) (row_part part params act) laid ∙ add_up t w h k outcome laid is (λ n o a b. true) ∙ count_all w h

-- what the test of a job's part says
pub record HasPart (j : Job) (part : Part) : Type 0 where
  pub least : 1 ≤ j.act
  pub most : j.act ≤ MAX_NUMBERS
  pub width : part.size.w ≡ j.plan.w
  pub height : part.size.h ≡ j.plan.h
  pub right : part.x + part.size.w ≤ MAX_WIDTH
  pub bottom : part.y + part.size.h ≤ MAX_HEIGHT

pub has_part : (j : Job) (part : Part) → is_part_of j part ≡ true → HasPart j part
has_part j part e =
    let f = and_parts _ (nat_le (part.y + part.size.h) MAX_HEIGHT) e in
    let d = and_parts _ (nat_le (part.x + part.size.w) MAX_WIDTH) f.0 in
    let c = and_parts _ (nat_eq part.size.h j.plan.h) d.0 in
    let b = and_parts _ (nat_eq part.size.w j.plan.w) c.0 in
    let a = and_parts _ (is_reserved_for j.act part.state) b.0 in
    let n = and_parts _ _ a.0 in
    record {
      least = leb-true 1 j.act n.0;
      most = leb-true j.act MAX_NUMBERS n.1;
      width = eqb-true part.size.w j.plan.w b.1;
      height = eqb-true part.size.h j.plan.h c.1;
      right = leb-true (part.x + part.size.w) MAX_WIDTH d.1;
      bottom = leb-true (part.y + part.size.h) MAX_HEIGHT f.1;
    }

-- a unit's cells are few
pub few_cells : (w h : ℕ) → w ≤ MAX_WIDTH → h ≤ MAX_HEIGHT → w * h ≤ 12000000000
few_cells w h wide high = let a = mul-le-mul_right h wide in let b = mul-le-mul_left MAX_WIDTH high in omega (arith, a, b)
