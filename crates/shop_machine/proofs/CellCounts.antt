-- The sums over part rows are the counts of cells.
use Rattle.std.proofs.Common.{◌≡◌, ℕ, zero, suc, ◌+◌, ◌*◌, ◌<◌, ◌≤◌, Bool, true, false, not, cond, List, [], ◌∷◌, ◌++◌, map, refl, ap, subst, sym, ◌∙◌, arith, inl, inr, true≢false}
use Rattle.std.specs.Prelude.{sum_by, if◌then◌else◌, ◌&&◌, Some}
use Rattle.std.specs.Ordering.{is_eq}
use Rattle.std.specs.FinMap.{values}
use Rattle.std.proofs.lemmas.List.{map-append}
use Rattle.std.proofs.lemmas.List.Sums.{sum_by-cons}
use Rattle.std.proofs.lemmas.Bool.{and_parts}
use Rattle.cut_measure.specs.Codes.{code_cmp}
use Rattle.cut_measure.specs.Names.{Name}
use Rattle.cut_measure.specs.Measures.{Size, below}
use Rattle.cut_tree.proofs.CellSums.{sum_cells, bit, sum_cells-same, sum_cells-add, sum_cells-zero, sum_mark, mark_in, mark_out}
use Rattle.shop_records.specs.declared.records.Part.{Part}
use Rattle.shop_records.specs.declared.records.State.{State}
use Rattle.shop_records.specs.declared.records.State.TheVariants.{Standing, Cut, Kerf, Scrap, Returned, Undone}
use Rattle.shop_records.specs.declared.records.Column.{Column}
use Rattle.shop_records.specs.declared.records.Column.TheVariants as column
use Rattle.shop_records.specs.Same.{same_name}
use Rattle.shop_records.specs.Columns.{is_whole, is_there, is_piece, is_kerf, is_scrap, is_returned, is_counted}
use Rattle.shop_records.specs.Messages.{Texts}
use Rattle.shop_records.specs.Content.{Content, cells_in}
use Rattle.shop_records.specs.WellFormed.{IsWellFormed}
use Rattle.shop_machine.specs.Machine.{Effect, Receives}
use Rattle.shop_machine.specs.History.{acts_of, ReceivedUnit, units_in, units_of, Owner, owner_of, is_gone, standing_as, IsOwner, OneOwner, counts_cell, cells_of_column, TotalsAreCounts}
use Rattle.shop_records.specs.Elements.{IsIn}
use Rattle.shop_records.proofs.Basics.{name_cases, in_append, in_map}
use Rattle.shop_machine.proofs.Accounts.{IsRow, IsWhole, Follows, unit_of, unit_acts}
use Rattle.shop_records.proofs.Puts.{sum_as, sum_none}
use Rattle.shop_machine.proofs.Marks.{mark, sum_by-add, sum_by-one, Apart, apart_append, sum_values-one, sum_by-units}
use Rattle.shop_records.proofs.Entries.{each_value}

abbrev unit_name : ReceivedUnit → Name
unit_name u = u.name

-- ---- units differ by their names

in_below : (n i : ℕ) → IsIn i (below n) → i < n
in_below zero i k = absurd k
in_below (suc n) i k =
    elim (in_append i (below n) (n ∷ []) k) [
      | inl j ↦ (let l : i < n = in_below n i j in omega arith)
      | inr j ↦ elim j [ inl e ↦ omega arith | inr z ↦ absurd z ]
    ]

new_apart : (material batch : List ℕ) (size : Size) (act n : ℕ) → Apart unit_name (map (unit_of material batch size act) (below n))
new_apart material batch size act zero = tt
new_apart material batch size act (suc n) =
    subst (Apart unit_name) (sym (map-append (unit_of material batch size act) (below n) (n ∷ [])))
    (apart_append unit_name (map (unit_of material batch size act) (below n)) (unit_of material batch size act n ∷ []) (new_apart material batch size act n) ((λ y i e. i), tt)
    (λ x y i j e.
    let f = in_map (unit_of material batch size act) (below n) x i in
    let l : f.0 < n = in_below n f.0 f.1 in
    elim j [
      | inl is ↦ (
          let same : n ≡ f.0 = ap (λ (u : ReceivedUnit). u.name.node) (sym is) ∙ ap (λ (k : Name). k.node) e ∙ ap (λ (u : ReceivedUnit). u.name.node) f.2 in
          absurd (omega arith))
      | inr z ↦ z
    ]))

apart_by : (earlier : List Effect) (done : Effect) → Apart unit_name (units_of earlier) → Apart unit_name (units_in (acts_of earlier + 1) done ++ units_of earlier)
apart_by earlier (Receives material batch size count) before =
    apart_append unit_name (map (unit_of material batch size (acts_of earlier + 1)) (below count)) (units_of earlier) (new_apart material batch size (acts_of earlier + 1) count) before
    (λ x y i j e.
    let f = in_map (unit_of material batch size (acts_of earlier + 1)) (below count) x i in
    let a : y.name.act ≤ acts_of earlier = unit_acts earlier y j in
    let b : y.name.act ≡ acts_of earlier + 1 = ap (λ (k : Name). k.act) e ∙ ap (λ (u : ReceivedUnit). u.name.act) f.2 in
    absurd (omega arith))
apart_by earlier _ before = before

units_apart : (effects : List Effect) → Apart unit_name (units_of effects)
units_apart [] = tt
units_apart (done ∷ earlier) = apart_by earlier done (units_apart earlier)

-- ---- sums over units

zero_if : (b : Bool) (n : ℕ) → n ≡ 0 → (if b then n else 0) ≡ 0
zero_if true n e = e
zero_if false n e = refl

if_add : (b : Bool) (m n : ℕ) → (if b then m + n else 0) ≡ (if b then m else 0) + (if b then n else 0)
if_add true m n = refl
if_add false m n = omega arith

and_if : (a b c : Bool) (n : ℕ) → c ≡ true → (if a then cond (b && c) n 0 else 0) ≡ (if a && b then n else 0)
and_if true true c n e = ap (λ d. cond d n 0) e
and_if true false c n e = refl
and_if false b c n e = refl

same_yes : (a b : Name) → a ≡ b → same_name a b ≡ true
same_yes a b e = elim (name_cases a b) [ inl y ↦ y.1 | inr n ↦ absurd (n.0 e) ]

same_no : (a b : Name) → (a ≡ b → ⊥) → same_name a b ≡ false
same_no a b e = elim (name_cases a b) [ inl y ↦ absurd (e y.0) | inr n ↦ n.1 ]

same_is : (a b : Name) → same_name a b ≡ true → a ≡ b
same_is a b e = elim (name_cases a b) [ inl y ↦ y.0 | inr n ↦ absurd (true≢false (sym e ∙ n.1)) ]

abbrev is_of : List ℕ → ReceivedUnit → Bool
is_of code unit = is_eq (code_cmp unit.material code)

-- over the cells of the units of a material
abbrev sum_units : (Name → ℕ → ℕ → ℕ) → List ℕ → List ReceivedUnit → ℕ
sum_units f code units = sum_by (λ unit. if is_of code unit then sum_cells (f unit.name) unit.size.w unit.size.h else 0) units

sum_units-same : (f g : Name → ℕ → ℕ → ℕ) (code : List ℕ) (units : List ReceivedUnit)
    → ((u : ReceivedUnit) → IsIn u units → (x y : ℕ) → x < u.size.w → y < u.size.h → f u.name x y ≡ g u.name x y) → sum_units f code units ≡ sum_units g code units
sum_units-same f g code units same =
    sum_as (λ u. if is_of code u then sum_cells (f u.name) u.size.w u.size.h else 0) (λ u. if is_of code u then sum_cells (g u.name) u.size.w u.size.h else 0) units
    (λ u i. ap (λ n. if is_of code u then n else 0) (sum_cells-same (f u.name) (g u.name) u.size.w u.size.h (same u i)))

sum_units-add : (f g : Name → ℕ → ℕ → ℕ) (code : List ℕ) (units : List ReceivedUnit) → sum_units (λ n x y. f n x y + g n x y) code units ≡ sum_units f code units + sum_units g code units
sum_units-add f g code units =
    sum_as (λ u. if is_of code u then sum_cells (λ x y. f u.name x y + g u.name x y) u.size.w u.size.h else 0)
    (λ u. (if is_of code u then sum_cells (f u.name) u.size.w u.size.h else 0) + (if is_of code u then sum_cells (g u.name) u.size.w u.size.h else 0)) units
    (λ u i. ap (λ n. if is_of code u then n else 0) (sum_cells-add (f u.name) (g u.name) u.size.w u.size.h) ∙ if_add (is_of code u) (sum_cells (f u.name) u.size.w u.size.h) (sum_cells (g u.name) u.size.w u.size.h))
    ∙ sum_by-add (λ u. if is_of code u then sum_cells (f u.name) u.size.w u.size.h else 0) (λ u. if is_of code u then sum_cells (g u.name) u.size.w u.size.h else 0) units

-- a part lies in a unit
record HasUnit (units : List ReceivedUnit) (v : Part) : Type 0 where
  unit : ReceivedUnit
  received : IsIn unit units
  root : unit.name ≡ v.root
  material : unit.material ≡ v.material
  across : v.x + v.size.w ≤ unit.size.w
  down : v.y + v.size.h ≤ unit.size.h

module _ (q : Part → Bool) (code : List ℕ) (units : List ReceivedUnit) (apart : Apart unit_name units) where
  abbrev weight : Part → ℕ
  weight v = if is_eq (code_cmp v.material code) && q v then v.size.w * v.size.h else 0

  abbrev marked : Part → Name → ℕ → ℕ → ℕ
  marked v n x y = mark (q v && same_name v.root n) v x y

  and_no : (b : Bool) → b && false ≡ false
  and_no true = refl
  and_no false = refl

  -- the cells of one part, in its unit
  one_part : (v : Part) → HasUnit units v → sum_units (marked v) code units ≡ weight v
  one_part v has =
      let u : ReceivedUnit = has.unit in
      sum_by-one unit_name (λ u. if is_of code u then sum_cells (marked v u.name) u.size.w u.size.h else 0) units u apart has.received
      (λ z i other.
      let off : q v && same_name v.root z.name ≡ false = ap (λ b. q v && b) (same_no v.root z.name (λ e. other (sym e ∙ sym has.root))) ∙ and_no (q v) in
      zero_if (is_of code z) (sum_cells (marked v z.name) z.size.w z.size.h)
      (sum_cells-same (marked v z.name) (λ x y. 0) z.size.w z.size.h (λ x y xw yh. mark_out (q v && same_name v.root z.name) v.x v.y v.size.w v.size.h x y (λ t a b c d. true≢false (sym t ∙ off))) ∙ sum_cells-zero z.size.w z.size.h))
      ∙ ap (λ n. if is_of code u then n else 0) (sum_mark (q v && same_name v.root u.name) v.x v.y v.size.w v.size.h u.size.w u.size.h has.across has.down)
      ∙ and_if (is_of code u) (q v) (same_name v.root u.name) (v.size.w * v.size.h) (same_yes v.root u.name (sym has.root))
      ∙ ap (λ n. if is_eq (code_cmp n code) && q v then v.size.w * v.size.h else 0) has.material

  -- all parts, cell by cell
  swapped : (vs : List Part) → ((v : Part) → IsIn v vs → HasUnit units v) → sum_by weight vs ≡ sum_units (λ n x y. sum_by (λ v. marked v n x y) vs) code units
  swapped [] has =
      sym (sum_none (λ u. if is_of code u then sum_cells (λ x y. 0) u.size.w u.size.h else 0) units
      (λ u i. zero_if (is_of code u) (sum_cells (λ x y. 0) u.size.w u.size.h) (sum_cells-zero u.size.w u.size.h)))
  swapped (v ∷ vs) has =
      sum_by-cons weight v vs
      ∙ ap (λ n. n + sum_by weight vs) (sym (one_part v (has v (inl refl))))
      ∙ ap (λ n. sum_units (marked v) code units + n) (swapped vs (λ z i. has z (inr i)))
      ∙ sym (sum_units-add (marked v) (λ n x y. sum_by (λ v. marked v n x y) vs) code units)
      ∙ sum_units-same (λ n x y. marked v n x y + sum_by (λ v. marked v n x y) vs) (λ n x y. sum_by (λ v. marked v n x y) (v ∷ vs)) code units
      (λ u i x y xw yh. sym (sum_by-cons (λ v. marked v u.name x y) v vs))

-- ---- which rows a column counts

there_whole : (s : State) → is_there s ≡ true → is_gone s ≡ false
there_whole (Cut job) e = absurd (true≢false (sym e))
there_whole (Undone job) e = absurd (true≢false (sym e))
there_whole _ e = refl

piece_whole : (s : State) → is_piece s ≡ true → is_gone s ≡ false
piece_whole (Cut job) e = absurd (true≢false (sym e))
piece_whole (Undone job) e = absurd (true≢false (sym e))
piece_whole _ e = refl

kerf_whole : (s : State) → is_kerf s ≡ true → is_gone s ≡ false
kerf_whole (Cut job) e = absurd (true≢false (sym e))
kerf_whole (Undone job) e = absurd (true≢false (sym e))
kerf_whole _ e = refl

scrap_whole : (s : State) → is_scrap s ≡ true → is_gone s ≡ false
scrap_whole (Cut job) e = absurd (true≢false (sym e))
scrap_whole (Undone job) e = absurd (true≢false (sym e))
scrap_whole _ e = refl

returned_whole : (s : State) → is_returned s ≡ true → is_gone s ≡ false
returned_whole (Cut job) e = absurd (true≢false (sym e))
returned_whole (Undone job) e = absurd (true≢false (sym e))
returned_whole _ e = refl

there_as : (s : State) → is_there s ≡ is_there (standing_as s)
there_as Standing = refl
there_as _ = refl

piece_as : (s : State) → is_piece s ≡ is_piece (standing_as s)
piece_as Standing = refl
piece_as _ = refl

kerf_as : (s : State) → is_kerf s ≡ is_kerf (standing_as s)
kerf_as Standing = refl
kerf_as _ = refl

scrap_as : (s : State) → is_scrap s ≡ is_scrap (standing_as s)
scrap_as Standing = refl
scrap_as _ = refl

returned_as : (s : State) → is_returned s ≡ is_returned (standing_as s)
returned_as Standing = refl
returned_as _ = refl

-- a column of rows that aren't cut, which counts a row as its owner
record IsByOwner (c : Column) : Type 0 where
  uncut : (r : Part) → is_counted c r ≡ true → is_gone r.state ≡ false
  as_owner : (u : Name) (i j : ℕ) (w : Owner) (r : Part) → r.root ≡ u → IsOwner w i j r → is_counted c r ≡ counts_cell c u (Some w)

same_whole : (u : Name) (i j : ℕ) (w : Owner) (r : Part) → r.root ≡ u → IsOwner w i j r → same_name r.name r.root ≡ same_name w.name u
same_whole u i j w r e o = ap (λ n. same_name r.name n) e ∙ ap (λ n. same_name n u) o.name

stock_by : IsByOwner column.Stock
stock_by = record {
  uncut = λ r e. there_whole r.state (and_parts (is_there r.state) (is_whole r) e).0;
  as_owner = λ u i j w r e o.
      ap (λ b. b && is_whole r) (there_as r.state ∙ ap is_there o.state) ∙ ap (λ b. is_there w.state && b) (same_whole u i j w r e o);
}

rack_by : IsByOwner column.Rack
rack_by = record {
  uncut = λ r e. there_whole r.state (and_parts (is_there r.state) (not (is_whole r)) e).0;
  as_owner = λ u i j w r e o.
      ap (λ b. b && not (is_whole r)) (there_as r.state ∙ ap is_there o.state) ∙ ap (λ b. is_there w.state && not b) (same_whole u i j w r e o);
}

pieces_by : IsByOwner column.Pieces
pieces_by = record { uncut = λ r e. piece_whole r.state e; as_owner = λ u i j w r e o. piece_as r.state ∙ ap is_piece o.state }

kerf_by : IsByOwner column.Kerf
kerf_by = record { uncut = λ r e. kerf_whole r.state e; as_owner = λ u i j w r e o. kerf_as r.state ∙ ap is_kerf o.state }

scrap_by : IsByOwner column.Scrap
scrap_by = record { uncut = λ r e. scrap_whole r.state e; as_owner = λ u i j w r e o. scrap_as r.state ∙ ap is_scrap o.state }

returned_by : IsByOwner column.Returned
returned_by = record { uncut = λ r e. returned_whole r.state e; as_owner = λ u i j w r e o. returned_as r.state ∙ ap is_returned o.state }

-- ---- each total

and_yes : (a b : Bool) → b ≡ true → a && b ≡ a
and_yes true b e = e
and_yes false b e = refl

module _ (texts : Texts) (effects : List Effect) (content : Content) (well_formed : IsWellFormed texts content) (s : Follows effects content) where
  has_unit : (v : Part) → IsIn v (values content.parts) → HasUnit (units_of effects) v
  has_unit = each_value content.parts (HasUnit (units_of effects)) (λ k v g.
      let r : IsRow effects v = s.rows k v g in
      record { unit = r.unit; received = r.received; root = r.root; material = r.material; across = r.across; down = r.down })

  cell_counted : (c : Column) → IsByOwner c → (u : ReceivedUnit) (x y : ℕ) → OneOwner effects content u.name x y
      → sum_by (λ v. marked (is_counted c) [] (units_of effects) (units_apart effects) v u.name x y) (values content.parts) ≡ bit (counts_cell c u.name (owner_of effects u.name x y))
  cell_counted c by u x y o =
      let p : Part = o.part in
      sum_values-one content.parts (λ v. mark (is_counted c v && same_name v.root u.name) v x y) p.name p o.kept
      (λ k r g other. mark_out (is_counted c r && same_name r.root u.name) r.x r.y r.size.w r.size.h x y (λ t left right top bottom.
      let root : r.root ≡ u.name = same_is r.root u.name (and_parts (is_counted c r) (same_name r.root u.name) t).1 in
      let same : r ≡ p = o.alone k r g (record { root = root; whole = by.uncut r (and_parts (is_counted c r) (same_name r.root u.name) t).0; right = left; left = right; below = top; above = bottom }) in
      other (sym (well_formed.parts k r g).named ∙ ap (λ (v : Part). v.name) same)))
      ∙ mark_in (is_counted c p && same_name p.root u.name) p.x p.y p.size.w p.size.h x y o.holds.right o.holds.left o.holds.below o.holds.above
      ∙ ap bit (and_yes (is_counted c p) (same_name p.root u.name) (same_yes p.root u.name o.holds.root) ∙ by.as_owner u.name x y o.owner p o.holds.root o.same ∙ ap (counts_cell c u.name) (sym o.owned))

  cell_received : (u : ReceivedUnit) → IsIn u (units_of effects) → (x y : ℕ) → x < u.size.w → y < u.size.h
      → sum_by (λ v. marked (is_counted column.Received) [] (units_of effects) (units_apart effects) v u.name x y) (values content.parts) ≡ bit (counts_cell column.Received u.name (owner_of effects u.name x y))
  cell_received u i x y xw yh =
      let whole : IsWhole content.parts u = s.wholes u i in
      let p : Part = whole.row in
      let px : p.x ≡ 0 = whole.x in let py : p.y ≡ 0 = whole.y in let pw : p.size.w ≡ u.size.w = ap (λ (e : Size). e.w) whole.size in let ph : p.size.h ≡ u.size.h = ap (λ (e : Size). e.h) whole.size in
      let name : p.name ≡ u.name = (well_formed.parts u.name p whole.kept).named in
      sum_values-one content.parts (λ v. mark (is_whole v && same_name v.root u.name) v x y) u.name p whole.kept
      (λ k r g other. mark_out (is_whole r && same_name r.root u.name) r.x r.y r.size.w r.size.h x y (λ t left right top bottom.
      let root : r.root ≡ u.name = same_is r.root u.name (and_parts (is_whole r) (same_name r.root u.name) t).1 in
      let own : r.name ≡ r.root = same_is r.name r.root (and_parts (is_whole r) (same_name r.root u.name) t).0 in
      other (sym (well_formed.parts k r g).named ∙ own ∙ root)))
      ∙ mark_in (is_whole p && same_name p.root u.name) p.x p.y p.size.w p.size.h x y (omega arith) (omega arith) (omega arith) (omega arith)
      ∙ ap bit (and_yes (is_whole p) (same_name p.root u.name) (same_yes p.root u.name whole.root) ∙ same_yes p.name p.root (name ∙ sym whole.root))

  one_by_one : (c : Column) (code : List ℕ) → cells_of_column c effects code ≡ sum_units (λ n x y. bit (counts_cell c n (owner_of effects n x y))) code (units_of effects)
  one_by_one c code = sum_by-units (λ (e : Name × (ℕ × ℕ)). bit (counts_cell c e.0 (owner_of effects e.0 e.1.0 e.1.1))) (is_of code) (units_of effects)

  all_counted : (c : Column) → ((u : ReceivedUnit) → IsIn u (units_of effects) → (x y : ℕ) → x < u.size.w → y < u.size.h
      → sum_by (λ v. marked (is_counted c) [] (units_of effects) (units_apart effects) v u.name x y) (values content.parts) ≡ bit (counts_cell c u.name (owner_of effects u.name x y)))
      → (code : List ℕ) → cells_in c code (values content.parts) ≡ cells_of_column c effects code
  all_counted c cell code =
      swapped (is_counted c) code (units_of effects) (units_apart effects) (values content.parts) has_unit
      ∙ sum_units-same (λ n x y. sum_by (λ v. mark (is_counted c v && same_name v.root n) v x y) (values content.parts)) (λ n x y. bit (counts_cell c n (owner_of effects n x y))) code (units_of effects) cell
      ∙ sym (one_by_one c code)

  by_owner : (c : Column) → IsByOwner c → (code : List ℕ) → cells_in c code (values content.parts) ≡ cells_of_column c effects code
  by_owner c by code = all_counted c (λ u i x y xw yh. cell_counted c by u x y (s.cells u i x y xw yh)) code

  pub counted : (code : List ℕ) (c : Column) → cells_in c code (values content.parts) ≡ cells_of_column c effects code
  counted code column.Received = all_counted column.Received cell_received code
  counted code column.Stock = by_owner column.Stock stock_by code
  counted code column.Rack = by_owner column.Rack rack_by code
  counted code column.Pieces = by_owner column.Pieces pieces_by code
  counted code column.Kerf = by_owner column.Kerf kerf_by code
  counted code column.Scrap = by_owner column.Scrap scrap_by code
  counted code column.Returned = by_owner column.Returned returned_by code

  -- the totals of the content are the counts of cells
  pub totals_counted : TotalsAreCounts effects content
  totals_counted code = λ i. record {
    received = counted code column.Received i;
    stock = counted code column.Stock i;
    rack = counted code column.Rack i;
    pieces = counted code column.Pieces i;
    kerf = counted code column.Kerf i;
    scrap = counted code column.Scrap i;
    returned = counted code column.Returned i;
  }
