-- A job that may be undone: the rows that it left.
use Rattle.std.proofs.Common.{◌≡◌, ℕ, ◌+◌, ◌*◌, ◌≤◌, ◌<◌, List, map, Bool, true, false, refl, sym, ap, subst, ◌∙◌, arith}
use Rattle.std.specs.Prelude.{Option, Some, None, ◌==◌, ◌&&◌, not, if◌then◌else◌, sum_by, count_by}
use Rattle.std.specs.declared.cmp.Ordering.TheVariants.{Less}
use Rattle.std.specs.Ordering.{is_eq}
use Rattle.std.specs.FinMap.{get, insert, values}
use Rattle.std.proofs.lemmas.Bool.{and_parts, eq-eqb, not-false}
use Rattle.cut_measure.specs.Codes.{code_cmp}
use Rattle.cut_measure.specs.Names.{Name, name_cmp}
use Rattle.cut_tree.specs.declared.lay.Row.{Row}
use Rattle.cut_tree.specs.declared.halts.Stop.{Stop}
use Rattle.cut_tree.specs.Tree.{count_of}
use Rattle.cut_tree.specs.Cells.{Outcome}
use Rattle.cut_tree.specs.Stops.{outcome_of}
use Rattle.cut_tree.specs.Laying.{IsLaid}
use Rattle.cut_tree.specs.Counting.{is_demand_piece as is_owner_of}
use Rattle.cut_tree.proofs.CoveredCells as covered
use Rattle.cut_tree.proofs.OneLaidList.{laid_few}
use Rattle.cut_tree.proofs.CellCounts.{add_up, count_all}
use Rattle.shop_records.specs.declared.records.Material.{Material}
use Rattle.shop_records.specs.declared.records.Part.{Part}
use Rattle.shop_records.specs.declared.records.State.TheVariants.{Standing, Cut, Undone}
use Rattle.shop_records.specs.declared.records.Job.{Job}
use Rattle.shop_records.specs.declared.records.JobHalt.{JobHalt}
use Rattle.shop_records.specs.declared.records.JobState.{JobState}
use Rattle.shop_records.specs.declared.records.JobState.TheVariants as job
use Rattle.shop_records.specs.declared.refusals.Refusal.TheVariants.{PartsMoved, StoreFault}
use Rattle.shop_records.specs.Columns.{is_waiting, is_piece_for}
use Rattle.shop_records.specs.SameRows.{same_state, same_parts}
use Rattle.shop_records.specs.Content.{Content, material_at, part_at, job_at, halt_at, demand_at, totals_for, parts_named, in_state, material_of, with_parts}
use Rattle.shop_records.specs.Elements.{IsIn}
use Rattle.shop_records.proofs.Basics.{same_some, map_in, in_map, earlier_node, get_other}
use Rattle.shop_records.proofs.Basics.{names_total, names_same}
use Rattle.shop_records.proofs.Puts.{Pairwise, pairs_in, pairs_more, map_pairs, sum_map, sum_as, sum_none, sum_over}
use Rattle.shop_records.proofs.Entries.{each_value}
use Rattle.shop_records.proofs.SameRows.{states_equal, parts_equal}
use Rattle.shop_machine.specs.Ending.{row_part, state_after_cut, IsWork, fits_part}
use Rattle.shop_machine.specs.Recounts.{pieces_in}
use Rattle.shop_machine.specs.Undoing.{stop_of, laid_by, left_parts, are_as_left, stop_refusal, back_refusal, undo_refusal}
use Rattle.shop_machine.proofs.AddedUp.{cells_left, is_uncut}
use Rattle.shop_machine.proofs.Allowed.{none_of}
use Rattle.shop_machine.proofs.Cells.{Named}
use Rattle.shop_machine.proofs.EndingStep.{after_cut_piece, after_cut_uncut}
use Rattle.shop_machine.proofs.Grown.{IsStock}
use Rattle.shop_machine.proofs.PartStep.{less_apart}
use Rattle.shop_machine.proofs.PutBack.{in_filter, filter_in, value_in, not_made, sum_replaced}

-- The job is over, its part is cut by it, and the parts that are named after it are those that were laid.
pub record IsUndoable (m : Content) (j : Job) (row : Part) (material : Material) (outcome : ℕ → Outcome) (laid : List Row) : Type 0 where
  pub found : job_at m j.act ≡ Some j
  pub on : part_at m row.name ≡ Some row
  pub part : j.part ≡ row.name
  pub known : material_at m row.material ≡ Some material
  pub cut : row.state ≡ Cut j.act
  pub over : is_waiting j.state ≡ false
  pub is_laid : IsLaid j.plan.tree row.size.w row.size.h material.limits.kerf outcome laid
  pub few : (d : ℕ) → pieces_in d laid ≤ count_of j.plan.tree d
  pub left : parts_named m j.act ≡ map (row_part row material.limits j.act) laid

-- ---- from what isn't refused

stop_over : (j : Job) (s : JobState) (halt : Option JobHalt) (end : Stop) → stop_of j s halt ≡ Some end → is_waiting s ≡ false
stop_over j job.Waiting halt end e = cc
stop_over j job.Done halt end e = refl
stop_over j job.Broken halt end e = refl
stop_over j job.Released halt end e = refl
stop_over j job.Undone halt end e = refl

module _ (m : Content) (stock : IsStock m) (number : ℕ) (j : Job) (part : Part) (material : Material) (work : IsWork m number j part material)
    (end : Stop) (ended : stop_of j j.state (halt_at m j.act) ≡ Some end) where
  part_named : part.name ≡ j.part
  part_named = (stock.parts j.part part work.on).named

  -- the same of the rows that are found
  refusal_is : undo_refusal m (job_at m number) ≡ back_refusal end j (Some part) (Some material) (parts_named m j.act) (demand_at m) (totals_for m (Some part))
  refusal_is =
      ap (undo_refusal m) work.found
      ∙ ap (λ s. stop_refusal s j (part_at m j.part) (material_of m (part_at m j.part)) (parts_named m j.act) (demand_at m) (totals_for m (part_at m j.part))) ended
      ∙ ap (λ o. back_refusal end j o (material_of m o) (parts_named m j.act) (demand_at m) (totals_for m o)) work.on
      ∙ ap (λ o. back_refusal end j (Some part) o (parts_named m j.act) (demand_at m) (totals_for m (Some part))) work.of

  -- where the parts are as the job left them, it may be undone
  pub as_left : are_as_left end j part material.limits (parts_named m j.act) ≡ true → IsUndoable m j part material (outcome_of end) (laid_by end j)
  as_left is =
      let both = and_parts (same_state part.state (Cut j.act)) (same_parts (parts_named m j.act) (left_parts end j part material.limits)) is in
      let row = stock.jobs number j work.found in
      let plan = row.plan in
      let same : row.on.row ≡ part = same_some row.on.row part (sym row.on.found ∙ work.on) in
      let of : row.on.material ≡ material = same_some row.on.material material (sym row.on.known ∙ ap (λ (p : Part). material_at m p.material) same ∙ work.of) in
      let wide : j.plan.w ≡ part.size.w = row.on.width ∙ ap (λ (p : Part). p.size.w) same in
      let high : j.plan.h ≡ part.size.h = row.on.height ∙ ap (λ (p : Part). p.size.h) same in
      let kerf : j.plan.kerf ≡ material.limits.kerf = row.on.kerf ∙ ap (λ (x : Material). x.limits.kerf) of in
      let some_width = plan.some_width in
      let some_height = plan.some_height in
      let laid = covered.laid j.plan.tree j.plan.w j.plan.h j.plan.kerf (outcome_of end) (omega (arith, some_width)) (omega (arith, some_height)) plan.shaped in
      record {
        found = ap (λ n. job_at m n) row.numbered ∙ work.found;
        on = ap (λ n. part_at m n) part_named ∙ work.on;
        part = sym part_named;
        known = work.of;
        cut = states_equal part.state (Cut j.act) both.0;
        over = stop_over j j.state (halt_at m j.act) end ended;
        is_laid = subst (λ k. IsLaid j.plan.tree part.size.w part.size.h k (outcome_of end) (laid_by end j)) kerf
            (subst (λ h. IsLaid j.plan.tree part.size.w h j.plan.kerf (outcome_of end) (laid_by end j)) high
            (subst (λ w. IsLaid j.plan.tree w j.plan.h j.plan.kerf (outcome_of end) (laid_by end j)) wide laid));
        few = λ d. laid_few j.plan.tree j.plan.w j.plan.h j.plan.kerf (outcome_of end) (laid_by end j) d plan.shaped some_width some_height laid;
        left = parts_equal (parts_named m j.act) (left_parts end j part material.limits) both.1;
      }

  -- what isn't refused may be undone
  pub undoable : undo_refusal m (job_at m number) ≡ None → IsUndoable m j part material (outcome_of end) (laid_by end j)
  undoable allowed =
      let fits = none_of (not (fits_part j part)) StoreFault _ (sym refusal_is ∙ allowed) in
      let test = none_of (not (are_as_left end j part material.limits (parts_named m j.act))) PartsMoved _ fits.1 in
      as_left (not-false (are_as_left end j part material.limits (parts_named m j.act)) test.0)

-- ---- its rows

module _ (m : Content) (named : Named m.parts) (j : Job) (row : Part) (material : Material) (outcome : ℕ → Outcome) (laid : List Row) (u : IsUndoable m j row material outcome laid) where
  abbrev pub made : List Part
  made = map (row_part row material.limits j.act) laid

  abbrev pub outgoing : List Part
  outgoing = map (in_state (Undone j.act)) made

  pub there : (r : Row) → IsIn r laid → part_at m (record { act = j.act; node = r.node }) ≡ Some (row_part row material.limits j.act r)
  there r i =
      let among = subst (IsIn (row_part row material.limits j.act r)) (sym u.left) (map_in (row_part row material.limits j.act) laid r i) in
      let f = in_filter (λ (p : Part). p.name.act == j.act) (values m.parts) (row_part row material.limits j.act r) among in
      each_value m.parts (λ (q : Part). part_at m q.name ≡ Some q) (λ k q is. ap (λ n. part_at m n) (named k q is) ∙ is) (row_part row material.limits j.act r) f.0

  pub all : (n : Name) (q : Part) → get m.parts n ≡ Some q → n.act ≡ j.act → (r : Row) × IsIn r laid × (q ≡ row_part row material.limits j.act r)
  all n q k e =
      let i = filter_in (λ (p : Part). p.name.act == j.act) (values m.parts) q (value_in m.parts n q k) (eq-eqb q.name.act j.act (ap (λ (v : Name). v.act) (named n q k) ∙ e)) in
      in_map (row_part row material.limits j.act) laid q (subst (IsIn q) u.left i)

  pub made_of : (x : Part) → IsIn x made → (r : Row) × IsIn r laid × (x ≡ row_part row material.limits j.act r)
  made_of x i = in_map (row_part row material.limits j.act) laid x i

  pub made_there : (x : Part) → IsIn x made → part_at m x.name ≡ Some x
  made_there x i = let r = made_of x i in subst (λ (p : Part). part_at m p.name ≡ Some p) (sym r.2) (there r.0 r.1)

  pub rise : Pairwise (λ (a b : Part). name_cmp a.name b.name ≡ Less) made
  rise =
      map_pairs (λ (a b : Part). name_cmp a.name b.name ≡ Less) (row_part row material.limits j.act) laid
      (pairs_more (λ (r s : Row). r.node < s.node) _ (λ r s less. earlier_node (record { act = j.act; node = r.node }) (record { act = j.act; node = s.node }) refl less) laid
      (pairs_in (λ (r s : Row). r.node < s.node) laid u.is_laid.rising))

  apart : Pairwise (λ (a b : Part). a.name ≡ b.name → ⊥) made
  apart = pairs_more (λ (a b : Part). name_cmp a.name b.name ≡ Less) (λ (a b : Part). a.name ≡ b.name → ⊥) (λ a b. less_apart a.name b.name) made rise

  pub other_act : row.name.act ≡ j.act → ⊥
  other_act = not_made m.parts named row.name row u.on j.act u.cut material.limits j.plan.tree outcome laid u.is_laid there all

  -- the sum of those parts alone
  pub sum_gone : (f : Part → ℕ) → sum_by f (values (with_parts outgoing m.parts)) + sum_by f made ≡ sum_by f (values m.parts) + sum_by f outgoing
  sum_gone f = sum_replaced (in_state (Undone j.act)) (λ p. refl) f made m.parts apart made_there

  -- the sum of all parts, when the part stands again in their place
  pub sum_back : (f : Part → ℕ)
      → sum_by f (values (with_parts outgoing (insert m.parts row.name (in_state Standing row)))) + f row + sum_by f made
      ≡ sum_by f (values m.parts) + f (in_state Standing row) + sum_by f outgoing
  sum_back f =
      let one = sum_over names_total names_same f m.parts row.name row (in_state Standing row) u.on in
      let more = sum_replaced (in_state (Undone j.act)) (λ p. refl) f made (insert m.parts row.name (in_state Standing row)) apart
      (λ x i.
      get_other names_total names_same m.parts row.name (in_state Standing row) x.name
      (λ e. other_act (ap (λ (v : Name). v.act) (sym e) ∙ ap (λ (p : Part). p.name.act) (made_of x i).2)) ∙ made_there x i) in
      omega (arith, one, more)

  -- those that are pieces of a demand are the laid ones
  pub pieces_made : (d : ℕ) → count_by (λ (p : Part). is_piece_for d p.state) made ≡ pieces_in d laid
  pieces_made d =
      sum_map (λ (p : Part). if is_piece_for d p.state then 1 else 0) (row_part row material.limits j.act) laid
      ∙ sum_as (λ (r : Row). if is_piece_for d (state_after_cut material.limits r.owner (record { w = r.w; h = r.h })) then 1 else 0) (λ (r : Row). if is_owner_of d r.owner then 1 else 0) laid
      (λ r i. ap (λ b. if b then 1 else 0) (after_cut_piece d material.limits r.owner (record { w = r.w; h = r.h })))

  pub all_cells : sum_by (λ (r : Row). r.w * r.h) laid ≡ row.size.w * row.size.h
  all_cells = add_up j.plan.tree row.size.w row.size.h material.limits.kerf outcome laid u.is_laid (λ n o a b. true) ∙ count_all row.size.w row.size.h

  -- they have the cells of the part
  pub left_made : (code : List ℕ) → sum_by (cells_left code) made ≡ cells_left code (in_state Standing row)
  left_made code = by (is_eq (code_cmp row.material code)) refl
    where
      kept : (b : Bool) → is_eq (code_cmp row.material code) ≡ b → (r : Row) → cells_left code (row_part row material.limits j.act r) ≡ (if b then r.w * r.h else 0)
      kept b e r =
          ap (λ t. if t && is_uncut (state_after_cut material.limits r.owner (record { w = r.w; h = r.h })) then r.w * r.h else 0) e
          ∙ ap (λ t. if b && t then r.w * r.h else 0) (after_cut_uncut material.limits r.owner (record { w = r.w; h = r.h })) ∙ and_true b (r.w * r.h)
        where
          and_true : (b : Bool) (n : ℕ) → ◌≡◌ {A = ℕ} (if b && true then n else 0) (if b then n else 0)
          and_true true n = refl
          and_true false n = refl

      by : (b : Bool) → is_eq (code_cmp row.material code) ≡ b → sum_by (cells_left code) made ≡ (if is_eq (code_cmp row.material code) && true then row.size.w * row.size.h else 0)
      by true e =
          sum_map (cells_left code) (row_part row material.limits j.act) laid
          ∙ sum_as (λ (r : Row). cells_left code (row_part row material.limits j.act r)) (λ (r : Row). r.w * r.h) laid (λ r i. kept true e r)
          ∙ all_cells ∙ sym (ap {B = ℕ} (λ t. if t && true then row.size.w * row.size.h else 0) e)
      by false e =
          sum_map (cells_left code) (row_part row material.limits j.act) laid
          ∙ sum_none (λ (r : Row). cells_left code (row_part row material.limits j.act r)) laid (λ r i. kept false e r)
          ∙ sym (ap {B = ℕ} (λ t. if t && true then row.size.w * row.size.h else 0) e)
