-- A job's undoing from the rows that were found.
use Rattle.std.proofs.Common.{◌≡◌, ◌+◌, ◌*◌, ℕ, Bool, true, List, [], ◌∷◌, map, nat_eq, sym, ap, subst, ◌∙◌}
use Rattle.std.specs.Prelude.{nat_le, ◌==◌, ◌&&◌, not, Option, Some, None, MatchOption, IfSome}
use Rattle.std.specs.List.{list_all}
use Rattle.std.proofs.lemmas.Bool.{and_parts, leb-true, eqb-true, le-leb, eq-eqb}
use Rattle.cut_measure.specs.declared.ranges.TheConstants.{MAX_WIDTH, MAX_HEIGHT, MAX_NUMBERS}
use Rattle.cut_measure.specs.Measures.{CutParams}
use Rattle.cut_tree.specs.declared.halts.Stop.{Stop}
use Rattle.cut_tree.specs.declared.lay.Row.{Row}
use Rattle.cut_tree.specs.declared.leaves.Leaf.{Leaf}
use Rattle.shop_records.specs.declared.changes.Change.{Change}
use Rattle.shop_records.specs.declared.messages.Reply.TheVariants as reply
use Rattle.shop_records.specs.declared.records.Demand.{Demand}
use Rattle.shop_records.specs.declared.records.Job.{Job}
use Rattle.shop_records.specs.declared.records.JobHalt.{JobHalt}
use Rattle.shop_records.specs.declared.records.JobState.TheVariants as job
use Rattle.shop_records.specs.declared.records.Material.{Material}
use Rattle.shop_records.specs.declared.records.Part.{Part}
use Rattle.shop_records.specs.declared.records.State.TheVariants.{Standing, Cut, Undone}
use Rattle.shop_records.specs.declared.records.Totals.{Totals}
use Rattle.shop_records.specs.declared.refusals.Refusal.TheVariants.{PartsMoved, StoreFault}
use Rattle.shop_records.specs.Content.{in_state}
use Rattle.shop_records.specs.SameRows.{same_state, same_parts}
use Rattle.shop_machine.specs.Decisions.{first_of, no_change}
use Rattle.shop_machine.specs.declared.recounts.FoundLeaf.{FoundLeaf}
use Rattle.shop_machine.specs.Ending.{fits_part, row_part}
use Rattle.shop_machine.specs.Moving.{tally}
use Rattle.shop_machine.specs.Recounts.{leaves_in, pieces_in, plan_leaves}
use Rattle.shop_machine.specs.Undoing.{are_as_left, can_take_back, have_cells, has_made, laid_by, left_parts, stop_of, stop_refusal, taking_refusal, totals_after, undo_change}
use Rattle.shop_machine.proofs.Inside.{HasPart}
use Rattle.shop_machine.proofs.Tallied.{six}

-- what the test of its part says
pub part_fits : (j : Job) (part : Part) → fits_part j part ≡ true → HasPart j part
part_fits j part e =
    let f = and_parts _ (nat_le (part.y + part.size.h) MAX_HEIGHT) e in
    let d = and_parts _ (nat_le (part.x + part.size.w) MAX_WIDTH) f.0 in
    let c = and_parts _ (nat_eq part.size.h j.plan.h) d.0 in
    let b = and_parts _ (nat_eq part.size.w j.plan.w) c.0 in
    let n = and_parts _ _ b.0 in
    record {
      least = leb-true 1 j.act n.0;
      most = leb-true j.act MAX_NUMBERS n.1;
      width = eqb-true part.size.w j.plan.w b.1;
      height = eqb-true part.size.h j.plan.h c.1;
      right = leb-true (part.x + part.size.w) MAX_WIDTH d.1;
      bottom = leb-true (part.y + part.size.h) MAX_HEIGHT f.1;
    }

pub fits_as_part : (j : Job) (part : Part) → HasPart j part → fits_part j part ≡ true
fits_as_part j part h =
    six (nat_le 1 j.act) (nat_le j.act MAX_NUMBERS) (part.size.w == j.plan.w) (part.size.h == j.plan.h) (nat_le (part.x + part.size.w) MAX_WIDTH) (nat_le (part.y + part.size.h) MAX_HEIGHT)
    (le-leb 1 j.act h.least) (le-leb j.act MAX_NUMBERS h.most) (eq-eqb part.size.w j.plan.w h.width) (eq-eqb part.size.h j.plan.h h.height)
    (le-leb (part.x + part.size.w) MAX_WIDTH h.right) (le-leb (part.y + part.size.h) MAX_HEIGHT h.bottom)

-- ---- a job that is over, with its rows

module _ (found_job : Option Job) (halt : Option JobHalt) (part : Option Part) (material : Option Material) (found : List Part) (at : ℕ → Option Demand) (totals : Totals)
    (end : Stop) (j : Job) (p : Part) (params : CutParams) (is_job : found_job ≡ Some j) (is_part : part ≡ Some p) (of : MatchOption material ⊥ (λ (m : Material). m.limits ≡ params))
    (ended : stop_of j j.state halt ≡ Some end) (fits : fits_part j p ≡ true) where
  judged_by : (o : Option Material) → MatchOption o ⊥ (λ (m : Material). m.limits ≡ params) → (left back : Bool) → are_as_left end j p params found ≡ left → can_take_back end j p params at totals ≡ back
      → taking_refusal (Some j) halt (Some p) o found at totals ≡ first_of ((not left, PartsMoved) ∷ (not back, StoreFault) ∷ [])
  judged_by None is left back l b = absurd is
  judged_by (Some m) is left back l b =
      ap (λ (s : Option Stop). stop_refusal s j (Some p) (Some m) found at totals) ended
      ∙ ap (λ (r : CutParams). first_of ((not (fits_part j p), StoreFault) ∷ (not (are_as_left end j p r found), PartsMoved) ∷ (not (can_take_back end j p r at totals), StoreFault) ∷ [])) is
      ∙ ap (λ (f : Bool). first_of ((not f, StoreFault) ∷ (not (are_as_left end j p params found), PartsMoved) ∷ (not (can_take_back end j p params at totals), StoreFault) ∷ [])) fits
      ∙ ap (λ (b : Bool). first_of ((not b, PartsMoved) ∷ (not (can_take_back end j p params at totals), StoreFault) ∷ [])) l
      ∙ ap (λ (b : Bool). first_of ((not left, PartsMoved) ∷ (not b, StoreFault) ∷ [])) b

  -- by whether its parts are as it left them, and whether the totals and the demands hold them
  pub judged : (left back : Bool) → are_as_left end j p params found ≡ left → can_take_back end j p params at totals ≡ back
      → taking_refusal found_job halt part material found at totals ≡ first_of ((not left, PartsMoved) ∷ (not back, StoreFault) ∷ [])
  judged left back l b =
      ap (λ (o : Option Job). taking_refusal o halt part material found at totals) is_job
      ∙ ap (λ (o : Option Part). taking_refusal (Some j) halt o material found at totals) is_part ∙ judged_by material of left back l b

  -- what holds of its rows holds of those that were found
  pub of_found_rows : (E : Job → Part → CutParams → Type 0) → E j p params
      → MatchOption found_job ⊥ (λ (j : Job). MatchOption part ⊥ (λ (p : Part). MatchOption material ⊥ (λ (m : Material). E j p m.limits)))
  of_found_rows E it =
      subst (λ (o : Option Job). MatchOption o ⊥ (λ (j : Job). MatchOption part ⊥ (λ (p : Part). MatchOption material ⊥ (λ (m : Material). E j p m.limits)))) (sym is_job)
      (subst (λ (o : Option Part). MatchOption o ⊥ (λ (p : Part). MatchOption material ⊥ (λ (m : Material). E j p m.limits))) (sym is_part) (by material of))
    where
      by : (o : Option Material) → MatchOption o ⊥ (λ (m : Material). m.limits ≡ params) → MatchOption o ⊥ (λ (m : Material). E j p m.limits)
      by None is = absurd is
      by (Some m) is = subst (λ (r : CutParams). E j p r) (sym is) it

-- the change of a job that is undone, from the parts that it left and their cells
pub undo_made : (end : Stop) (j : Job) (p : Part) (params : CutParams) (t : Totals) (rows : List Demand) (left undone : List Part) (outgoing incoming after : Totals) (base : Change)
    → base ≡ no_change (reply.Undo j.act j.part) → left ≡ left_parts end j p params → undone ≡ map (in_state (Undone j.act)) left → outgoing ≡ tally left
    → incoming ≡ tally (in_state Standing p ∷ []) → after ≡ totals_after outgoing incoming t
    → record base {
      moved = Some (in_state Standing p);
      undone = undone;
      job = Some (record j { state = job.Undone });
      demands = rows;
      totals = Some (record { material = p.material; totals = after });
    } ≡ undo_change end j p params t rows
undo_made end j p params t rows left undone outgoing incoming after base e l u g c a =
    let parts : undone ≡ map (in_state (Undone j.act)) (left_parts end j p params) = u ∙ ap (map (in_state (Undone j.act))) l in
    let cells : outgoing ≡ tally (left_parts end j p params) = g ∙ ap tally l in
    let sums : after ≡ totals_after (tally (left_parts end j p params)) (tally (in_state Standing p ∷ [])) t =
    a ∙ ap (λ (x : Totals). totals_after x incoming t) cells ∙ ap (λ (x : Totals). totals_after (tally (left_parts end j p params)) x t) c in
    λ i.
    record (e i) {
      moved = Some (in_state Standing p);
      undone = parts i;
      job = Some (record j { state = job.Undone });
      demands = rows;
      totals = Some (record { material = p.material; totals = sums i });
    }

-- ---- what the tests over the rows that were found say of it

module _ (end : Stop) (j : Job) (p : Part) (params : CutParams) where
  -- the parts that were laid anew are those that it left
  pub left_is : (laid : List Row) (left : List Part) → laid ≡ laid_by end j → left ≡ map (row_part p params j.act) laid → left ≡ left_parts end j p params
  left_is laid left rows is = is ∙ ap (map (row_part p params j.act)) rows

  pub gone_is : (laid : List Row) (outgoing : Totals) → laid ≡ laid_by end j → outgoing ≡ tally (map (row_part p params j.act) laid) → outgoing ≡ tally (left_parts end j p params)
  gone_is laid outgoing rows is = is ∙ ap (λ (rows : List Row). tally (map (row_part p params j.act) rows)) rows

  pub is_left : (found left : List Part) (test b : Bool) → left ≡ left_parts end j p params → test ≡ (same_state p.state (Cut j.act) && same_parts found left) → test ≡ b
      → are_as_left end j p params found ≡ b
  is_left found left test b is tests says = ap (λ (ps : List Part). same_state p.state (Cut j.act) && same_parts found ps) (sym is) ∙ sym tests ∙ says

  pub holds_cells : (t outgoing : Totals) (most : ℕ) (test b : Bool) → outgoing ≡ tally (left_parts end j p params) → most ≡ p.size.w * p.size.h → test ≡ have_cells most outgoing t → test ≡ b
      → have_cells (p.size.w * p.size.h) (tally (left_parts end j p params)) t ≡ b
  holds_cells t outgoing most test b is cells tests says =
      ap (λ (x : Totals). have_cells (p.size.w * p.size.h) x t) (sym is) ∙ ap (λ n. have_cells n outgoing t) (sym cells) ∙ sym tests ∙ says

  pub taken_back : (at : ℕ → Option Demand) (t : Totals) (cells made : Bool) → have_cells (p.size.w * p.size.h) (tally (left_parts end j p params)) t ≡ cells
      → list_all (λ (leaf : Leaf). has_made (pieces_in leaf.demand (laid_by end j)) (at leaf.demand)) (plan_leaves j.plan) ≡ made
      → can_take_back end j p params at t ≡ (cells && made)
  taken_back at t cells made c m =
      ap (λ (b : Bool). b && list_all (λ (leaf : Leaf). has_made (pieces_in leaf.demand (laid_by end j)) (at leaf.demand)) (plan_leaves j.plan)) c ∙ ap (λ (b : Bool). cells && b) m

pub holds_made : (end : Stop) (j : Job) (at : ℕ → Option Demand) (laid : List Row) (leaves : List FoundLeaf) (test b : Bool) → laid ≡ laid_by end j → leaves_in leaves ≡ plan_leaves j.plan
    → test ≡ list_all (λ (leaf : Leaf). has_made (pieces_in leaf.demand laid) (at leaf.demand)) (leaves_in leaves) → test ≡ b
    → list_all (λ (leaf : Leaf). has_made (pieces_in leaf.demand (laid_by end j)) (at leaf.demand)) (plan_leaves j.plan) ≡ b
holds_made end j at laid leaves test b rows same tests says =
    ap (λ (l : List Row). list_all (λ (leaf : Leaf). has_made (pieces_in leaf.demand l) (at leaf.demand)) (plan_leaves j.plan)) (sym rows)
    ∙ ap (list_all (λ (leaf : Leaf). has_made (pieces_in leaf.demand laid) (at leaf.demand))) (sym same) ∙ sym tests ∙ says

pub leaves_of_job : (found : Option Job) (j : Job) (leaves : List FoundLeaf) → found ≡ Some j → IfSome found (λ (j : Job). leaves_in leaves ≡ plan_leaves j.plan)
    → leaves_in leaves ≡ plan_leaves j.plan
leaves_of_job found j leaves is has = subst (λ (o : Option Job). IfSome o (λ (j : Job). leaves_in leaves ≡ plan_leaves j.plan)) is has
