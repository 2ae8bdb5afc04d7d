-- A content after a job was undone.
use Rattle.std.proofs.Common.{◌≡◌, ℕ, ◌+◌, ◌-◌, ◌*◌, ◌≤◌, inl, inr, List, [], ◌∷◌, map, Bool, true, false, true≢false, refl, sym, ap, subst, ◌∙◌, arith}
use Rattle.std.specs.Prelude.{Option, Some, None, IsSome, not, nat_le, sum_by, count_by, if◌then◌else◌, ◌&&◌, ◌==◌}
use Rattle.std.specs.declared.cmp.Ordering.TheVariants.{Less}
use Rattle.std.specs.Ordering.{is_eq}
use Rattle.std.specs.Cmp.{nat_cmp_total}
use Rattle.std.specs.FinMap.{get, insert, values, nat_cmp-IsAntisymmetric}
use Rattle.std.specs.List.{list_all}
use Rattle.std.proofs.lemmas.Bool.{le-leb, eq-eqb}
use Rattle.std.proofs.lemmas.List.Elements.{All-nil}
use Rattle.std.proofs.lemmas.Nat.{mul-le}
use Rattle.cut_measure.specs.declared.ranges.TheConstants.{MAX_WIDTH, MAX_HEIGHT, MAX_NUMBERS}
use Rattle.cut_measure.specs.Codes.{code_cmp}
use Rattle.cut_measure.specs.Names.{Name, name_cmp}
use Rattle.cut_measure.specs.Measures.{CutParams, Size, is_kept}
use Rattle.cut_tree.specs.declared.lay.Owner.{Owner}
use Rattle.cut_tree.specs.declared.lay.Owner.TheVariants as owner
use Rattle.cut_tree.specs.declared.lay.Row.{Row}
use Rattle.cut_tree.specs.declared.leaves.Leaf.{Leaf}
use Rattle.cut_tree.specs.declared.halts.Stop.{Stop}
use Rattle.cut_tree.specs.Tree.{count_of}
use Rattle.cut_tree.specs.Stops.{outcome_of}
use Rattle.shop_records.specs.declared.records.Material.{Material}
use Rattle.shop_records.specs.declared.records.Part.{Part}
use Rattle.shop_records.specs.declared.records.State.TheVariants as state
use Rattle.shop_records.specs.declared.records.Job.{Job}
use Rattle.shop_records.specs.declared.records.JobState.TheVariants as job
use Rattle.shop_records.specs.declared.records.Demand.{Demand}
use Rattle.shop_records.specs.declared.records.Totals.{Totals}
use Rattle.shop_records.specs.declared.records.Column.{Column}
use Rattle.shop_records.specs.declared.records.Column.TheVariants.{Received, Stock, Rack, Pieces, Kerf, Scrap, Returned}
use Rattle.shop_records.specs.declared.messages.Message.{Message}
use Rattle.shop_records.specs.declared.refusals.Refusal.TheVariants.{PartsMoved, StoreFault}
use Rattle.shop_records.specs.Messages.{Texts, message_id_of}
use Rattle.shop_records.specs.Columns.{is_waiting, is_piece_for, is_reserved_for, is_counted}
use Rattle.shop_records.specs.Content.{Content, material_at, part_at, job_at, halt_at, has_order, demand_at, kept_at, changed, in_state, material_of, parts_named, totals_of, totals_for, totals_in, cells_in, with_parts}
use Rattle.shop_records.specs.Elements.{IsIn}
use Rattle.shop_records.specs.WellFormed.{IsPlaced, IsWaiting, IsJob, IsDemand, IsCounted, IsMovedPart, IsMovedDemand, with_totals, Fits, made_in}
use Rattle.shop_records.proofs.Basics.{same_some, in_map, codes_same}
use Rattle.shop_records.proofs.Puts.{all_from, pairs_from, map_pairs, not_both, found_one, is_known, some_known, sum_over, sum_map, sum_none, equal}
use Rattle.shop_machine.specs.Ending.{row_part, state_after_cut, IsWork, fits_part}
use Rattle.shop_machine.specs.Moving.{cells_counted, tally, can_move}
use Rattle.shop_machine.specs.Machine.{keeping}
use Rattle.shop_machine.specs.Recounts.{AreRecounted, pieces_in, plan_leaves, with_unmade}
use Rattle.shop_machine.specs.Undoing.{stop_of, laid_by, are_as_left, has_made, can_take_back, back_refusal, stop_refusal, undo_refusal, totals_after, undo_change}
use Rattle.shop_machine.specs.History.{is_gone}
use Rattle.shop_machine.proofs.AddedUp.{cells_as, cells_left, adds_up, adds_up_so}
use Rattle.shop_machine.proofs.Agreeing.{NoFault, other, no_such}
use Rattle.shop_machine.proofs.Allowed.{all_true, leaf_counts}
use Rattle.shop_machine.proofs.Cells.{Named}
use Rattle.shop_machine.proofs.Grown.{IsStock, Grows, Untouched, placed_more, on_more, job_more, different_more, no_message_ids, halts_kept}
use Rattle.shop_machine.proofs.Moved.{LeavesOthers, IsRecount, row_recount, recount_of, demand_there}
use Rattle.shop_machine.proofs.PutBack.{back_cases, back_named, back_same, back_still}
use Rattle.shop_machine.proofs.Tallied.{same_totals, of_material, of_one, own, moves, six}
use Rattle.shop_machine.proofs.Undoable.{IsUndoable, there, all, made_of, rise, sum_gone, sum_back, pieces_made, left_made, as_left}
use Rattle.shop_machine.proofs.UndoingEffect.{no_unmade}

-- what is made at a job's end isn't reserved
after_cut_free : (number : ℕ) (params : CutParams) (o : Owner) (size : Size) → is_reserved_for number (state_after_cut params o size) ≡ false
after_cut_free number params (owner.Piece demand) size = refl
after_cut_free number params owner.Rest size = by (is_kept params size)
  where
    by : (b : Bool) → is_reserved_for number (if b then state.Standing else state.Scrap) ≡ false
    by true = refl
    by false = refl
after_cut_free number params owner.Kerf size = refl
after_cut_free number params owner.Uncut size = by (is_kept params size)
  where
    by : (b : Bool) → is_reserved_for number (if b then state.Standing else state.Scrap) ≡ false
    by true = refl
    by false = refl
after_cut_free number params owner.Lost size = refl

-- the columns of what became of cells
abbrev is_after_cut : Column → Bool
is_after_cut Received = false
is_after_cut _ = true

cut_uncounted : (c : Column) → is_after_cut c ≡ true → (n : ℕ) (p : Part) → is_counted c (in_state (state.Cut n) p) ≡ false
cut_uncounted Received e n p = absurd (true≢false (sym e))
cut_uncounted _ e n p = refl

undone_uncounted : (c : Column) → is_after_cut c ≡ true → (n : ℕ) (p : Part) → is_counted c (in_state (state.Undone n) p) ≡ false
undone_uncounted Received e n p = absurd (true≢false (sym e))
undone_uncounted _ e n p = refl

no_cells : (of counted : Bool) (n : ℕ) → counted ≡ false → ◌≡◌ {A = ℕ} (if of && counted then n else 0) 0
no_cells true counted n e = ap {B = ℕ} (λ b. if b then n else 0) e
no_cells false counted n e = refl

module _ (m : Content) (stock : IsStock m) (j : Job) (row : Part) (material : Material) (end : Stop) (u : IsUndoable m j row material (outcome_of end) (laid_by end j)) where
  named : Named m.parts
  named n p is = (stock.parts n p is).named

  abbrev laid : List Row
  laid = laid_by end j

  abbrev made : List Part
  made = map (row_part row material.limits j.act) laid

  abbrev outgoing : List Part
  outgoing = map (in_state (state.Undone j.act)) made

  here : (r : Row) → IsIn r laid → part_at m (record { act = j.act; node = r.node }) ≡ Some (row_part row material.limits j.act r)
  here = there m named j row material (outcome_of end) laid u

  theirs : (n : Name) (q : Part) → get m.parts n ≡ Some q → n.act ≡ j.act → (r : Row) × IsIn r laid × (q ≡ row_part row material.limits j.act r)
  theirs = all m named j row material (outcome_of end) laid u

  is_job : IsJob m j.act j
  is_job = stock.jobs j.act j u.found

  row_cut : row ≡ in_state (state.Cut j.act) row
  row_cut = λ i. record row { state = u.cut i }

  sums : (f : Part → ℕ) → sum_by f (values (with_parts outgoing (insert m.parts row.name (in_state state.Standing row)))) + f row + sum_by f made
      ≡ sum_by f (values m.parts) + f (in_state state.Standing row) + sum_by f outgoing
  sums = sum_back m named j row material (outcome_of end) laid u

  gone_none : (f : Part → ℕ) → ((p : Part) → f (in_state (state.Undone j.act) p) ≡ 0) → sum_by f outgoing ≡ 0
  gone_none f none = sum_map f (in_state (state.Undone j.act)) made ∙ sum_none (λ p. f (in_state (state.Undone j.act) p)) made (λ p i. none p)

  -- pieces of a demand
  made_less : (d : ℕ) → count_by (λ (p : Part). is_piece_for d p.state) (values (with_parts outgoing (insert m.parts row.name (in_state state.Standing row)))) + pieces_in d laid ≡ made_in d m
  made_less d =
      let f : Part → ℕ = λ p. if is_piece_for d p.state then 1 else 0 in
      let sum = sums f in
      let none = gone_none f (λ p. refl) in
      let cut : f row ≡ 0 = ap f row_cut in
      let stands : f (in_state state.Standing row) ≡ 0 = refl in
      let pieces = pieces_made m named j row material (outcome_of end) laid u d in
      omega (arith, sum, none, cut, stands, pieces)

  -- ---- totals

  -- the cells that the job made of the part are in the totals
  within : (c : Column) → is_after_cut c ≡ true → cells_counted c made ≤ cells_in c row.material (values m.parts)
  within c is =
      let sum = sum_gone m named j row material (outcome_of end) laid u (cells_as c row.material) in
      let none = gone_none (cells_as c row.material) (λ p. no_cells (is_eq (code_cmp p.material row.material)) (is_counted c (in_state (state.Undone j.act) p)) (p.size.w * p.size.h) (undone_uncounted c is j.act p)) in
      let count = of_material row.material row.material c true (own row.material) made (λ x i. ap (λ (p : Part). p.material) (made_of m named j row material (outcome_of end) laid u x i).2) in
      omega (arith, sum, none, count)

  column_back : (c : Column) → is_after_cut c ≡ true → (code : List ℕ) (b : Bool) → is_eq (code_cmp row.material code) ≡ b
      → cells_in c code (values (with_parts outgoing (insert m.parts row.name (in_state state.Standing row)))) + (if b then cells_counted c made else 0)
      ≡ cells_in c code (values m.parts) + (if b then cells_counted c (in_state state.Standing row ∷ []) else 0)
  column_back c is code b e =
      let sum = sums (cells_as c code) in
      let none = gone_none (cells_as c code) (λ p. no_cells (is_eq (code_cmp p.material code)) (is_counted c (in_state (state.Undone j.act) p)) (p.size.w * p.size.h) (undone_uncounted c is j.act p)) in
      let cut : cells_as c code row ≡ 0 =
      ap (cells_as c code) row_cut ∙ no_cells (is_eq (code_cmp row.material code)) (is_counted c (in_state (state.Cut j.act) row)) (row.size.w * row.size.h) (cut_uncounted c is j.act row) in
      let stands = of_one (in_state state.Standing row) code c b e in
      let count = of_material row.material code c b e made (λ x i. ap (λ (p : Part). p.material) (made_of m named j row material (outcome_of end) laid u x i).2) in
      omega (arith, sum, none, cut, stands, count)

  received_back : (code : List ℕ) → cells_in Received code (values (with_parts outgoing (insert m.parts row.name (in_state state.Standing row)))) ≡ cells_in Received code (values m.parts)
  received_back code =
      let f : Part → ℕ = cells_as Received code in
      let sum = sums f in
      let same : sum_by f outgoing ≡ sum_by f made = sum_map f (in_state (state.Undone j.act)) made in
      let stands : f (in_state state.Standing row) ≡ f row = refl in
      omega (arith, sum, same, stands)

  move_back : (c : Column) → is_after_cut c ≡ true
      → cells_in c row.material (values (with_parts outgoing (insert m.parts row.name (in_state state.Standing row))))
      ≡ cells_in c row.material (values m.parts) - cells_counted c made + cells_counted c (in_state state.Standing row ∷ [])
  move_back c is =
      let sum = column_back c is row.material true (own row.material) in
      let less = within c is in
      omega (arith, sum, less)

  stay_back : (c : Column) → is_after_cut c ≡ true → (code : List ℕ) → is_eq (code_cmp row.material code) ≡ false
      → cells_in c code (values (with_parts outgoing (insert m.parts row.name (in_state state.Standing row)))) ≡ cells_in c code (values m.parts)
  stay_back c is code e = let sum = column_back c is code false e in omega (arith, sum)

  sums_back : (code : List ℕ) → totals_in code (values (with_parts outgoing (insert m.parts row.name (in_state state.Standing row))))
      ≡ with_totals (Some (record { material = row.material; totals = totals_after (tally made) (tally (in_state state.Standing row ∷ [])) (totals_of m row.material) })) code (totals_of m code)
  sums_back code = by (is_eq (code_cmp row.material code)) refl
    where
      now : Totals
      now = totals_after (tally made) (tally (in_state state.Standing row ∷ [])) (totals_of m row.material)

      by : (b : Bool) → is_eq (code_cmp row.material code) ≡ b
          → totals_in code (values (with_parts outgoing (insert m.parts row.name (in_state state.Standing row))))
          ≡ (if is_eq (code_cmp row.material code) then totals_after (tally made) (tally (in_state state.Standing row ∷ [])) (totals_of m row.material) else totals_of m code)
      by true e =
          ap (λ c. totals_in c (values (with_parts outgoing (insert m.parts row.name (in_state state.Standing row))))) (sym (codes_same row.material code (equal (code_cmp row.material code) e)))
          ∙ same_totals (totals_in row.material (values (with_parts outgoing (insert m.parts row.name (in_state state.Standing row)))))
          (totals_after (tally made) (tally (in_state state.Standing row ∷ [])) (totals_of m row.material)) (received_back row.material)
          (move_back Stock refl) (move_back Rack refl) (move_back Pieces refl) (move_back Kerf refl) (move_back Scrap refl) (move_back Returned refl)
          ∙ sym (ap (λ b. if b then totals_after (tally made) (tally (in_state state.Standing row ∷ [])) (totals_of m row.material) else totals_of m code) e)
      by false e =
          same_totals (totals_in code (values (with_parts outgoing (insert m.parts row.name (in_state state.Standing row))))) (totals_of m code) (received_back code)
          (stay_back Stock refl code e) (stay_back Rack refl code e) (stay_back Pieces refl code e) (stay_back Kerf refl code e) (stay_back Scrap refl code e) (stay_back Returned refl code e)
          ∙ sym (ap (λ b. if b then totals_after (tally made) (tally (in_state state.Standing row ∷ [])) (totals_of m row.material) else totals_of m code) e)

  -- the rows on which it rests are there
  pub takes_back : can_take_back end j row material.limits (demand_at m) (totals_of m row.material) ≡ true
  takes_back =
      let old = stock.parts row.name row u.on in
      let right = old.right in
      let bottom = old.bottom in
      let few = mul-le row.size.w row.size.h MAX_WIDTH MAX_HEIGHT (omega (arith, right)) (omega (arith, bottom)) in
      let most = stock.in_range.received row.material in
      let all_of = stock.in_range.adds_up row.material in
      let t : Totals = totals_of m row.material in
      let g : Totals = tally made in
      let cells : ℕ = row.size.w * row.size.h in
      ap (λ b. b && list_all (λ leaf. has_made (pieces_in leaf.demand laid) (demand_at m leaf.demand)) (plan_leaves j.plan))
      (six (can_move g.stock cells t.stock) (can_move g.rack cells t.rack) (can_move g.pieces cells t.pieces) (can_move g.kerf cells t.kerf) (can_move g.scrap cells t.scrap)
      (can_move g.returned cells t.returned)
      (moves g.stock cells t.stock (within Stock refl) (omega (arith, few, most, all_of)))
      (moves g.rack cells t.rack (within Rack refl) (omega (arith, few, most, all_of)))
      (moves g.pieces cells t.pieces (within Pieces refl) (omega (arith, few, most, all_of)))
      (moves g.kerf cells t.kerf (within Kerf refl) (omega (arith, few, most, all_of)))
      (moves g.scrap cells t.scrap (within Scrap refl) (omega (arith, few, most, all_of)))
      (moves g.returned cells t.returned (within Returned refl) (omega (arith, few, most, all_of))))
      ∙ all_true (λ (leaf : Leaf). has_made (pieces_in leaf.demand laid) (demand_at m leaf.demand)) (plan_leaves j.plan)
      (λ leaf i.
      let d = some_known (demand_at m leaf.demand) (is_job.demands leaf.demand (leaf_counts j.plan leaf i)) in
      let is = (stock.demands leaf.demand d.0 d.1).counted.made in
      let less = made_less leaf.demand in
      subst (λ o. has_made (pieces_in leaf.demand laid) o ≡ true) (sym d.1) (le-leb (pieces_in leaf.demand laid) d.0.made (omega (arith, is, less))))

  -- ---- the content after it

  module _ (rows : List Demand) (recounted : AreRecounted (demand_at m) (with_unmade laid) j.plan.tree rows) (texts : Texts) (message : Message) where
    abbrev back : Job
    back = record j { state = job.Undone }

    abbrev pub after : Content
    after = changed m (keeping texts message (undo_change end j row material.limits (totals_of m row.material) rows))

    others_left : LeavesOthers m.demands (with_unmade laid) j.plan.tree
    others_left = no_unmade m.demands j.plan.tree laid u.few (λ number d is. (stock.demands number d is).numbered)

    grows : Grows m after
    grows = record {
      materials = λ code x is. is;
      parts = back_still m.parts named row.name row u.on j.act u.cut material.limits j.plan.tree (outcome_of end) laid u.is_laid here theirs;
      demands = demand_there m.demands (with_unmade laid) j.plan.tree rows recounted others_left;
      orders = λ code is. is;
      acts = omega arith;
    }

    same_at : (n : Name) → (n ≡ row.name → ⊥) → ((r : Row) → IsIn r laid → (record { act = j.act; node = r.node }) ≡ n → ⊥) → part_at after n ≡ part_at m n
    same_at = back_same m.parts named row.name row u.on j.act u.cut material.limits j.plan.tree (outcome_of end) laid u.is_laid here theirs

    untouched : (other : Job) → IsWaiting m other → (other.act ≡ j.act → ⊥) → Untouched m after grows other
    untouched other w apart = record {
      same = same_at other.part
          (λ e.
          let is : w.on.row ≡ row = same_some w.on.row row (sym w.on.found ∙ ap (λ n. part_at m n) e ∙ u.on) in
          true≢false (sym (ap is_gone u.cut) ∙ ap (λ (p : Part). is_gone p.state) (sym is) ∙ ap is_gone w.reserved))
          (λ r i e.
          let is : row_part row material.limits j.act r ≡ w.on.row = same_some (row_part row material.limits j.act r) w.on.row (sym (here r i) ∙ ap (λ n. part_at m n) e ∙ w.on.found) in
          true≢false
          (sym (eq-eqb other.act other.act refl) ∙ sym (ap (is_reserved_for other.act) w.reserved) ∙ ap (λ (p : Part). is_reserved_for other.act p.state) (sym is)
          ∙ after_cut_free other.act material.limits r.owner (record { w = r.w; h = r.h })));
      none_yet = λ node.
          same_at (record { act = other.act; node = node })
          (λ e. not_both (part_at m (record { act = other.act; node = node })) row (w.none_yet node) (ap (λ n. part_at m n) e ∙ u.on))
          (λ r i e. apart (sym (ap (λ (n : Name). n.act) e))) ∙ w.none_yet node;
    }

    job_back : IsJob after j.act back
    job_back =
        let on = on_more m after grows j is_job.on in
        record {
          numbered = refl;
          least = is_job.least;
          so_far = is_job.so_far;
          plan = is_job.plan;
          kerf = is_job.kerf;
          on = record { row = on.row; found = on.found; material = on.material; known = on.known; width = on.width; height = on.height; kerf = on.kerf };
          called = is_job.called;
          demands = λ number some. grows.demands number (is_job.demands number some);
          waits = λ is. absurd (true≢false (sym is));
        }

    unmade_counts : (d : ℕ) (before : Demand) → demand_at m d ≡ Some before → IsCounted after d (with_unmade laid (count_of j.plan.tree d) before)
    unmade_counts d before is =
        let old = (stock.demands d before is).counted in
        let few = old.few in
        let was = old.reserved in
        let of = old.made in
        let own : pieces_in before.number laid ≡ pieces_in d laid = ap (λ n. pieces_in n laid) (stock.demands d before is).numbered in
        let less = made_less d in
        let f : Job → ℕ = λ job. if is_waiting job.state then count_of job.plan.tree d else 0 in
        let over = sum_over nat_cmp_total nat_cmp-IsAntisymmetric f m.jobs j.act j back u.found in
        let before_over : f j ≡ 0 = ap {B = ℕ} (λ b. if b then count_of j.plan.tree d else 0) u.over in
        let later : f back ≡ 0 = refl in
        record { few = omega (arith, few); reserved = omega (arith, was, over, before_over, later); made = omega (arith, of, own, less) }

    demand_after : (number : ℕ) (d : Demand) → IsRecount m.demands (with_unmade laid) j.plan.tree rows recounted others_left number d → IsDemand after number d
    demand_after number d r =
        let old = stock.demands number r.before r.was in
        let is = r.now in
        record {
          numbered = ap (λ (x : Demand). x.number) is ∙ old.numbered;
          least = old.least;
          so_far = old.so_far;
          ordered = subst (λ (code : List ℕ). has_order m code ≡ true) (sym (ap (λ (x : Demand). x.order) is)) old.ordered;
          known = subst (λ (code : List ℕ). IsSome (material_at m code)) (sym (ap (λ (x : Demand). x.material) is)) old.known;
          counted = subst (IsCounted after number) (sym is) (unmade_counts number r.before r.was);
        }

    pub undo_stock : IsStock after
    undo_stock = record {
      in_range = record {
        acts = λ n q k.
            elim (back_cases m.parts named row.name row u.on j.act u.cut material.limits j.plan.tree (outcome_of end) laid u.is_laid here theirs n q k) [
              | inl c ↦ (let act = c.0 in let le = is_job.so_far in omega (arith, act, le))
              | inr c ↦ elim c [
                | inl d ↦ (let le = stock.in_range.acts row.name row u.on in let act : n.act ≡ row.name.act = ap (λ (v : Name). v.act) d.0 in omega (arith, le, act))
                | inr d ↦ stock.in_range.acts n q d.1.1
              ]
            ];
        last = stock.in_range.last;
        last_demand = stock.in_range.last_demand;
        received = λ code. let same = received_back code in let old = stock.in_range.received code in omega (arith, same, old);
        adds_up = λ code.
            let sum = sums (cells_left code) in
            let none = gone_none (cells_left code) (λ p. no_cells (is_eq (code_cmp p.material code)) false (p.size.w * p.size.h) refl) in
            let cut : cells_left code row ≡ 0 = ap (cells_left code) row_cut ∙ no_cells (is_eq (code_cmp row.material code)) false (row.size.w * row.size.h) refl in
            let left = left_made m named j row material (outcome_of end) laid u code in
            let old = adds_up_so code (values m.parts) (stock.in_range.adds_up code) in
            adds_up code (values after.parts) (received_back code ∙ old ∙ omega (arith, sum, none, cut, left));
      };
      materials = stock.materials;
      parts = λ n q k.
          elim (back_cases m.parts named row.name row u.on j.act u.cut material.limits j.plan.tree (outcome_of end) laid u.is_laid here theirs n q k) [
            | inl c ↦ (
                let r : Row = c.1.0 in
                let name : Name = record { act = j.act; node = r.node } in
                let old = stock.parts name (row_part row material.limits j.act r) (here r c.1.1) in
                let same : name ≡ n = ap (λ (p : Part). p.name) (sym c.1.2) ∙ own_name n q k in
                subst (λ (v : Name). IsPlaced after v q) same
                (subst (IsPlaced after name) (sym c.1.2)
                (record {
                  named = refl;
                  rooted = old.rooted;
                  known = old.known;
                  some_width = old.some_width;
                  some_height = old.some_height;
                  right = old.right;
                  bottom = old.bottom;
                  flat = old.flat;
                  asked = λ d piece. absurd (true≢false (sym piece));
                })))
            | inr c ↦ elim c [
              | inl d ↦ (
                  let old = stock.parts row.name row u.on in
                  subst (λ (v : Name). IsPlaced after v q) (sym d.0)
                  (subst (IsPlaced after row.name) (sym d.1)
                  (record {
                    named = refl;
                    rooted = old.rooted;
                    known = old.known;
                    some_width = old.some_width;
                    some_height = old.some_height;
                    right = old.right;
                    bottom = old.bottom;
                    flat = old.flat;
                    asked = λ d piece. absurd (true≢false (sym piece));
                  })))
              | inr d ↦ placed_more m after grows n q (stock.parts n q d.1.1)
            ]
          ];
      jobs = λ number other is.
          elim (found_one nat_cmp_total nat_cmp-IsAntisymmetric m.jobs j.act back number other is) [
            | inl q ↦ subst (λ n. IsJob after n other) (sym q.0) (subst (IsJob after j.act) (sym q.1) job_back)
            | inr q ↦ (
                let old = stock.jobs number other q.1 in
                job_more m after grows number other (λ w. untouched other w (λ e. q.0 (sym old.numbered ∙ e))) old)
          ];
      halts = λ number kept is. halts_kept m back refl number kept (stock.halts number kept is);
      demands = λ number d is. demand_after number d (recount_of m.demands (with_unmade laid) j.plan.tree rows recounted others_left number d is);
      lines = different_more m after
          (λ number d is.
          let r = recount_of m.demands (with_unmade laid) j.plan.tree rows recounted others_left number d is in
          (r.before, r.was, ap (λ (x : Demand). x.order) r.now, ap (λ (x : Demand). x.line) r.now)) stock.lines;
    }
      where
        own_name : (n : Name) (q : Part) → get after.parts n ≡ Some q → q.name ≡ n
        own_name = back_named m.parts named row.name row u.on j.act u.cut material.limits j.plan.tree (outcome_of end) laid u.is_laid here theirs

    pub undo_fits : kept_at m (message_id_of message) ≡ None → Fits m (keeping texts message (undo_change end j row material.limits (totals_of m row.material) rows))
    undo_fits new = record {
      material = tt;
      parts = All-nil _;
      rising = no_message_ids (λ (a b : Part). name_cmp a.name b.name ≡ Less);
      moved = record { before = row; found = u.on; is = refl; known = is_known (material_at m row.material) material u.known };
      undone = all_from (IsMovedPart m) outgoing
          (λ x i.
          let a = in_map (in_state (state.Undone j.act)) made x i in
          let r = made_of m named j row material (outcome_of end) laid u a.0 a.1 in
          subst (IsMovedPart m) (sym (a.2 ∙ ap (in_state (state.Undone j.act)) r.2))
          (record { before = row_part row material.limits j.act r.0; found = here r.0 r.1; is = refl; known = is_known (material_at m row.material) material u.known }));
      apart = pairs_from (λ (a b : Part). name_cmp a.name b.name ≡ Less) outgoing
          (map_pairs (λ (a b : Part). name_cmp a.name b.name ≡ Less) (in_state (state.Undone j.act)) made (rise m named j row material (outcome_of end) laid u));
      halt = tt;
      begun = tt;
      extended = tt;
      note = tt;
      job = record { before = j; found = u.found; is = refl; part = is_known (part_at m j.part) row (ap (λ n. part_at m n) u.part ∙ u.on) };
      order = tt;
      demands = all_from (IsMovedDemand m) rows
          (λ x i.
          let r = row_recount m.demands (with_unmade laid) j.plan.tree rows recounted others_left x x.number i refl in
          record { before = r.before; found = r.was; is = r.now ∙ (λ i. record r.before { made = (sym (ap (λ (d : Demand). d.made) r.now)) i; reserved = (sym (ap (λ (d : Demand). d.reserved) r.now)) i; wanted = (sym (ap (λ (d : Demand). d.wanted) r.now)) i }) });
      wanted = all_from (λ (d : Demand). IsSome (material_at m d.material) × (d.reserved + d.made ≤ d.wanted)) rows
          (λ x i.
          let r = row_recount m.demands (with_unmade laid) j.plan.tree rows recounted others_left x x.number i refl in (
            subst (λ (code : List ℕ). IsSome (material_at m code)) (sym (ap (λ (d : Demand). d.material) r.now)) (stock.demands x.number r.before r.was).known,
            subst (λ (d : Demand). d.reserved + d.made ≤ d.wanted) (sym r.now) (unmade_counts x.number r.before r.was).few,
          ));
      once = recounted.once;
      lines = tt;
      totals = is_known (material_at m row.material) material u.known;
      sums = sums_back;
      act = tt;
      demand = tt;
      import = tt;
      kept = new;
      entry = tt;
    }

-- ---- its refusals

module _ (m : Content) (stock : IsStock m) where
  back_agrees : (number : ℕ) (j : Job) (row : Part) (material : Material) → IsWork m number j row material → (end : Stop) → stop_of j j.state (halt_at m j.act) ≡ Some end
      → NoFault (back_refusal end j (Some row) (Some material) (parts_named m j.act) (demand_at m) (totals_of m row.material))
  back_agrees number j row material work end ended =
      by (fits_part j row) (are_as_left end j row material.limits (parts_named m j.act)) fits refl
    where
      is_job : IsJob m number j
      is_job = stock.jobs number j work.found

      same : is_job.on.row ≡ row
      same = same_some is_job.on.row row (sym is_job.on.found ∙ work.on)

      placed : IsPlaced m j.part row
      placed = stock.parts j.part row work.on

      fits : fits_part j row ≡ true
      fits =
          six (nat_le 1 j.act) (nat_le j.act MAX_NUMBERS) (row.size.w == j.plan.w) (row.size.h == j.plan.h) (nat_le (row.x + row.size.w) MAX_WIDTH) (nat_le (row.y + row.size.h) MAX_HEIGHT)
          (le-leb 1 j.act (subst (λ n. 1 ≤ n) (sym is_job.numbered) is_job.least))
          (le-leb j.act MAX_NUMBERS (omega (arith, is_job.so_far, is_job.numbered, stock.in_range.last)))
          (eq-eqb row.size.w j.plan.w (sym (is_job.on.width ∙ ap (λ (p : Part). p.size.w) same)))
          (eq-eqb row.size.h j.plan.h (sym (is_job.on.height ∙ ap (λ (p : Part). p.size.h) same)))
          (le-leb (row.x + row.size.w) MAX_WIDTH placed.right)
          (le-leb (row.y + row.size.h) MAX_HEIGHT placed.bottom)

      by : (f b : Bool) → f ≡ true → are_as_left end j row material.limits (parts_named m j.act) ≡ b
          → NoFault (if not f then Some StoreFault else (if not b then Some PartsMoved else (if not (can_take_back end j row material.limits (demand_at m) (totals_of m row.material)) then Some StoreFault else None)))
      by false b e g = absurd (true≢false (sym e))
      by true true e g =
          no_such (can_take_back end j row material.limits (demand_at m) (totals_of m row.material))
          (takes_back m stock j row material end (as_left m stock number j row material work end ended g))
      by true false e g = λ f. cc

  pub undo_agrees : (number : ℕ) → NoFault (undo_refusal m (job_at m number))
  undo_agrees number = by (job_at m number) refl
    where
      by : (o : Option Job) → job_at m number ≡ o → NoFault (undo_refusal m o)
      by None found = λ e. cc
      by (Some j) found = of_stop (stop_of j j.state (halt_at m j.act)) refl
        where
          of_stop : (s : Option Stop) → stop_of j j.state (halt_at m j.act) ≡ s
              → NoFault (stop_refusal s j (part_at m j.part) (material_of m (part_at m j.part)) (parts_named m j.act) (demand_at m) (totals_for m (part_at m j.part)))
          of_stop None ended = λ e. cc
          of_stop (Some end) ended =
              let on = (stock.jobs number j found).on in
              subst (λ o. NoFault (back_refusal end j o (material_of m o) (parts_named m j.act) (demand_at m) (totals_for m o))) (sym on.found)
              (subst (λ o. NoFault (back_refusal end j (Some on.row) o (parts_named m j.act) (demand_at m) (totals_of m on.row.material))) (sym on.known)
              (back_agrees number j on.row on.material (record { found = found; on = on.found; of = on.known }) end ended))
