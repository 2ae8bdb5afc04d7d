-- Waiting jobs, and contents after their ends.
use Rattle.std.proofs.Common.{◌≡◌, ℕ, ◌+◌, ◌*◌, ◌≤◌, ◌<◌, List, [], map, Bool, true, false, true≢false, inl, inr, refl, sym, ap, subst, ◌∙◌, arith}
use Rattle.std.specs.Prelude.{IfSome, nat_eq, Some, None, sum_by, count_by, ◌&&◌, if◌then◌else◌, Option, nat_le, ◌==◌, not}
use Rattle.std.proofs.lemmas.Bool.{ne_eqb, not-false, eq-eqb, le-leb}
use Rattle.std.specs.declared.cmp.Ordering.TheVariants.{Less}
use Rattle.std.specs.Ordering.{is_eq}
use Rattle.std.specs.Cmp.{nat_cmp_total}
use Rattle.std.specs.FinMap.{get, insert, values, nat_cmp-IsAntisymmetric}
use Rattle.std.specs.List.{list_all}
use Rattle.std.proofs.lemmas.List.Sums.{sum_by-le-sum_by}
use Rattle.std.proofs.lemmas.Nat.{mul-le}
use Rattle.cut_measure.specs.Codes.{code_cmp}
use Rattle.cut_measure.specs.Names.{Name, name_cmp}
use Rattle.cut_measure.specs.Measures.{CutParams, Size, is_kept}
use Rattle.cut_measure.specs.declared.ranges.TheConstants.{MAX_WIDTH, MAX_HEIGHT, MAX_NUMBERS}
use Rattle.cut_tree.specs.declared.lay.Owner.{Owner}
use Rattle.cut_tree.specs.declared.lay.Owner.TheVariants as owner
use Rattle.cut_tree.specs.declared.lay.Row.{Row}
use Rattle.cut_tree.specs.Tree.{count_of}
use Rattle.cut_tree.specs.declared.halts.Stop.{Stop}
use Rattle.cut_tree.specs.declared.halts.Stop.TheVariants as stop
use Rattle.cut_tree.specs.Stops.{outcome_of}
use Rattle.cut_tree.specs.Laying.{IsLaid}
use Rattle.cut_tree.specs.Counting.{is_demand_piece as is_owner_of}
use Rattle.cut_tree.proofs.OneLaidList.{laid_few}
use Rattle.cut_tree.proofs.CellCounts.{add_up, count_all}
use Rattle.cut_tree.specs.declared.leaves.Leaf.{Leaf}
use Rattle.shop_records.specs.declared.records.Material.{Material}
use Rattle.shop_records.specs.declared.records.Part.{Part}
use Rattle.shop_records.specs.declared.records.State.TheVariants as state
use Rattle.shop_records.specs.declared.records.Job.{Job}
use Rattle.shop_records.specs.declared.records.JobHalt.{JobHalt}
use Rattle.shop_records.specs.declared.records.JobState.{JobState}
use Rattle.shop_records.specs.declared.records.JobState.TheVariants as job
use Rattle.shop_records.specs.declared.records.Demand.{Demand}
use Rattle.shop_records.specs.declared.records.Totals.{Totals}
use Rattle.shop_records.specs.declared.changes.MaterialTotals.{MaterialTotals}
use Rattle.shop_records.specs.declared.records.Column.TheVariants.{Received}
use Rattle.shop_records.specs.declared.messages.Message.{Message}
use Rattle.shop_records.specs.declared.messages.Reply.{Reply}
use Rattle.shop_records.specs.declared.messages.Reply.TheVariants as reply
use Rattle.shop_records.specs.declared.refusals.Refusal.TheVariants.{JobOver, BadCut, StoreFault}
use Rattle.shop_records.specs.declared.records.Column.{Column}
use Rattle.shop_records.specs.declared.records.Column.TheVariants as column
use Rattle.shop_records.specs.Messages.{Texts, message_id_of, IsMade, IsNumber, IsWide}
use Rattle.shop_records.specs.Same.{same_name}
use Rattle.shop_records.specs.Columns.{is_there, is_piece_for, is_waiting, state_of, is_reserved_for, is_counted}
use Rattle.shop_records.specs.Content.{Content, part_at, job_at, halt_at, with_halt, demand_at, kept_at, changed, in_state, material_of, part_of_job, totals_of, totals_for}
use Rattle.shop_machine.specs.Recounts.{AreRecounted, with_laid, with_freed, pieces_in, plan_leaves}
use Rattle.shop_machine.specs.Ending.{IsWork, state_after_cut, row_part, ended_state, ended_reply, kept_halt, end_change, release_change, end_refusal, can_end, has_reserved, rests, job_refusal}
use Rattle.shop_machine.specs.Moving.{cells_counted, tally, has_cells, moved_totals}
use Rattle.shop_machine.specs.Machine.{keeping}
use Rattle.shop_records.specs.Elements.{IsIn}
use Rattle.shop_records.specs.WellFormed.{IsPlaced, IsWaiting, IsJob, IsHalted, IsCounted, IsMovedJob, Fits, reserved_in}
use Rattle.shop_records.proofs.Basics.{in_map, same_some, map_in, earlier_node, none_at, get_same}
use Rattle.shop_machine.proofs.Inside.{row_inside}
use Rattle.shop_records.proofs.Puts.{pairs_in, pairs_more, map_pairs, in_counted, sum_map, sum_as, sum_none, is_known, sum_over, some_known, found_one}
use Rattle.shop_machine.proofs.AddedUp.{cells_as, cells_left, is_uncut}
use Rattle.shop_machine.proofs.Moved.{LeavesOthers, no_laid, no_freed}
use Rattle.shop_machine.proofs.Grown.{IsStock, Grows, on_more, halts_kept}
use Rattle.shop_machine.proofs.PartStep.{IsPartStep, grows, step_stock, step_fits, untouched, made_after, less_apart}
use Rattle.shop_machine.proofs.Tallied.{sums_stay, sums_move, held}
use Rattle.shop_machine.proofs.ReservingStep.{left_as_before}
use Rattle.shop_machine.proofs.Allowed.{all_true, leaf_counts, none_of}
use Rattle.shop_machine.proofs.Agreeing.{NoFault, other, no_such}

-- ---- a job whose end isn't refused

pub job_waits : (m : Content) (stop : Stop) (number : ℕ) (j : Job) → job_at m number ≡ Some j → end_refusal m stop (job_at m number) ≡ None → is_waiting j.state ≡ true
job_waits m stop number j found allowed =
    not-false (is_waiting j.state) (none_of (not (is_waiting j.state)) JobOver _ (subst (λ o. end_refusal m stop o ≡ None) found allowed)).0

-- ---- what becomes of a rectangle

pub after_cut_uncut : (params : CutParams) (o : Owner) (size : Size) → is_uncut (state_after_cut params o size) ≡ true
after_cut_uncut params (owner.Piece demand) size = refl
after_cut_uncut params owner.Rest size = by (is_kept params size)
  where
    by : (b : Bool) → is_uncut (if b then state.Standing else state.Scrap) ≡ true
    by true = refl
    by false = refl
after_cut_uncut params owner.Kerf size = refl
after_cut_uncut params owner.Uncut size = by (is_kept params size)
  where
    by : (b : Bool) → is_uncut (if b then state.Standing else state.Scrap) ≡ true
    by true = refl
    by false = refl
after_cut_uncut params owner.Lost size = refl

pub after_cut_piece : (number : ℕ) (params : CutParams) (o : Owner) (size : Size) → is_piece_for number (state_after_cut params o size) ≡ is_owner_of number o
after_cut_piece number params (owner.Piece demand) size = refl
after_cut_piece number params owner.Rest size = by (is_kept params size)
  where
    by : (b : Bool) → is_piece_for number (if b then state.Standing else state.Scrap) ≡ false
    by true = refl
    by false = refl
after_cut_piece number params owner.Kerf size = refl
after_cut_piece number params owner.Uncut size = by (is_kept params size)
  where
    by : (b : Bool) → is_piece_for number (if b then state.Standing else state.Scrap) ≡ false
    by true = refl
    by false = refl
after_cut_piece number params owner.Lost size = refl

-- ---- a waiting job

module _ (m : Content) (stock : IsStock m) (number : ℕ) (j : Job) (part : Part) (material : Material) (work : IsWork m number j part material) (waits : is_waiting j.state ≡ true) where
  is_job : IsJob m number j
  is_job = stock.jobs number j work.found

  pub waiting : IsWaiting m j
  waiting = is_job.waits waits

  same_part : waiting.on.row ≡ part
  same_part = same_some waiting.on.row part (sym waiting.on.found ∙ work.on)

  pub reserved : part.state ≡ state.Reserved j.act
  reserved = ap (λ (p : Part). p.state) (sym same_part) ∙ waiting.reserved

  pub stands : is_there part.state ≡ true
  stands = ap is_there reserved

  pub placed : IsPlaced m j.part part
  placed = stock.parts j.part part work.on

  pub here : part_at m part.name ≡ Some part
  here = ap (λ n. part_at m n) placed.named ∙ work.on

  pub older : part.name.act < j.act
  older =
      let less = waiting.older in
      let same : part.name.act ≡ j.part.act = ap (λ (n : Name). n.act) placed.named in
      omega (arith, less, same)

  pub so_far : j.act ≤ m.last_act
  so_far = let named = is_job.numbered in let le = is_job.so_far in omega (arith, named, le)

  job_here : job_at m j.act ≡ Some j
  job_here = ap (λ n. job_at m n) is_job.numbered ∙ work.found

  pub width : j.plan.w ≡ part.size.w
  width = waiting.on.width ∙ ap (λ (p : Part). p.size.w) same_part

  pub height : j.plan.h ≡ part.size.h
  height = waiting.on.height ∙ ap (λ (p : Part). p.size.h) same_part

  -- another job's part is another one
  not_other : (n : ℕ) (other : Job) → job_at m n ≡ Some other → (n ≡ j.act → ⊥) → part.state ≡ state.Reserved other.act → ⊥
  not_other n other is apart e =
      apart (sym (stock.jobs n other is).numbered ∙ ap state_of (sym e ∙ reserved))

  other_act : (n : ℕ) (other : Job) → job_at m n ≡ Some other → (n ≡ j.act → ⊥) → j.act ≡ other.act → ⊥
  other_act n other is apart e = apart (sym (stock.jobs n other is).numbered ∙ sym e)

  module _ (over : JobState) (no_wait : is_waiting over ≡ false) where
    abbrev ended : Job
    ended = record j { state = over }

    pub job_fits : IsMovedJob m ended
    job_fits = record { before = j; found = job_here; is = refl; part = is_known (part_at m j.part) part work.on }

    -- the pieces of the job are no longer reserved
    reserved_less : (d : ℕ)
        → sum_by (λ (job : Job). if is_waiting job.state then count_of job.plan.tree d else 0) (values (insert m.jobs j.act ended)) + count_of j.plan.tree d ≡ reserved_in d m
    reserved_less d =
        let over = sum_over nat_cmp_total nat_cmp-IsAntisymmetric (λ (job : Job). if is_waiting job.state then count_of job.plan.tree d else 0) m.jobs j.act j ended job_here in
        let before : (if is_waiting j.state then count_of j.plan.tree d else 0) ≡ count_of j.plan.tree d = ap (λ b. if b then count_of j.plan.tree d else 0) waits in
        let later : ◌≡◌ {A = ℕ} (if is_waiting ended.state then count_of j.plan.tree d else 0) 0 = ap {B = ℕ} (λ b. if b then count_of j.plan.tree d else 0) no_wait in
        omega (arith, over, before, later)

    job_over : (after : Content) → after.last_act ≡ m.last_act → Grows m after → IsJob after j.act ended
    job_over after same more =
        let on = on_more m after more j is_job.on in
        let least = is_job.least in
        let named = is_job.numbered in
        let le = so_far in
        record {
          numbered = refl;
          least = omega (arith, least, named);
          so_far = omega (arith, le, same);
          plan = is_job.plan;
          kerf = is_job.kerf;
          on = record { row = on.row; found = on.found; material = on.material; known = on.known; width = on.width; height = on.height; kerf = on.kerf };
          called = is_job.called;
          demands = λ number some. more.demands number (is_job.demands number some);
          waits = λ is. absurd (let no : true ≡ false = sym is ∙ no_wait in cc);
        }

-- what the job reserves is reserved
pub enough : (m : Content) (stock : IsStock m) (number : ℕ) (j : Job) (part : Part) (material : Material) → IsWork m number j part material → is_waiting j.state ≡ true
    → (d : ℕ) (demand : Demand) → demand_at m d ≡ Some demand → count_of j.plan.tree d ≤ demand.reserved
enough m stock number j part material work waits d demand is =
    let less = reserved_less m stock number j part material work waits job.Done refl d in
    let old = (stock.demands d demand is).counted.reserved in
    omega (arith, less, old)

-- ---- a job is released

module _ (m : Content) (stock : IsStock m) (number : ℕ) (j : Job) (part : Part) (material : Material) (work : IsWork m number j part material) (waits : is_waiting j.state ≡ true)
    (rows : List Demand) (recounted : AreRecounted (demand_at m) with_freed j.plan.tree rows) (texts : Texts) (message : Message) where
  abbrev released : Job
  released = record j { state = job.Released }

  abbrev after_release : Content
  after_release = changed m (keeping texts message (release_change j part rows))

  release_step : IsPartStep m part state.Standing [] None
  release_step = record {
    there = here m stock number j part material work waits;
    stands = stands m stock number j part material work waits;
    plain = λ number. refl;
    new = λ x i. absurd i;
    rising = tt;
    placed = λ x i. absurd i;
    named = λ x i. absurd i;
    more = omega arith;
    numbers = tt;
    received = λ code. refl;
    left = λ code. left_as_before code part state.Standing (stands m stock number j part material work waits) refl;
  }

  freed_keeps : (n : ℕ) (d : Demand) → with_freed n d ≡ record d { reserved = (with_freed n d).reserved; made = (with_freed n d).made }
  freed_keeps n d = refl

  released_counts : (d : ℕ) (before : Demand) → demand_at m d ≡ Some before → IsCounted after_release d (with_freed (count_of j.plan.tree d) before)
  released_counts d before is =
      let old = (stock.demands d before is).counted in
      let few = old.few in
      let was = old.reserved in
      let less = reserved_less m stock number j part material work waits job.Released refl d in
      let same = made_after m stock part state.Standing [] None released release_step with_freed j.plan.tree (no_freed m.demands j.plan.tree) freed_keeps rows recounted None None texts message (reply.Release j.act) d in
      let made = old.made in
      record { few = omega (arith, few); reserved = omega (arith, was, less); made = omega (arith, made, same) }

  pub release_stock : IsStock after_release
  release_stock =
      step_stock m stock part state.Standing [] None released release_step with_freed j.plan.tree (no_freed m.demands j.plan.tree) freed_keeps rows recounted None None texts message (reply.Release j.act)
      (job_over m stock number j part material work waits job.Released refl after_release refl
      (grows m stock part state.Standing [] None released release_step with_freed j.plan.tree (no_freed m.demands j.plan.tree) freed_keeps rows recounted None None texts message (reply.Release j.act)))
      (λ n other is apart w.
      untouched m stock part state.Standing [] None released release_step with_freed j.plan.tree (no_freed m.demands j.plan.tree) freed_keeps rows recounted None None texts message (reply.Release j.act)
      other w (not_other m stock number j part material work waits n other is apart) (λ x i e. i))
      (λ number kept is. halts_kept m released refl number kept (stock.halts number kept is))
      released_counts

  pub release_fits : kept_at m (message_id_of message) ≡ None → Fits m (keeping texts message (release_change j part rows))
  release_fits =
      step_fits m stock part state.Standing [] None released release_step with_freed j.plan.tree (no_freed m.demands j.plan.tree) freed_keeps rows recounted None None texts message (reply.Release j.act)
      (job_fits m stock number j part material work waits job.Released refl) tt tt
      (sums_stay m.parts part state.Standing [] (here m stock number j part material work waits) (λ x i. absurd i) tt (stands m stock number j part material work waits) refl (λ code c. refl))
      released_counts

-- ---- the work on a job ended

pub no_wait : (stop : Stop) → is_waiting (ended_state stop) ≡ false
no_wait stop.All = refl
no_wait (stop.After halt) = refl
no_wait (stop.Saved halt rest) = refl

unhalted : (m : Content) (j : Job) → halt_at m j.act ≡ None → (s : Stop) → IfSome (kept_halt s j.act) (λ (kept : JobHalt). halt_at m kept.job ≡ None)
unhalted m j none stop.All = tt
unhalted m j none (stop.After halt) = none
unhalted m j none (stop.Saved halt rest) = none

halted_one : (m : Content) (stock : IsStock m) (j : Job) (s : Stop) → is_waiting (ended_state s) ≡ false → (new : JobHalt) → new.job ≡ j.act → (n : ℕ) (kept : JobHalt) → get (insert m.halts new.job new) n ≡ Some kept
    → IsHalted (insert m.jobs j.act (record j { state = ended_state s })) n kept
halted_one m stock j s no_more new of n kept is =
    let over_job : Job = record j { state = ended_state s } in
    elim (found_one nat_cmp_total nat_cmp-IsAntisymmetric m.halts new.job new n kept is) [
      | inl q ↦ record {
        of = ap (λ (v : JobHalt). v.job) q.1 ∙ sym q.0;
        job = over_job;
        found = ap (get (insert m.jobs j.act over_job)) (q.0 ∙ of) ∙ get_same nat_cmp_total nat_cmp-IsAntisymmetric m.jobs j.act over_job;
        over = no_more;
      }
      | inr q ↦ halts_kept m over_job no_more n kept (stock.halts n kept q.1)
    ]

halted_after : (m : Content) (stock : IsStock m) (j : Job) (s : Stop) → is_waiting (ended_state s) ≡ false → (n : ℕ) (kept : JobHalt) → get (with_halt (kept_halt s j.act) m.halts) n ≡ Some kept
    → IsHalted (insert m.jobs j.act (record j { state = ended_state s })) n kept
halted_after m stock j stop.All no_more n kept is = halts_kept m (record j { state = job.Done }) no_more n kept (stock.halts n kept is)
halted_after m stock j (stop.After halt) no_more n kept is = halted_one m stock j (stop.After halt) no_more (record { job = j.act; halt = halt; rest = None }) refl n kept is
halted_after m stock j (stop.Saved halt rest) no_more n kept is = halted_one m stock j (stop.Saved halt rest) no_more (record { job = j.act; halt = halt; rest = Some rest }) refl n kept is

module _ (m : Content) (stock : IsStock m) (number : ℕ) (j : Job) (part : Part) (material : Material) (work : IsWork m number j part material) (waits : is_waiting j.state ≡ true)
    (stop : Stop) (laid : List Row) (is_laid : IsLaid j.plan.tree j.plan.w j.plan.h j.plan.kerf (outcome_of stop) laid) where
  abbrev pub made : List Part
  made = map (row_part part material.limits j.act) laid

  made_of : (x : Part) → IsIn x made → (r : Row) × IsIn r laid × (x ≡ row_part part material.limits j.act r)
  made_of x i = in_map (row_part part material.limits j.act) laid x i

  pub all_cells : sum_by (λ (r : Row). r.w * r.h) laid ≡ part.size.w * part.size.h
  all_cells =
      add_up j.plan.tree j.plan.w j.plan.h j.plan.kerf (outcome_of stop) laid is_laid (λ n o a b. true) ∙ count_all j.plan.w j.plan.h
      ∙ ap (λ n. n * j.plan.h) (width m stock number j part material work waits) ∙ ap (λ n. part.size.w * n) (height m stock number j part material work waits)

  -- no more is laid than the plan's pieces
  few_laid : (d : ℕ) → pieces_in d laid ≤ count_of j.plan.tree d
  few_laid d =
      let plan = (is_job m stock number j part material work waits).plan in
      laid_few j.plan.tree j.plan.w j.plan.h j.plan.kerf (outcome_of stop) laid d plan.shaped plan.some_width plan.some_height is_laid

  pieces_made : (d : ℕ) → count_by (λ (p : Part). is_piece_for d p.state) made ≡ pieces_in d laid
  pieces_made d =
      sum_map (λ (p : Part). if is_piece_for d p.state then 1 else 0) (row_part part material.limits j.act) laid
      ∙ sum_as (λ (r : Row). if is_piece_for d (state_after_cut material.limits r.owner (record { w = r.w; h = r.h })) then 1 else 0) (λ (r : Row). if is_owner_of d r.owner then 1 else 0) laid
      (λ r i. ap (λ b. if b then 1 else 0) (after_cut_piece d material.limits r.owner (record { w = r.w; h = r.h })))

  row_placed : (r : Row) → IsIn r laid → IsPlaced m (record { act = j.act; node = r.node }) (row_part part material.limits j.act r)
  row_placed r i =
      let old = placed m stock number j part material work waits in
      let in_plan = row_inside j.plan.tree j.plan.w j.plan.h j.plan.kerf (outcome_of stop) laid is_laid r i in
      let right = in_plan.right in
      let bottom = in_plan.bottom in
      let wide = width m stock number j part material work waits in
      let high = height m stock number j part material work waits in
      let most_right = old.right in
      let most_bottom = old.bottom in
      let rooted = old.rooted in
      let less = older m stock number j part material work waits in
      record {
        named = refl;
        rooted = omega (arith, rooted, less);
        known = old.known;
        some_width = in_plan.some_width;
        some_height = in_plan.some_height;
        right = omega (arith, right, wide, most_right);
        bottom = omega (arith, bottom, high, most_bottom);
        flat = λ x is bar. let one = old.flat x is bar in let some = in_plan.some_height in omega (arith, bottom, high, one, some);
        asked = λ d piece.
            let one = in_counted (λ (p : Part). is_piece_for d p.state) made (row_part part material.limits j.act r) (map_in (row_part part material.limits j.act) laid r i) piece in
            let count = pieces_made d in
            let few = few_laid d in
            (is_job m stock number j part material work waits).demands d (omega (arith, one, count, few));
      }

  not_whole : (r : Row) → same_name (record { act = j.act; node = r.node }) part.root ≡ false
  not_whole r =
      let rooted = (placed m stock number j part material work waits).rooted in
      let less = older m stock number j part material work waits in
      ap (λ b. b && nat_eq r.node part.root.node) (ne_eqb j.act part.root.act (λ e. absurd (omega (arith, rooted, less))))

  received_none : (code : List ℕ) → sum_by (cells_as Received code) made ≡ 0
  received_none code =
      sum_none (cells_as Received code) made
      (λ x i. let r = made_of x i in ap (cells_as Received code) r.2 ∙ by (is_eq (code_cmp part.material code)) (not_whole r.0) (r.0.w * r.0.h))
    where
      by : (of : Bool) {whole : Bool} → whole ≡ false → (n : ℕ) → ◌≡◌ {A = ℕ} (if of && whole then n else 0) 0
      by true e n = ap {B = ℕ} (λ b. if b then n else 0) e
      by false e n = refl

  cells_kept : (code : List ℕ) (b : Bool) → is_eq (code_cmp part.material code) ≡ b → sum_by (cells_left code) made ≡ (if b then part.size.w * part.size.h else 0)
  cells_kept code b e =
      sum_map (cells_left code) (row_part part material.limits j.act) laid
      ∙ sum_as (λ (r : Row). cells_left code (row_part part material.limits j.act r)) (λ (r : Row). if b then r.w * r.h else 0) laid (λ r i. each r)
      ∙ by b
    where
      each : (r : Row) → cells_left code (row_part part material.limits j.act r) ≡ (if b then r.w * r.h else 0)
      each r =
          ap (λ t. if t && is_uncut (state_after_cut material.limits r.owner (record { w = r.w; h = r.h })) then r.w * r.h else 0) e
          ∙ ap (λ t. if b && t then r.w * r.h else 0) (after_cut_uncut material.limits r.owner (record { w = r.w; h = r.h })) ∙ and_true b (r.w * r.h)
        where
          and_true : (b : Bool) (n : ℕ) → ◌≡◌ {A = ℕ} (if b && true then n else 0) (if b then n else 0)
          and_true true n = refl
          and_true false n = refl

      by : (b : Bool) → sum_by (λ (r : Row). if b then r.w * r.h else 0) laid ≡ (if b then part.size.w * part.size.h else 0)
      by true = all_cells
      by false = sum_none (λ (r : Row). 0) laid (λ r i. refl)

  end_step : IsPartStep m part (state.Cut j.act) made None
  end_step = record {
    there = here m stock number j part material work waits;
    stands = stands m stock number j part material work waits;
    plain = λ number. refl;
    new = λ x i. let r = made_of x i in subst (λ (p : Part). part_at m p.name ≡ None) (sym r.2) ((waiting m stock number j part material work waits).none_yet r.0.node);
    rising = map_pairs (λ (a b : Part). name_cmp a.name b.name ≡ Less) (row_part part material.limits j.act) laid
        (pairs_more (λ (r s : Row). r.node < s.node) _ (λ r s less. earlier_node (record { act = j.act; node = r.node }) (record { act = j.act; node = s.node }) refl less) laid
        (pairs_in (λ (r s : Row). r.node < s.node) laid is_laid.rising));
    placed = λ x i. let r = made_of x i in subst (λ (p : Part). IsPlaced m p.name p) (sym r.2) (row_placed r.0 r.1);
    named = λ x i.
        let r = made_of x i in
        let same : x.name.act ≡ j.act = ap (λ (p : Part). p.name.act) r.2 in
        let le = so_far m stock number j part material work waits in
        omega (arith, same, le);
    more = omega arith;
    numbers = tt;
    received = received_none;
    left = λ code. left_of code (is_eq (code_cmp part.material code)) refl;
  }
    where
      left_of : (code : List ℕ) (b : Bool) → is_eq (code_cmp part.material code) ≡ b → cells_left code part ≡ cells_left code (in_state (state.Cut j.act) part) + sum_by (cells_left code) made
      left_of code b e =
          let kept = cells_kept code b e in
          let before : cells_left code part ≡ (if b then part.size.w * part.size.h else 0) = all_left code b e in
          let cut : cells_left code (in_state (state.Cut j.act) part) ≡ 0 = none_left code in
          omega (arith, kept, before, cut)
        where
          none_left : (code : List ℕ) → cells_left code (in_state (state.Cut j.act) part) ≡ 0
          none_left code = by (is_eq (code_cmp part.material code))
            where
              by : (b : Bool) → ◌≡◌ {A = ℕ} (if b && false then part.size.w * part.size.h else 0) 0
              by true = refl
              by false = refl

          all_left : (code : List ℕ) (b : Bool) → is_eq (code_cmp part.material code) ≡ b → cells_left code part ≡ (if b then part.size.w * part.size.h else 0)
          all_left code b e =
              ap (λ t. if t && is_uncut part.state then part.size.w * part.size.h else 0) e
              ∙ ap (λ s. if b && is_uncut s then part.size.w * part.size.h else 0) (reserved m stock number j part material work waits) ∙ by b
            where
              by : (b : Bool) → ◌≡◌ {A = ℕ} (if b && true then part.size.w * part.size.h else 0) (if b then part.size.w * part.size.h else 0)
              by true = refl
              by false = refl

  module _ (rows : List Demand) (recounted : AreRecounted (demand_at m) (with_laid laid) j.plan.tree rows) (texts : Texts) (message : Message) where
    abbrev over : Job
    over = record j { state = ended_state stop }

    abbrev after_end : Content
    after_end = changed m (keeping texts message (end_change stop j part material.limits (totals_of m part.material) laid rows))

    abbrev answer : Reply
    answer = ended_reply stop j.act (tally made)

    abbrev totals_reply : Option MaterialTotals
    totals_reply = Some (record { material = part.material; totals = moved_totals part (tally made) (totals_of m part.material) })

    is_over : is_waiting (ended_state stop) ≡ false
    is_over = no_wait stop

    others_left : LeavesOthers m.demands (with_laid laid) j.plan.tree
    others_left = no_laid m.demands j.plan.tree laid few_laid (λ number d is. (stock.demands number d is).numbered)

    laid_keeps : (n : ℕ) (d : Demand) → with_laid laid n d ≡ record d { reserved = (with_laid laid n d).reserved; made = (with_laid laid n d).made }
    laid_keeps n d = refl

    end_counts : (d : ℕ) (before : Demand) → demand_at m d ≡ Some before → IsCounted after_end d (with_laid laid (count_of j.plan.tree d) before)
    end_counts d before is =
        let old = (stock.demands d before is).counted in
        let few = old.few in
        let was = old.reserved in
        let less = reserved_less m stock number j part material work waits (ended_state stop) is_over d in
        let more = made_after m stock part (state.Cut j.act) made None over end_step (with_laid laid) j.plan.tree others_left laid_keeps rows recounted totals_reply (kept_halt stop j.act) texts message answer d in
        let pieces = pieces_made d in
        let of = old.made in
        let in_limit = enough m stock number j part material work waits d before is in
        let own : pieces_in before.number laid ≡ pieces_in d laid = ap (λ n. pieces_in n laid) (stock.demands d before is).numbered in
        let laid_of = few_laid d in
        record { few = omega (arith, few, in_limit, own, laid_of); reserved = omega (arith, was, less); made = omega (arith, of, more, pieces, own) }

    -- no halt is kept of a waiting job
    none_kept : halt_at m j.act ≡ None
    none_kept =
        none_at (halt_at m j.act)
        (λ kept is.
        let was = stock.halts j.act kept is in
        let it : was.job ≡ j = same_some was.job j (sym was.found ∙ job_here m stock number j part material work waits) in
        true≢false (sym waits ∙ ap (λ (v : Job). is_waiting v.state) (sym it) ∙ was.over))

    pub end_stock : IsStock after_end
    end_stock =
        step_stock m stock part (state.Cut j.act) made None over end_step (with_laid laid) j.plan.tree others_left laid_keeps rows recounted totals_reply (kept_halt stop j.act) texts message answer
        (job_over m stock number j part material work waits (ended_state stop) is_over after_end refl
        (grows m stock part (state.Cut j.act) made None over end_step (with_laid laid) j.plan.tree others_left laid_keeps rows recounted totals_reply (kept_halt stop j.act) texts message answer))
        (λ n other is apart w.
        untouched m stock part (state.Cut j.act) made None over end_step (with_laid laid) j.plan.tree others_left laid_keeps rows recounted totals_reply (kept_halt stop j.act) texts message answer
        other w (not_other m stock number j part material work waits n other is apart)
        (λ x i e. other_act m stock number j part material work waits n other is apart (sym (ap (λ (p : Part). p.name.act) (made_of x i).2) ∙ e)))
        (halted_after m stock j stop is_over)
        end_counts

    pub end_fits : kept_at m (message_id_of message) ≡ None → Fits m (keeping texts message (end_change stop j part material.limits (totals_of m part.material) laid rows))
    end_fits =
        step_fits m stock part (state.Cut j.act) made None over end_step (with_laid laid) j.plan.tree others_left laid_keeps rows recounted totals_reply (kept_halt stop j.act) texts message answer
        (job_fits m stock number j part material work waits (ended_state stop) is_over) (unhalted m j none_kept stop) (placed m stock number j part material work waits).known
        (sums_move m.parts part (state.Cut j.act) made end_step.there end_step.new
        (pairs_more (λ (a b : Part). name_cmp a.name b.name ≡ Less) (λ (a b : Part). a.name ≡ b.name → ⊥) (λ a b. less_apart a.name b.name) made end_step.rising)
        (λ x i. ap (λ (p : Part). p.material) (made_of x i).2) received_none (tally made)
        (record { stock = omega arith; rack = omega arith; pieces = omega arith; kerf = omega arith; scrap = omega arith; returned = omega arith }))
        end_counts

-- ---- what is reported of a job whose work ended

reply_made : (stop : Stop) (number : ℕ) (parts : List Part) → IsNumber number → ((column : Column) → IsWide (cells_counted column parts)) → IsMade (ended_reply stop number (tally parts))
reply_made stop.All number parts small few = (small, few column.Kerf, few column.Pieces, few column.Rack, few column.Scrap)
reply_made (stop.After halt) number parts small few = (small, few column.Kerf, few column.Pieces, few column.Rack, few column.Scrap)
reply_made (stop.Saved halt rest) number parts small few = (small, few column.Kerf, few column.Pieces, few column.Rack, few column.Scrap)

module _ (m : Content) (stock : IsStock m) (number : ℕ) (j : Job) (part : Part) (material : Material) (work : IsWork m number j part material) (waits : is_waiting j.state ≡ true)
    (stop : Stop) (laid : List Row) (is_laid : IsLaid j.plan.tree j.plan.w j.plan.h j.plan.kerf (outcome_of stop) laid) where
  abbrev parts : List Part
  parts = made m stock number j part material work waits stop laid is_laid

  cells_few : (column : Column) → IsWide (cells_counted column parts)
  cells_few column =
      let le = sum_by-le-sum_by (λ (p : Part). if is_counted column p then p.size.w * p.size.h else 0) (λ (p : Part). p.size.w * p.size.h) parts (λ p. by (is_counted column p) (p.size.w * p.size.h)) in
      let all : sum_by (λ (p : Part). p.size.w * p.size.h) parts ≡ part.size.w * part.size.h =
      sum_map (λ (p : Part). p.size.w * p.size.h) _ laid ∙ all_cells m stock number j part material work waits stop laid is_laid in
      let old = placed m stock number j part material work waits in
      let right = old.right in
      let bottom = old.bottom in
      let most = mul-le part.size.w part.size.h MAX_WIDTH MAX_HEIGHT (omega (arith, right)) (omega (arith, bottom)) in
      omega (arith, le, all, most)
    where
      by : (b : Bool) (n : ℕ) → (if b then n else 0) ≤ n
      by true n = omega arith
      by false n = omega arith

  pub end_reported : IsMade (ended_reply stop j.act (tally parts))
  end_reported =
      let le = so_far m stock number j part material work waits in
      let last = stock.in_range.last in
      reply_made stop j.act parts (omega (arith, le, last)) cells_few

-- ---- a waiting job rests on its rows

job_agrees : (stop : Stop) (found : Option Job) (part : Option Part) (material : Option Material) (at : ℕ → Option Demand) (totals : Totals)
    → ((j : Job) → found ≡ Some j → is_waiting j.state ≡ true → rests j part material at totals ≡ true) → NoFault (job_refusal stop found part material at totals)
job_agrees stop None part material at totals h = λ e. cc
job_agrees stop (Some j) part material at totals h = by (is_waiting j.state) refl
  where
    by : (b : Bool) → is_waiting j.state ≡ b
        → NoFault (if not b then Some JobOver else (if not (can_end j.plan stop) then Some BadCut else (if not (rests j part material at totals) then Some StoreFault else None)))
    by true e = other (not (can_end j.plan stop)) _ _ (λ f. cc) (no_such (rests j part material at totals) (h j refl e))
    by false e = λ f. cc

module _ (m : Content) (stock : IsStock m) where
  has_enough : (n : ℕ) (o : Option Demand) (d : Demand) → o ≡ Some d → n ≤ d.reserved → d.reserved + d.made ≤ d.wanted → has_reserved n o ≡ true
  has_enough n o d e h few =
      subst (λ o. has_reserved n o ≡ true) (sym e)
      (ap (λ b. b && nat_le (d.reserved + d.made) d.wanted) (le-leb n d.reserved h) ∙ le-leb (d.reserved + d.made) d.wanted few)

  seven : (f g a b c d e : Bool) → f ≡ true → g ≡ true → a ≡ true → b ≡ true → c ≡ true → d ≡ true → e ≡ true → (f && g && a && b && c && d && e) ≡ true
  seven f g a b c d e n m p q r s t =
      ap (λ x. x && g && a && b && c && d && e) n ∙ ap (λ x. x && a && b && c && d && e) m
      ∙ ap (λ x. x && b && c && d && e) p ∙ ap (λ x. x && c && d && e) q ∙ ap (λ x. x && d && e) r ∙ ap (λ x. x && e) s ∙ t

  -- a waiting job rests on its rows
  waiting_rests : (number : ℕ) (j : Job) → job_at m number ≡ Some j → is_waiting j.state ≡ true
      → rests j (part_at m j.part) (material_of m (part_at m j.part)) (demand_at m) (totals_for m (part_at m j.part)) ≡ true
  waiting_rests number j found waits =
      let is_job = stock.jobs number j found in
      let w = is_job.waits waits in
      let row = w.on.row in
      let material = w.on.material in
      let work : IsWork m number j row material = record { found = found; on = w.on.found; of = w.on.known } in
      let old = placed m stock number j row material work waits in
      subst (λ o. rests j o (material_of m o) (demand_at m) (totals_for m o) ≡ true) (sym w.on.found)
      (subst (λ o. rests j (Some row) o (demand_at m) (totals_of m row.material) ≡ true) (sym w.on.known)
      (ap (λ b. b && has_cells row (totals_of m row.material) && list_all (λ leaf. has_reserved (count_of j.plan.tree leaf.demand) (demand_at m leaf.demand)) (plan_leaves j.plan))
      (seven (nat_le 1 j.act) (nat_le j.act MAX_NUMBERS) (is_reserved_for j.act row.state) (row.size.w == j.plan.w) (row.size.h == j.plan.h) (nat_le (row.x + row.size.w) MAX_WIDTH) (nat_le (row.y + row.size.h) MAX_HEIGHT)
      (le-leb 1 j.act (subst (λ n. 1 ≤ n) (sym is_job.numbered) is_job.least))
      (le-leb j.act MAX_NUMBERS (omega (arith, is_job.so_far, is_job.numbered, stock.in_range.last)))
      (ap (is_reserved_for j.act) (reserved m stock number j row material work waits) ∙ eq-eqb j.act j.act refl)
      (eq-eqb row.size.w j.plan.w (sym (width m stock number j row material work waits)))
      (eq-eqb row.size.h j.plan.h (sym (height m stock number j row material work waits)))
      (le-leb (row.x + row.size.w) MAX_WIDTH old.right)
      (le-leb (row.y + row.size.h) MAX_HEIGHT old.bottom))
      ∙ ap (λ b. b && list_all (λ leaf. has_reserved (count_of j.plan.tree leaf.demand) (demand_at m leaf.demand)) (plan_leaves j.plan)) (held m stock row (here m stock number j row material work waits))
      ∙ all_true (λ (leaf : Leaf). has_reserved (count_of j.plan.tree leaf.demand) (demand_at m leaf.demand)) (plan_leaves j.plan)
      (λ leaf i.
      let there = some_known (demand_at m leaf.demand) (is_job.demands leaf.demand (leaf_counts j.plan leaf i)) in
      has_enough (count_of j.plan.tree leaf.demand) (demand_at m leaf.demand) there.0 there.1
      (enough m stock number j row material work waits leaf.demand there.0 there.1)
      (stock.demands leaf.demand there.0 there.1).counted.few)))

  pub end_agrees : (stop : Stop) (number : ℕ) → NoFault (end_refusal m stop (job_at m number))
  end_agrees stop number =
      job_agrees stop (job_at m number) (part_of_job m (job_at m number)) (material_of m (part_of_job m (job_at m number))) (demand_at m)
      (totals_for m (part_of_job m (job_at m number)))
      (λ j found waits.
      subst (λ o. rests j (part_of_job m o) (material_of m (part_of_job m o)) (demand_at m) (totals_for m (part_of_job m o)) ≡ true) (sym found) (waiting_rests number j found waits))
