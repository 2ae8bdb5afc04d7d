-- A content after a part was reserved.
use Rattle.std.proofs.Common.{◌≡◌, ℕ, zero, suc, ◌+◌, ◌*◌, ◌≤◌, ◌<◌, ◌⊎◌, inl, inr, List, [], ◌∷◌, ◌++◌, true, false, refl, sym, ap, subst, ◌∙◌, arith, length}
use Rattle.std.specs.Prelude.{Some, None, ◌&&◌, if◌then◌else◌, Option, IsSome, is_some, nat_lt, ◌==◌, not}
use Rattle.std.specs.Ordering.{is_eq}
use Rattle.std.specs.Cmp.{nat_cmp_total}
use Rattle.std.specs.FinMap.{insert, nat_cmp-IsAntisymmetric}
use Rattle.std.proofs.lemmas.Bool.{not-false, ltb-false}
use Rattle.cut_measure.specs.Codes.{code_cmp}
use Rattle.cut_measure.specs.Names.{IsName, Name}
use Rattle.cut_measure.specs.declared.ranges.TheConstants.{MAX_NUMBERS}
use Rattle.cut_tree.specs.declared.token.Token.{Token}
use Rattle.cut_tree.specs.Tree.{Tree, Piece, Rest, Trim, Cut, count_of, cut_count}
use Rattle.cut_tree.specs.Patterns.{Pattern, HasDemands, IsPlan}
use Rattle.cut_tree.specs.Spelling.{AllTokens, tokens}
use Rattle.cut_tree.specs.declared.leaves.Leaf.{Leaf}
use Rattle.shop_records.specs.declared.records.Part.{Part}
use Rattle.shop_records.specs.declared.records.State.{State}
use Rattle.shop_records.specs.declared.records.State.TheVariants as state
use Rattle.shop_records.specs.declared.records.Job.{Job}
use Rattle.shop_records.specs.declared.records.JobHalt.{JobHalt}
use Rattle.shop_records.specs.declared.records.JobState.TheVariants as job
use Rattle.shop_records.specs.declared.records.Demand.{Demand}
use Rattle.shop_records.specs.declared.messages.Message.{Message}
use Rattle.shop_records.specs.declared.messages.Reply.TheVariants as reply
use Rattle.shop_records.specs.declared.records.Material.{Material}
use Rattle.shop_records.specs.declared.records.State.TheVariants.{Cut, Piece}
use Rattle.shop_records.specs.declared.refusals.Refusal.TheVariants.{NumbersSpent, NotStanding, BadTree, WrongMaterial, TooMany, StoreFault}
use Rattle.shop_records.specs.declared.messages.Command.TheVariants.{Reserve}
use Rattle.shop_records.specs.Messages.{Texts, message_id_of}
use Rattle.shop_records.specs.Columns.{is_there, is_free, is_waiting}
use Rattle.shop_records.specs.Content.{Content, material_at, part_at, job_at, halt_at, demand_at, kept_at, changed, in_state, material_of}
use Rattle.shop_machine.specs.Recounts.{AreRecounted, with_reserved, plan_leaves}
use Rattle.shop_machine.specs.Reserving.{IsReading, reserve_change, reserve_refusal, plan_refusal, leaf_refusal, leaves_refusal, is_too_many, is_over, fits_demand}
use Rattle.shop_machine.specs.Machine.{keeping, refusal_of, Reads}
use Rattle.shop_records.specs.WellFormed.{IsWaiting, IsJob, IsHalted, IsCounted, Fits, reserved_in, made_in, IsOnPart}
use Rattle.shop_machine.specs.Decisions.{first_of}
use Rattle.shop_records.specs.Same.{same_code}
use Rattle.shop_records.specs.Elements.{IsIn}
use Rattle.shop_records.specs.Readings.{Reading, plan_in, Plan}
use Rattle.shop_records.proofs.Basics.{names_total, names_same, same_some, none_at, get_same, get_other}
use Rattle.shop_records.proofs.Puts.{not_both, is_known, sum_new}
use Rattle.shop_machine.proofs.Allowed.{narrow, free_stands, none_of, or_none, any_none, leaf_with}
use Rattle.shop_machine.proofs.AddedUp.{cells_left, is_uncut}
use Rattle.shop_machine.proofs.Moved.{demand_there, found_moved, no_reserved}
use Rattle.shop_machine.proofs.Grown.{IsStock, none_later}
use Rattle.shop_machine.proofs.Tallied.{sums_stay}
use Rattle.shop_machine.proofs.PartStep.{IsPartStep, standing_uncut, step_stock, step_fits, untouched, made_after}
use Rattle.shop_machine.proofs.Agreeing.{NoFault, either, nothing, other, no_such}

-- ---- what is known of a reservation that isn't refused

-- a demand with room for so many more, of this material
pub record HasOpenPieces (code : List ℕ) (n : ℕ) (o : Option Demand) : Type 0 where
  pub demand : Demand
  pub found : o ≡ Some demand
  pub of : same_code demand.material code ≡ true
  pub in_limit : demand.reserved + demand.made + n ≤ demand.wanted

pub record IsFitting (row : Part) (material : Option Material) (plan : Pattern) (at : ℕ → Option Demand) (act : ℕ) : Type 0 where
  pub free : is_free row.state ≡ true
  pub known : IsSome material
  pub demands : (number : ℕ) → 1 ≤ count_of plan.tree number → HasOpenPieces row.material (count_of plan.tree number) (at number)
  pub number : act ≤ MAX_NUMBERS

stays_in_limit : (code : List ℕ) (leaf : Leaf) (n : ℕ) (o : Option Demand) → leaf_refusal code leaf o ≡ None → is_over n o ≡ false → HasOpenPieces code n o
stays_in_limit code leaf n None e f = cc
stays_in_limit code leaf n (Some d) e f =
    let head = none_of (not (same_code d.material code)) WrongMaterial _ e in
    record { demand = d; found = refl; of = not-false (same_code d.material code) head.0; in_limit = ltb-false d.wanted (d.reserved + d.made + n) f }

leaf_allowed : (at : ℕ → Option Demand) (code : List ℕ) (leaves : List Leaf) → leaves_refusal at code leaves ≡ None → (leaf : Leaf) → IsIn leaf leaves → leaf_refusal code leaf (at leaf.demand) ≡ None
leaf_allowed at code [] e leaf i = absurd i
leaf_allowed at code (l ∷ leaves) e leaf (inl s) =
    ap (λ (x : Leaf). leaf_refusal code x (at x.demand)) s ∙ (or_none (leaf_refusal code l (at l.demand)) (leaves_refusal at code leaves) e).0
leaf_allowed at code (l ∷ leaves) e leaf (inr i) = leaf_allowed at code leaves (or_none (leaf_refusal code l (at l.demand)) (leaves_refusal at code leaves) e).1 leaf i

pub fitting_of : (row : Part) (material : Option Material) (plan : Pattern) (at : ℕ → Option Demand) (act : ℕ) → reserve_refusal (Some row) material (Some plan) at act ≡ None
    → IsFitting row material plan at act
fitting_of row material plan at act e =
    let outer = or_none (first_of ((not (is_free row.state), NotStanding) ∷ (not (is_some material), StoreFault) ∷ [])) (plan_refusal row (Some plan) at act) e in
    let free = none_of (not (is_free row.state)) NotStanding _ outer.0 in
    let known = none_of (not (is_some material)) StoreFault _ free.1 in
    let some = or_none (first_of ((length (plan_leaves plan) == 0, BadTree) ∷ [])) _ outer.1 in
    let leaves = or_none (leaves_refusal at row.material (plan_leaves plan)) _ some.1 in
    let few = none_of (is_too_many at plan) TooMany _ leaves.1 in
    let last = none_of (nat_lt MAX_NUMBERS act) NumbersSpent _ few.1 in
    record {
      free = not-false (is_free row.state) free.0;
      known = not-false (is_some material) known.0;
      demands = λ number h.
          let r = leaf_with plan number h in
          subst (λ n. HasOpenPieces row.material (count_of plan.tree n) (at n)) r.2
          (stays_in_limit row.material r.0 (count_of plan.tree r.0.demand) (at r.0.demand) (leaf_allowed at row.material (plan_leaves plan) leaves.0 r.0 r.1)
          (any_none (λ (leaf : Leaf). is_over (count_of plan.tree leaf.demand) (at leaf.demand)) (plan_leaves plan) few.0 r.0 r.1));
      number = ltb-false MAX_NUMBERS act last.0;
    }

pub reading : (texts : Texts) (m : Content) (part : Name) (text : List ℕ) (read : Reading) (plan : Pattern) → read ≡ Plan plan → Reads texts m (Reserve part text) read → IsReading m part text plan
reading texts m part text read plan is reads = subst (Reads texts m (Reserve part text)) is reads

pub fitting : (m : Content) (part : Name) (text : List ℕ) (read : Reading) (row : Part) (plan : Pattern) → part_at m part ≡ Some row → read ≡ Plan plan
    → refusal_of m (Reserve part text) read ≡ None → IsFitting row (material_at m row.material) plan (demand_at m) (m.last_act + 1)
fitting m part text read row plan there is allowed =
    fitting_of row (material_at m row.material) plan (demand_at m) (m.last_act + 1)
    (subst (λ r. reserve_refusal (Some row) (material_at m row.material) (plan_in r) (demand_at m) (m.last_act + 1) ≡ None) is
    (subst (λ o. reserve_refusal o (material_of m o) (plan_in read) (demand_at m) (m.last_act + 1) ≡ None) there allowed))

-- ---- plans that are spelled

tokens_of_two : (ts us : List Token) → AllTokens (ts ++ us) → AllTokens ts × AllTokens us
tokens_of_two [] us h = (tt, h)
tokens_of_two (t ∷ ts) us h = let r = tokens_of_two ts us h.1 in ((h.0, r.0), r.1)

demands_in_range : (t : Tree) → AllTokens (tokens t) → HasDemands t
demands_in_range (Piece d b) h = h.0
demands_in_range Rest h = tt
demands_in_range (Trim axis a f) h = demands_in_range f h.1
demands_in_range (Cut axis a f s) h = let r = tokens_of_two (tokens f) (tokens s) h.1 in (demands_in_range f r.0, demands_in_range s r.1)

-- ---- states

free_unreserved : (s : State) (number : ℕ) → is_free s ≡ true → s ≡ state.Reserved number → ⊥
free_unreserved s number e f = let no : false ≡ true = ap is_free (sym f) ∙ e in cc

-- a part that stands keeps its cells
pub left_as_before : (code : List ℕ) (row : Part) (s : State) → is_there row.state ≡ true → is_uncut s ≡ true → cells_left code row ≡ cells_left code (in_state s row) + 0
left_as_before code row s stands uncut =
    ap (λ b. if is_eq (code_cmp row.material code) && b then row.size.w * row.size.h else 0) (standing_uncut row.state stands ∙ sym uncut) ∙ omega arith

module _ (m : Content) (stock : IsStock m) (name : Name) (text : List ℕ) (row : Part) (plan : Pattern) (there : part_at m name ≡ Some row) (reading : IsReading m name text plan)
    (fitting : IsFitting row (material_at m row.material) plan (demand_at m) (m.last_act + 1))
    (rows : List Demand) (recounted : AreRecounted (demand_at m) with_reserved plan.tree rows) (texts : Texts) (message : Message) where
  abbrev act : ℕ
  act = m.last_act + 1

  abbrev new_job : Job
  new_job = record { act = act; part = row.name; kerf = plan.kerf; plan = plan; state = job.Waiting }

  abbrev after : Content
  after = changed m (keeping texts message (reserve_change row plan act rows))

  same_row : reading.row ≡ row
  same_row = same_some reading.row row (sym reading.found ∙ there)

  named : row.name ≡ name
  named = (stock.parts name row there).named

  here : part_at m row.name ≡ Some row
  here = ap (λ n. part_at m n) named ∙ there

  older : row.name.act < act
  older = let le = stock.in_range.acts row.name row here in omega (arith, le)

  known : material_at m row.material ≡ Some reading.material
  known = ap (λ (p : Part). material_at m p.material) (sym same_row) ∙ reading.known

  as_wide : plan.w ≡ row.size.w
  as_wide = reading.width ∙ ap (λ (p : Part). p.size.w) same_row

  as_high : plan.h ≡ row.size.h
  as_high = reading.height ∙ ap (λ (p : Part). p.size.h) same_row

  step : IsPartStep m row (state.Reserved act) [] (Some act)
  step = record {
    there = here;
    stands = ap is_there (free_stands row.state fitting.free);
    plain = λ number. refl;
    new = λ x i. absurd i;
    rising = tt;
    placed = λ x i. absurd i;
    named = λ x i. absurd i;
    more = omega arith;
    numbers = (omega arith, fitting.number);
    received = λ code. refl;
    left = λ code. left_as_before code row (state.Reserved act) (ap is_there (free_stands row.state fitting.free)) refl;
  }

  keeps : (n : ℕ) (d : Demand) → with_reserved n d ≡ record d { reserved = (with_reserved n d).reserved; made = (with_reserved n d).made }
  keeps n d = refl

  no_job : job_at m act ≡ None
  no_job = none_at (job_at m act) (λ j is. let le = (stock.jobs act j is).so_far in omega (arith, le))

  reserved_after : (number : ℕ) → reserved_in number after ≡ reserved_in number m + count_of plan.tree number
  reserved_after number =
      sum_new nat_cmp_total nat_cmp-IsAntisymmetric (λ (j : Job). if is_waiting j.state then count_of j.plan.tree number else 0) m.jobs act new_job no_job

  made_same : (number : ℕ) → made_in number after ≡ made_in number m
  made_same number =
      let sum = made_after m stock row (state.Reserved act) [] (Some act) new_job step with_reserved plan.tree (no_reserved m.demands plan.tree) keeps rows recounted None None texts message (reply.Reserve (cut_count plan.tree) act) number in
      sum ∙ omega arith

  few_after : (number : ℕ) (before : Demand) → demand_at m number ≡ Some before → (c : ℕ) → count_of plan.tree number ≡ c → before.reserved + c + before.made ≤ before.wanted
  few_after number before is zero e = let few = (stock.demands number before is).counted.few in omega (arith, few)
  few_after number before is (suc c) e =
      let has = fitting.demands number (omega (arith, e)) in
      let same : has.demand ≡ before = same_some has.demand before (sym has.found ∙ is) in
      let in_limit : before.reserved + before.made + count_of plan.tree number ≤ before.wanted =
      subst (λ (d : Demand). d.reserved + d.made + count_of plan.tree number ≤ d.wanted) same has.in_limit in
      omega (arith, in_limit, e)

  counts : (number : ℕ) (before : Demand) → demand_at m number ≡ Some before → IsCounted after number (with_reserved (count_of plan.tree number) before)
  counts number before is =
      let old = (stock.demands number before is).counted in
      record {
        few = few_after number before is (count_of plan.tree number) refl;
        reserved = ap (λ n. n + count_of plan.tree number) old.reserved ∙ sym (reserved_after number);
        made = old.made ∙ sym (made_same number);
      }

  is_plan : IsPlan plan
  is_plan =
      let placed = stock.parts name row there in
      let width = as_wide in
      let height = as_high in
      let kerf = reading.kerf in
      let wide = placed.some_width in
      let high = placed.some_height in
      let right = placed.right in
      let bottom = placed.bottom in
      let ruled = (stock.materials row.material reading.material known).ruled in
      let thin = narrow reading.material.kind reading.material.limits.kerf reading.material.limits.min_long reading.material.limits.min_short ruled in
      record {
        shaped = reading.spelled.shaped;
        few_cuts = reading.few_cuts;
        demands = demands_in_range plan.tree reading.spelled.numbers;
        some_width = omega (arith, wide, width);
        width_in_range = omega (arith, right, width);
        some_height = omega (arith, high, height);
        height_in_range = omega (arith, bottom, height);
        narrow = omega (arith, thin, kerf);
      }

  on_part : IsOnPart m new_job
  on_part = record {
    row = row;
    found = here;
    material = reading.material;
    known = known;
    width = as_wide;
    height = as_high;
    kerf = reading.kerf;
  }

  waiting : IsWaiting after new_job
  waiting = record {
    on = record {
      row = in_state (state.Reserved act) row;
      found = get_same names_total names_same m.parts row.name (in_state (state.Reserved act) row);
      material = reading.material;
      known = known;
      width = as_wide;
      height = as_high;
      kerf = reading.kerf;
    };
    reserved = refl;
    older = older;
    none_yet = λ node.
        none_at (part_at after (record { act = act; node = node })) (λ p is. by node p (found_moved m.parts row (state.Reserved act) [] here (λ x i. absurd i) tt (record { act = act; node = node }) p is));
  }
    where
      by : (node : ℕ) (p : Part) → ((p ≡ in_state (state.Reserved act) row) × ((record { act = act; node = node }) ≡ row.name)) ⊎ ((⊥ × (p.name ≡ (record { act = act; node = node }))) ⊎ (((record { act = act; node = node }) ≡ row.name → ⊥) × (part_at m (record { act = act; node = node }) ≡ Some p))) → ⊥
      by node p (inl q) = let same : act ≡ row.name.act = ap (λ (n : Name). n.act) q.1 in let less = older in omega (arith, same, less)
      by node p (inr (inl q)) = q.0
      by node p (inr (inr q)) = not_both (part_at m (record { act = act; node = node })) p (none_later m stock.in_range (record { act = act; node = node }) (omega arith)) q.1

  job_after : IsName name → IsJob after act new_job
  job_after called = record {
    numbered = refl;
    least = omega arith;
    so_far = omega arith;
    plan = is_plan;
    kerf = refl;
    on = waiting.on;
    called = subst IsName (sym (stock.parts name row there).named) called;
    demands = λ number some.
        let has = fitting.demands number some in
        demand_there m.demands with_reserved plan.tree rows recounted (no_reserved m.demands plan.tree) number (is_known (demand_at m number) has.demand has.found);
    waits = λ is. waiting;
  }

  -- of the new job no halt is kept
  halted_after : (number : ℕ) (kept : JobHalt) → halt_at m number ≡ Some kept → IsHalted (insert m.jobs act new_job) number kept
  halted_after number kept is =
      let was = stock.halts number kept is in
      record {
        of = was.of;
        job = was.job;
        found = get_other nat_cmp_total nat_cmp-IsAntisymmetric m.jobs act new_job number (λ e. not_both (job_at m act) was.job no_job (ap (λ n. job_at m n) (sym e) ∙ was.found)) ∙ was.found;
        over = was.over;
      }

  pub reserve_stock : IsName name → IsStock after
  reserve_stock called =
      step_stock m stock row (state.Reserved act) [] (Some act) new_job step with_reserved plan.tree (no_reserved m.demands plan.tree) keeps rows recounted None None texts message (reply.Reserve (cut_count plan.tree) act)
      (job_after called)
      (λ number j is other w.
      untouched m stock row (state.Reserved act) [] (Some act) new_job step with_reserved plan.tree (no_reserved m.demands plan.tree) keeps rows recounted None None texts message (reply.Reserve (cut_count plan.tree) act)
      j w (free_unreserved row.state j.act fitting.free) (λ x i e. i))
      halted_after
      counts

  pub reserve_fits : kept_at m (message_id_of message) ≡ None → Fits m (keeping texts message (reserve_change row plan act rows))
  reserve_fits =
      step_fits m stock row (state.Reserved act) [] (Some act) new_job step with_reserved plan.tree (no_reserved m.demands plan.tree) keeps rows recounted None None texts message (reply.Reserve (cut_count plan.tree) act)
      (record { numbered = refl; new = no_job; on = on_part; kerf = refl }) tt tt
      (sums_stay m.parts row (state.Reserved act) [] here (λ x i. absurd i) tt (ap is_there (free_stands row.state fitting.free)) refl (λ code c. refl))
      counts

-- ---- its refusals

leaf_agrees : (code : List ℕ) (leaf : Leaf) (o : Option Demand) → NoFault (leaf_refusal code leaf o)
leaf_agrees code leaf None = λ e. cc
leaf_agrees code leaf (Some d) = other (not (same_code d.material code)) _ _ (λ e. cc) (other (not (fits_demand leaf d)) _ _ (λ e. cc) nothing)

leaves_agree : (at : ℕ → Option Demand) (code : List ℕ) (leaves : List Leaf) → NoFault (leaves_refusal at code leaves)
leaves_agree at code [] = λ e. cc
leaves_agree at code (leaf ∷ leaves) = either (leaf_refusal code leaf (at leaf.demand)) (leaves_refusal at code leaves) (leaf_agrees code leaf (at leaf.demand)) (leaves_agree at code leaves)

plan_agrees : (part : Part) (read : Option Pattern) (at : ℕ → Option Demand) (act : ℕ) → NoFault (plan_refusal part read at act)
plan_agrees part None at act = λ e. cc
plan_agrees part (Some plan) at act =
    either _ _ (other (length (plan_leaves plan) == 0) _ _ (λ e. cc) nothing)
    (either _ _ (leaves_agree at part.material (plan_leaves plan))
    (other (is_too_many at plan) _ _ (λ e. cc) (other (nat_lt MAX_NUMBERS act) _ _ (λ e. cc) nothing)))

pub reserve_agrees : (part : Option Part) (material : Option Material) (read : Option Pattern) (at : ℕ → Option Demand) (act : ℕ) → ((p : Part) → part ≡ Some p → IsSome material)
    → NoFault (reserve_refusal part material read at act)
reserve_agrees None material read at act known = λ e. cc
reserve_agrees (Some part) material read at act known =
    either _ _ (other (not (is_free part.state)) _ _ (λ e. cc) (no_such (is_some material) (known part refl))) (plan_agrees part read at act)
