-- A content after a standing part as a whole got another state.
use Rattle.std.proofs.Common.{◌≡◌, ℕ, List, [], ◌∷◌, inl, inr, true, false, refl, sym, ap, subst, ◌∙◌, arith}
use Rattle.std.proofs.lemmas.List.Elements.{All-nil}
use Rattle.std.proofs.lemmas.Bool.{not-false}
use Rattle.std.specs.Prelude.{Option, Some, None, not, if◌then◌else◌}
use Rattle.std.specs.declared.cmp.Ordering.TheVariants.{Less}
use Rattle.cut_measure.specs.Names.{Name, name_cmp}
use Rattle.shop_records.specs.declared.records.Part.{Part}
use Rattle.shop_records.specs.declared.records.State.{State}
use Rattle.shop_records.specs.declared.records.State.TheVariants.{Standing, Reserved}
use Rattle.shop_records.specs.declared.records.Job.{Job}
use Rattle.shop_records.specs.declared.records.Demand.{Demand}
use Rattle.shop_records.specs.declared.records.Totals.{Totals}
use Rattle.shop_records.specs.declared.messages.Message.{Message}
use Rattle.shop_records.specs.declared.messages.Reply.{Reply}
use Rattle.shop_records.specs.declared.refusals.Refusal.TheVariants.{NotStanding}
use Rattle.shop_records.specs.Messages.{Texts, message_id_of}
use Rattle.shop_records.specs.Columns.{is_whole, is_there, is_free, is_piece_for}
use Rattle.shop_records.specs.Content.{Content, part_at, kept_at, changed, in_state, totals_of, totals_for}
use Rattle.shop_records.specs.Elements.{IsIn}
use Rattle.shop_records.specs.WellFormed.{IsPlaced, IsWaiting, Fits, made_in, IsWellFormed}
use Rattle.shop_records.specs.declared.records.State.TheVariants as state
use Rattle.shop_records.specs.declared.changes.Change.{Change}
use Rattle.shop_records.specs.declared.messages.Command.{Command}
use Rattle.shop_records.specs.declared.messages.Command.TheVariants.{Scrap, GiveBack}
use Rattle.shop_records.specs.declared.messages.Reply.TheVariants as reply
use Rattle.shop_records.specs.Readings.{Reading}
use Rattle.shop_machine.specs.Moving.{has_cells, tally}
use Rattle.shop_machine.specs.Retiring.{scrap_refusal, return_refusal, state_change}
use Rattle.shop_machine.specs.Machine.{keeping, Effect, effects, SetsState}
use Rattle.shop_machine.specs.History.{owner_with_state, acts_of, owner_of, is_gone, standing_as}
use Rattle.shop_records.proofs.Basics.{same_some}
use Rattle.shop_records.proofs.Puts.{not_both}
use Rattle.shop_machine.proofs.AddedUp.{is_uncut}
use Rattle.shop_machine.proofs.Moved.{found_moved, still_moved, other_moved, received_moved, adds_up_moved, made_moved}
use Rattle.shop_machine.proofs.Agreeing.{NoFault, other, no_such}
use Rattle.shop_machine.proofs.Allowed.{none_of, free_stands}
use Rattle.shop_machine.proofs.Grown.{IsStock, Grows, Untouched, placed_more, job_more, demand_more, no_message_ids}
use Rattle.shop_machine.proofs.Tallied.{sums_move, held}
use Rattle.shop_machine.proofs.ReservingStep.{left_as_before}
use Rattle.shop_machine.proofs.Cells.{turned}
use Rattle.shop_machine.proofs.Accounts.{Follows, stands_yes, stands_no}
use Rattle.shop_machine.proofs.Steps.{After, AfterAll, named, rows_restated, whole_restated, cut_restated}

-- a part that may become scrap stands
pub scrap_stands : (found : Option Part) (row : Part) (totals : Totals) → found ≡ Some row → scrap_refusal found totals ≡ None → row.state ≡ Standing
scrap_stands found row totals is allowed =
    let free = none_of (not (is_free row.state)) NotStanding _ (subst (λ o. scrap_refusal o totals ≡ None) is allowed) in
    free_stands row.state (not-false (is_free row.state) free.0)

-- so does a unit that may be given back
pub returned_stands : (found : Option Part) (row : Part) (totals : Totals) → found ≡ Some row → return_refusal found totals ≡ None → row.state ≡ Standing
returned_stands found row totals is allowed =
    let free = none_of (not (is_free row.state)) NotStanding _ (subst (λ o. return_refusal o totals ≡ None) is allowed) in
    free_stands row.state (not-false (is_free row.state) free.0)

pub scrap_agrees : (part : Option Part) (totals : Totals) → ((p : Part) → part ≡ Some p → has_cells p totals ≡ true) → NoFault (scrap_refusal part totals)
scrap_agrees None totals h = λ e. cc
scrap_agrees (Some part) totals h = other (not (is_free part.state)) _ _ (λ e. cc) (no_such (has_cells part totals) (h part refl))

pub return_agrees : (part : Option Part) (totals : Totals) → ((p : Part) → part ≡ Some p → has_cells p totals ≡ true) → NoFault (return_refusal part totals)
return_agrees None totals h = λ e. cc
return_agrees (Some part) totals h =
    other (not (is_free part.state)) _ _ (λ e. cc) (other (not (is_whole part)) _ _ (λ e. cc) (no_such (has_cells part totals) (h part refl)))

-- the totals of a part that is found hold it
pub held_for : (m : Content) (stock : IsStock m) (name : Name) (p : Part) → part_at m name ≡ Some p → has_cells p (totals_for m (part_at m name)) ≡ true
held_for m stock name p there =
    subst (λ o. has_cells p (totals_for m o) ≡ true) (sym there)
    (held m stock p (ap (λ n. part_at m n) (stock.parts name p there).named ∙ there))

module _ (m : Content) (stock : IsStock m) (name : Name) (row : Part) (found : part_at m name ≡ Some row) (stands : row.state ≡ Standing)
    (s : State) (uncut : is_uncut s ≡ true) (plain : (number : ℕ) → is_piece_for number s ≡ false) (texts : Texts) (message : Message) (answer : Reply) where
  abbrev after : Content
  after = changed m (keeping texts message (state_change s row (totals_of m row.material) answer))

  there : part_at m row.name ≡ Some row
  there = ap (λ n. part_at m n) (stock.parts name row found).named ∙ found

  none_new : (x : Part) → IsIn x [] → part_at m x.name ≡ None
  none_new x i = absurd i

  grows : Grows m after
  grows = record { materials = λ code x is. is; parts = still_moved m.parts row s [] there none_new tt; demands = λ number h. h; orders = λ code is. is; acts = omega arith }

  -- no job waits for a part that stands
  not_reserved : (number : ℕ) → row.state ≡ Reserved number → ⊥
  not_reserved number e = let no : true ≡ false = ap is_free (sym stands ∙ e) in cc

  untouched : (j : Job) → IsWaiting m j → Untouched m after grows j
  untouched j w = record {
    same = other_moved m.parts row s [] there none_new tt j.part
        (λ e. not_reserved j.act (ap (λ (p : Part). p.state) (same_some row w.on.row (sym there ∙ ap (λ n. part_at m n) (sym e) ∙ w.on.found)) ∙ w.reserved))
        (λ x i e. i);
    none_yet = λ node.
        other_moved m.parts row s [] there none_new tt (record { act = j.act; node = node })
        (λ e. not_both (part_at m (record { act = j.act; node = node })) row (w.none_yet node) (ap (λ n. part_at m n) e ∙ there))
        (λ x i e. i) ∙ w.none_yet node;
  }

  made_same : (number : ℕ) → made_in number after ≡ made_in number m
  made_same number =
      let sum = made_moved m.parts row s [] there none_new tt number (ap (is_piece_for number) stands) (plain number) in
      sum ∙ omega arith

  row_placed : IsPlaced after row.name (in_state s row)
  row_placed =
      let old = stock.parts row.name row there in
      record {
        named = refl;
        rooted = old.rooted;
        known = old.known;
        some_width = old.some_width;
        some_height = old.some_height;
        right = old.right;
        bottom = old.bottom;
        flat = old.flat;
        asked = λ number piece. absurd (let no : true ≡ false = sym piece ∙ plain number in cc);
      }

  pub state_stock : IsStock after
  state_stock = record {
    in_range = record {
      acts = λ n p is.
          elim (found_moved m.parts row s [] there none_new tt n p is) [
            | inl q ↦
                let old = stock.in_range.acts row.name row there in
                let same : n.act ≡ row.name.act = ap (λ (n : Name). n.act) q.1 in
                omega (arith, old, same)
            | inr r ↦ elim r [ inl q ↦ absurd q.0 | inr q ↦ stock.in_range.acts n p q.1 ]
          ];
      last = stock.in_range.last;
      last_demand = stock.in_range.last_demand;
      received = λ code.
          let same = received_moved m.parts row s [] there none_new tt code refl in
          let old = stock.in_range.received code in
          omega (arith, same, old);
      adds_up = λ code.
          adds_up_moved m.parts row s [] there none_new tt code refl (left_as_before code row s (ap is_there stands) uncut) (stock.in_range.adds_up code);
    };
    materials = stock.materials;
    parts = λ n p is.
        elim (found_moved m.parts row s [] there none_new tt n p is) [
          | inl q ↦ subst (λ (n : Name). IsPlaced after n p) (sym q.1) (subst (IsPlaced after row.name) (sym q.0) row_placed)
          | inr r ↦ elim r [ inl q ↦ absurd q.0 | inr q ↦ placed_more m after grows n p (stock.parts n p q.1) ]
        ];
    jobs = λ number j is. job_more m after grows number j (untouched j) (stock.jobs number j is);
    halts = stock.halts;
    demands = λ number d is.
        let old = stock.demands number d is in
        demand_more m after grows (omega arith) number d old
        (record { few = old.counted.few; reserved = old.counted.reserved; made = old.counted.made ∙ sym (made_same number) });
    lines = stock.lines;
  }

  pub state_fits : kept_at m (message_id_of message) ≡ None → Fits m (keeping texts message (state_change s row (totals_of m row.material) answer))
  state_fits new = record {
    material = tt;
    parts = All-nil _;
    rising = no_message_ids (λ (a b : Part). name_cmp a.name b.name ≡ Less);
    moved = record { before = row; found = there; is = refl; known = (stock.parts row.name row there).known };
    undone = All-nil _;
    apart = no_message_ids (λ (a b : Part). name_cmp a.name b.name ≡ Less);
    halt = tt;
    begun = tt;
    extended = tt;
    note = tt;
    job = tt;
    order = tt;
    demands = All-nil _;
    wanted = All-nil _;
    once = no_message_ids (λ (a b : Demand). a.number ≡ b.number → ⊥);
    lines = tt;
    totals = (stock.parts row.name row there).known;
    sums = sums_move m.parts row s [] there none_new tt (λ x i. absurd i) (λ code. refl) (tally (in_state s row ∷ []))
        (record { stock = omega arith; rack = omega arith; pieces = omega arith; kerf = omega arith; scrap = omega arith; returned = omega arith });
    act = tt;
    demand = tt;
    import = tt;
    kept = new;
    entry = tt;
  }

-- ---- what is done to cells

module _ (texts : Texts) (message : Message) (earlier : List Effect) (old : Content) (well_formed : IsWellFormed texts old) (f : Follows earlier old) where
  -- a standing part as a whole gets a state that stays
  by_state : (s : State) (row : Part) (answer : Reply) → is_gone s ≡ false → standing_as s ≡ s → part_at old row.name ≡ Some row → row.state ≡ Standing
      → After texts message earlier old well_formed f (SetsState row.name s) (state_change s row (totals_of old row.material) answer)
  by_state s row answer whole stays kept stands = record {
    acts = (let e : old.last_act ≡ acts_of earlier = f.acts in omega arith);
    numbers = f.numbers;
    lines = f.lines;
    params = f.params;
    rows = rows_restated texts message earlier old well_formed f row s whole kept (SetsState row.name s) (λ p job x y is. refl);
    jobs = f.jobs;
    wholes = λ unit i. whole_restated texts message earlier old well_formed f row s whole kept unit (f.wholes unit i);
    cells = λ unit i x y across down.
        turned old.parts (named texts message earlier old well_formed f) row.name row kept (ap is_gone stands) s whole stays (owner_of earlier unit.name x y) (owner_with_state row.name s (owner_of earlier unit.name x y)) unit.name x y
        (λ w e name state. ap (owner_with_state row.name s) e ∙ ap (λ b. if b then Some (record w { state = s }) else Some w) (stands_yes row.name w name (sym state ∙ ap standing_as stands)))
        (λ w e other. ap (owner_with_state row.name s) e ∙ ap (λ b. if b then Some (record w { state = s }) else Some w) (stands_no row.name w other))
        (f.cells unit i x y across down);
    over = λ n q job k cut. f.over n q job (cut_restated texts message earlier old well_formed f row s whole kept n q job k cut) cut;
  }

  abbrev Then : Command → Reading → Change → Type 0
  Then command read change = AfterAll texts message earlier old well_formed f (effects command read) change

  pub scraps : (part : Name) (read : Reading) (change : Change) (row : Part) → scrap_refusal (part_at old part) (totals_for old (part_at old part)) ≡ None → part_at old part ≡ Some row
      → change ≡ state_change state.Scrap row (totals_of old row.material) (reply.Scrap row.name) → Then (Scrap part) read change
  scraps part read change row allowed found is =
      let same : row.name ≡ part = named texts message earlier old well_formed f part row found in
      subst (λ n. Then (Scrap n) read change) same
      (subst (Then (Scrap row.name) read) (sym is)
      (by_state state.Scrap row (reply.Scrap row.name) refl refl (ap (part_at old) same ∙ found) (scrap_stands (part_at old part) row (totals_for old (part_at old part)) found allowed)))

  pub gives_back : (part : Name) (read : Reading) (change : Change) (row : Part) → return_refusal (part_at old part) (totals_for old (part_at old part)) ≡ None → part_at old part ≡ Some row
      → change ≡ state_change state.Returned row (totals_of old row.material) (reply.GiveBack row.name) → Then (GiveBack part) read change
  gives_back part read change row allowed found is =
      let same : row.name ≡ part = named texts message earlier old well_formed f part row found in
      subst (λ n. Then (GiveBack n) read change) same
      (subst (Then (GiveBack row.name) read) (sym is)
      (by_state state.Returned row (reply.GiveBack row.name) refl refl (ap (part_at old) same ∙ found) (returned_stands (part_at old part) row (totals_for old (part_at old part)) found allowed)))
