-- A content after a demand was amended.
use Rattle.std.proofs.Common.{◌≡◌, ℕ, ◌+◌, ◌≤◌, ◌⊎◌, inl, inr, [], ◌∷◌, refl, sym, ap, subst, ◌∙◌, arith, List}
use Rattle.std.proofs.lemmas.Bool.{ltb-false}
use Rattle.std.proofs.lemmas.List.Elements.{All-nil}
use Rattle.std.specs.Prelude.{Option, Some, None, IsSome, not, nat_le, nat_lt}
use Rattle.std.specs.declared.cmp.Ordering.TheVariants.{Less}
use Rattle.std.specs.Cmp.{nat_cmp_total}
use Rattle.std.specs.FinMap.{nat_cmp-IsAntisymmetric}
use Rattle.cut_measure.specs.declared.ranges.TheConstants.{MAX_COUNT}
use Rattle.cut_measure.specs.Names.{name_cmp}
use Rattle.shop_records.specs.declared.records.Part.{Part}
use Rattle.shop_records.specs.declared.records.Demand.{Demand}
use Rattle.shop_records.specs.declared.messages.Message.{Message}
use Rattle.shop_records.specs.declared.refusals.Refusal.TheVariants.{BadLine, TooMany}
use Rattle.shop_records.specs.Messages.{Texts, message_id_of}
use Rattle.shop_records.specs.Content.{Content, material_at, demand_at, kept_at, changed}
use Rattle.shop_records.specs.Elements.{IsIn}
use Rattle.shop_records.specs.WellFormed.{IsDemand, IsMovedDemand, Fits, IsWellFormed}
use Rattle.shop_records.specs.declared.changes.Change.{Change}
use Rattle.shop_records.specs.declared.messages.Command.TheVariants.{Amend}
use Rattle.shop_records.specs.Readings.{Reading}
use Rattle.shop_machine.specs.Amending.{amend_refusal, amended, amend_change}
use Rattle.shop_machine.specs.Machine.{keeping, Effect, Amends, effects}
use Rattle.shop_machine.specs.History.{acts_of, ordered_lines}
use Rattle.shop_records.proofs.Basics.{nat_cases, get_same, get_other}
use Rattle.shop_records.proofs.Puts.{all_from, pairs_from, found_one, is_known}
use Rattle.shop_machine.proofs.Agreeing.{NoFault, nothing, other}
use Rattle.shop_machine.proofs.Allowed.{none_of}
use Rattle.shop_machine.proofs.Grown.{IsStock, Grows, placed_more, job_more, demand_more, different_more, no_message_ids}
use Rattle.shop_machine.proofs.OrderedLines.{lines_amended, line_amended}
use Rattle.shop_machine.proofs.Accounts.{Follows, row_later}
use Rattle.shop_machine.proofs.Steps.{After, AfterAll}

-- what is reserved and made is wanted
pub amend_in_limit : (found : Option Demand) (row : Demand) (wanted : ℕ) → found ≡ Some row → amend_refusal found wanted ≡ None → row.reserved + row.made ≤ wanted
amend_in_limit found row wanted is allowed =
    let few = none_of (not (nat_le wanted MAX_COUNT)) BadLine _ (subst (λ o. amend_refusal o wanted ≡ None) is allowed) in
    let in_limit = none_of (nat_lt wanted (row.reserved + row.made)) TooMany _ few.1 in
    ltb-false wanted (row.reserved + row.made) in_limit.0

pub amend_agrees : (found : Option Demand) (wanted : ℕ) → NoFault (amend_refusal found wanted)
amend_agrees None wanted = λ e. cc
amend_agrees (Some row) wanted =
    other (not (nat_le wanted MAX_COUNT)) _ _ (λ e. cc) (other (nat_lt wanted (row.reserved + row.made)) _ _ (λ e. cc) nothing)

module _ (m : Content) (stock : IsStock m) (number : ℕ) (row : Demand) (found : demand_at m number ≡ Some row) (wanted : ℕ) (in_limit : row.reserved + row.made ≤ wanted)
    (texts : Texts) (message : Message) where
  abbrev after : Content
  after = changed m (keeping texts message (amend_change row wanted))

  there : demand_at m row.number ≡ Some row
  there = ap (λ n. demand_at m n) (stock.demands number row found).numbered ∙ found

  -- a demand after it is the amended one, or another as it was
  found_after : (n : ℕ) (d : Demand) → demand_at after n ≡ Some d → ((n ≡ row.number) × (d ≡ amended wanted row)) ⊎ ((n ≡ row.number → ⊥) × (demand_at m n ≡ Some d))
  found_after n d is = found_one nat_cmp_total nat_cmp-IsAntisymmetric m.demands row.number (amended wanted row) n d is

  there_after : (n : ℕ) → IsSome (demand_at m n) → IsSome (demand_at after n)
  there_after n h =
      elim (nat_cases n row.number) [
        | inl y ↦ is_known (demand_at after n) (amended wanted row) (ap (demand_at after) y.0 ∙ get_same nat_cmp_total nat_cmp-IsAntisymmetric m.demands row.number (amended wanted row))
        | inr other ↦ subst (λ (o : Option Demand). IsSome o) (sym (get_other nat_cmp_total nat_cmp-IsAntisymmetric m.demands row.number (amended wanted row) n other.0)) h
      ]

  grows : Grows m after
  grows = record { materials = λ code x is. is; parts = λ name p is. (p.state, is); demands = there_after; orders = λ code is. is; acts = omega arith }

  row_after : IsDemand after row.number (amended wanted row)
  row_after =
      let old = stock.demands row.number row there in
      record {
        numbered = refl;
        least = old.least;
        so_far = old.so_far;
        ordered = old.ordered;
        known = old.known;
        counted = record { few = in_limit; reserved = old.counted.reserved; made = old.counted.made };
      }

  same_line : (n : ℕ) (d : Demand) → demand_at after n ≡ Some d → (before : Demand) × (demand_at m n ≡ Some before) × (d.order ≡ before.order) × (d.line ≡ before.line)
  same_line n d is =
      elim (found_after n d is) [
        | inl q ↦ (row, ap (demand_at m) q.0 ∙ there, ap (λ (x : Demand). x.order) q.1, ap (λ (x : Demand). x.line) q.1)
        | inr q ↦ (d, q.1, refl, refl)
      ]

  pub amend_stock : IsStock after
  amend_stock = record {
    in_range = record { acts = stock.in_range.acts; last = stock.in_range.last; last_demand = stock.in_range.last_demand; received = stock.in_range.received; adds_up = stock.in_range.adds_up };
    materials = stock.materials;
    parts = λ name part is. placed_more m after grows name part (stock.parts name part is);
    jobs = λ n j is. job_more m after grows n j (λ w. record { same = refl; none_yet = w.none_yet }) (stock.jobs n j is);
    halts = stock.halts;
    demands = λ n d is.
        elim (found_after n d is) [
          | inl q ↦ subst (λ k. IsDemand after k d) (sym q.0) (subst (IsDemand after row.number) (sym q.1) row_after)
          | inr q ↦
              let old = stock.demands n d q.1 in
              demand_more m after grows (omega arith) n d old (record { few = old.counted.few; reserved = old.counted.reserved; made = old.counted.made })
        ];
    lines = different_more m after same_line stock.lines;
  }

  -- the row that is put
  put_row : (P : Demand → Type 0) → P (amended wanted row) → (x : Demand) → IsIn x (amended wanted row ∷ []) → P x
  put_row P is x (inl e) = subst P (sym e) is
  put_row P is x (inr none) = absurd none

  pub amend_fits : kept_at m (message_id_of message) ≡ None → Fits m (keeping texts message (amend_change row wanted))
  amend_fits new = record {
    material = tt;
    parts = All-nil _;
    rising = no_message_ids (λ (a b : Part). name_cmp a.name b.name ≡ Less);
    moved = tt;
    undone = All-nil _;
    apart = no_message_ids (λ (a b : Part). name_cmp a.name b.name ≡ Less);
    halt = tt;
    begun = tt;
    extended = tt;
    note = tt;
    job = tt;
    order = tt;
    demands = all_from (IsMovedDemand m) (amended wanted row ∷ []) (put_row (IsMovedDemand m) (record { before = row; found = there; is = refl }));
    wanted = all_from (λ (d : Demand). IsSome (material_at m d.material) × (d.reserved + d.made ≤ d.wanted)) (amended wanted row ∷ [])
        (put_row (λ (d : Demand). IsSome (material_at m d.material) × (d.reserved + d.made ≤ d.wanted)) ((stock.demands row.number row there).known, in_limit));
    once = pairs_from (λ (a b : Demand). a.number ≡ b.number → ⊥) (amended wanted row ∷ []) ((λ y i. absurd i), tt);
    lines = tt;
    totals = tt;
    sums = λ c. refl;
    act = tt;
    demand = tt;
    import = tt;
    kept = new;
    entry = tt;
  }

-- ---- what is done to cells

module _ (texts : Texts) (message : Message) (earlier : List Effect) (old : Content) (well_formed : IsWellFormed texts old) (f : Follows earlier old) where
  by_amendment : (row : Demand) (wanted : ℕ) → demand_at old row.number ≡ Some row
      → After texts message earlier old well_formed f (Amends row.number wanted) (amend_change row wanted)
  by_amendment row wanted found = record {
    acts = (let e : old.last_act ≡ acts_of earlier = f.acts in omega arith);
    numbers = f.numbers ∙ sym (lines_amended row.number wanted (ordered_lines earlier));
    lines = line_amended (ordered_lines earlier) old.demands row wanted found f.lines;
    params = f.params;
    rows = λ n p k. row_later (Amends row.number wanted) earlier p (λ job x y is. refl) (f.rows n p k);
    jobs = f.jobs;
    wholes = f.wholes;
    cells = f.cells;
    over = f.over;
  }

  pub amends : (demand wanted : ℕ) (read : Reading) (change : Change) (row : Demand) → demand_at old demand ≡ Some row → change ≡ amend_change row wanted
      → AfterAll texts message earlier old well_formed f (effects (Amend demand wanted) read) change
  amends demand wanted read change row found is =
      let same : row.number ≡ demand = (well_formed.demands demand row found).numbered in
      subst (λ n. AfterAll texts message earlier old well_formed f (effects (Amend n wanted) read) change) same
      (subst (AfterAll texts message earlier old well_formed f (effects (Amend row.number wanted) read)) (sym is)
      (by_amendment row wanted (ap (demand_at old) same ∙ found)))
