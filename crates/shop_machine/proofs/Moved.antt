-- A part that gets another state, with new parts beside it, and demands that are recounted.
use Rattle.std.proofs.Common.{◌≡◌, ℕ, zero, suc, ◌+◌, ◌≤◌, ◌⊎◌, inl, inr, List, ◌∷◌, false, refl, sym, ap, subst, ◌∙◌, arith}
use Rattle.std.specs.Prelude.{Option, Some, None, IsSome, sum_by, count_by, if◌then◌else◌}
use Rattle.std.specs.Ordering.{nat_cmp}
use Rattle.std.specs.FinMap.{FinMap, get, insert, values}
use Rattle.cut_measure.specs.Names.{Name, name_cmp}
use Rattle.cut_tree.specs.declared.lay.Row.{Row}
use Rattle.cut_tree.specs.Tree.{Tree, count_of}
use Rattle.shop_records.specs.declared.records.Part.{Part}
use Rattle.shop_records.specs.declared.records.State.{State}
use Rattle.shop_records.specs.declared.records.Demand.{Demand}
use Rattle.shop_records.specs.declared.records.Column.TheVariants.{Received}
use Rattle.shop_records.specs.Columns.{is_piece_for}
use Rattle.shop_records.specs.Content.{with_parts, with_demands, cells_in, totals_in, AddsUp, in_state}
use Rattle.shop_machine.specs.Recounts.{AreRecounted, with_reserved, with_laid, with_freed, pieces_in}
use Rattle.shop_records.specs.Elements.{IsIn}
use Rattle.shop_records.proofs.Basics.{all_in, any_in, same_some, names_total, names_same, get_other, put_cases, demand_cases}
use Rattle.shop_records.proofs.Puts.{is_known, not_both, Pairwise, put_other, sum_parts, sum_over}
use Rattle.shop_machine.proofs.AddedUp.{cells_as, cells_left, adds_up, adds_up_so}

-- ---- recounts

-- a recount leaves a demand of which the tree has no piece
abbrev pub LeavesOthers : FinMap nat_cmp Demand → (ℕ → Demand → Demand) → Tree → Type 0
LeavesOthers old recount tree = (number : ℕ) (d : Demand) → get old number ≡ Some d → count_of tree number ≡ 0 → recount 0 d ≡ d

module _ (old : FinMap nat_cmp Demand) (recount : ℕ → Demand → Demand) (tree : Tree) (rows : List Demand)
    (r : AreRecounted (λ number. get old number) recount tree rows) (none : LeavesOthers old recount tree) where
  -- a demand that is found, and how it was before
  pub record IsRecount (number : ℕ) (demand : Demand) : Type 0 where
    pub before : Demand
    pub was : get old number ≡ Some before
    pub now : demand ≡ recount (count_of tree number) before

  pub row_recount : (x : Demand) (number : ℕ) → IsIn x rows → x.number ≡ number → IsRecount number x
  row_recount x number i e =
      let only = all_in (λ row. (before : Demand) × (get old row.number ≡ Some before) × (1 ≤ count_of tree row.number) × (row ≡ recount (count_of tree row.number) before)) rows r.only x i in
      record { before = only.0; was = ap (λ n. get old n) (sym e) ∙ only.1; now = only.3 ∙ ap (λ n. recount (count_of tree n) only.0) e }

  uncounted : (number : ℕ) → ((x : Demand) → IsIn x rows → x.number ≡ number → ⊥) → count_of tree number ≡ 0
  uncounted number h = by (count_of tree number) refl
    where
      by : (n : ℕ) → count_of tree number ≡ n → n ≡ 0
      by zero e = refl
      by (suc n) e = let a = any_in (λ row. row.number ≡ number) rows (r.each number (omega (arith, e))) in absurd (h a.0 a.1 a.2)

  pub recount_of : (number : ℕ) (demand : Demand) → get (with_demands rows old) number ≡ Some demand → IsRecount number demand
  recount_of number demand is =
      elim (demand_cases rows old number) [
        | inl p ↦
            let same : p.0 ≡ demand = same_some p.0 demand (sym p.3 ∙ is) in
            subst (λ d. IsRecount number d) same (row_recount p.0 number p.1 p.2)
        | inr q ↦
            record {
              before = demand;
              was = sym q.1 ∙ is;
              now = sym (ap (λ n. recount n demand) (uncounted number q.0) ∙ none number demand (sym q.1 ∙ is) (uncounted number q.0));
            }
      ]

  pub demand_there : (number : ℕ) → IsSome (get old number) → IsSome (get (with_demands rows old) number)
  demand_there number h =
      elim (demand_cases rows old number) [
        | inl p ↦ is_known (get (with_demands rows old) number) p.0 p.3
        | inr q ↦ subst (λ (o : Option Demand). IsSome o) (sym q.1) h
      ]

pub same_demand : (a b : Demand) → a.number ≡ b.number → a.order ≡ b.order → a.line ≡ b.line → a.material ≡ b.material → a.size ≡ b.size → a.may_turn ≡ b.may_turn
    → a.worth ≡ b.worth → a.wanted ≡ b.wanted → a.reserved ≡ b.reserved → a.made ≡ b.made → a ≡ b
same_demand a b n o l m s t w x r d i =
    record { number = n i; order = o i; line = l i; material = m i; size = s i; may_turn = t i; worth = w i; wanted = x i; reserved = r i; made = d i }

module _ (old : FinMap nat_cmp Demand) (tree : Tree) where
  pub no_reserved : LeavesOthers old with_reserved tree
  no_reserved number d is outgoing = same_demand (with_reserved 0 d) d refl refl refl refl refl refl refl refl (omega arith) refl

  pub no_freed : LeavesOthers old with_freed tree
  no_freed number d is outgoing = same_demand (with_freed 0 d) d refl refl refl refl refl refl refl refl (omega arith) refl

  -- where each demand stands under its own number, and no more is laid than the tree's pieces
  pub no_laid : (laid : List Row) → ((d : ℕ) → pieces_in d laid ≤ count_of tree d) → ((number : ℕ) (d : Demand) → get old number ≡ Some d → d.number ≡ number)
      → LeavesOthers old (with_laid laid) tree
  no_laid laid few numbered number d is outgoing =
      let less = few d.number in
      let own : count_of tree d.number ≡ count_of tree number = ap (count_of tree) (numbered number d is) in
      let none : pieces_in d.number laid ≡ 0 = omega (arith, less, own, outgoing) in
      same_demand (with_laid laid 0 d) d refl refl refl refl refl refl refl refl (omega arith) (omega (arith, none))

-- ---- parts

module _ (m : FinMap name_cmp Part) (part : Part) (s : State) (made : List Part) (there : get m part.name ≡ Some part)
    (new : (x : Part) → IsIn x made → get m x.name ≡ None) (apart : Pairwise (λ (x y : Part). x.name ≡ y.name → ⊥) made) where
  abbrev pub moved : FinMap name_cmp Part
  moved = with_parts (in_state s part ∷ made) m

  pub found_moved : (name : Name) (p : Part) → get moved name ≡ Some p
      → ((p ≡ in_state s part) × (name ≡ part.name)) ⊎ ((IsIn p made × (p.name ≡ name)) ⊎ ((name ≡ part.name → ⊥) × (get m name ≡ Some p)))
  found_moved name p is =
      elim (put_cases (in_state s part ∷ made) m name) [
        | inl q ↦ by q.0 q.1 q.2 (same_some q.0 p (sym q.3 ∙ is))
        | inr q ↦
            inr (inr (λ e. q.0 (in_state s part) (inl refl) (sym e), sym q.1 ∙ is))
      ]
    where
      by : (x : Part) → IsIn x (in_state s part ∷ made) → x.name ≡ name → x ≡ p
          → ((p ≡ in_state s part) × (name ≡ part.name)) ⊎ ((IsIn p made × (p.name ≡ name)) ⊎ ((name ≡ part.name → ⊥) × (get m name ≡ Some p)))
      by x (inl e) f g = inl (sym g ∙ e, sym f ∙ ap (λ (x : Part). x.name) e)
      by x (inr i) f g = inr (inl (subst (λ (x : Part). IsIn x made) g i, ap (λ (x : Part). x.name) (sym g) ∙ f))

  pub other_moved : (name : Name) → (name ≡ part.name → ⊥) → ((x : Part) → IsIn x made → x.name ≡ name → ⊥) → get moved name ≡ get m name
  other_moved name h g = put_other (in_state s part ∷ made) m name by
    where
      by : (x : Part) → IsIn x (in_state s part ∷ made) → x.name ≡ name → ⊥
      by x (inl e) f = h (sym f ∙ ap (λ (x : Part). x.name) e)
      by x (inr i) f = g x i f

  -- a part that was there is there, in some state
  pub still_moved : (name : Name) (p : Part) → get m name ≡ Some p → (t : State) × (get moved name ≡ Some (in_state t p))
  still_moved name p is =
      elim (put_cases (in_state s part ∷ made) m name) [
        | inl q ↦ by q.0 q.1 q.2 q.3
        | inr q ↦ (p.state, q.1 ∙ is)
      ]
    where
      by : (x : Part) → IsIn x (in_state s part ∷ made) → x.name ≡ name → get moved name ≡ Some x → (t : State) × (get moved name ≡ Some (in_state t p))
      by x (inl e) f g =
          let same : part ≡ p = same_some part p (sym there ∙ ap (λ n. get m n) (ap (λ (y : Part). y.name) (sym e) ∙ f) ∙ is) in
          (s, g ∙ ap (λ (y : Part). Some y) e ∙ ap (λ (y : Part). Some (in_state s y)) same)
      by x (inr i) f g = absurd (not_both (get m x.name) p (new x i) (ap (λ n. get m n) f ∙ is))

  apart_of : (x : Part) → IsIn x made → x.name ≡ part.name → ⊥
  apart_of x i e = not_both (get m x.name) part (new x i) (ap (λ n. get m n) e ∙ there)

  pub sum_moved : (f : Part → ℕ) → sum_by f (values moved) + f part ≡ sum_by f (values m) + f (in_state s part) + sum_by f made
  sum_moved f =
      let over = sum_over names_total names_same f m part.name part (in_state s part) there in
      let more = sum_parts f made (insert m part.name (in_state s part)) apart
      (λ x i. get_other names_total names_same m part.name (in_state s part) x.name (apart_of x i) ∙ new x i) in
      omega (arith, over, more)

  pub received_moved : (code : List ℕ) → sum_by (cells_as Received code) made ≡ 0 → cells_in Received code (values moved) ≡ cells_in Received code (values m)
  received_moved code none = let sum = sum_moved (cells_as Received code) in omega (arith, sum, none)

  pub adds_up_moved : (code : List ℕ) → sum_by (cells_as Received code) made ≡ 0 → cells_left code part ≡ cells_left code (in_state s part) + sum_by (cells_left code) made
      → AddsUp (totals_in code (values m)) → AddsUp (totals_in code (values moved))
  adds_up_moved code none left before =
      let sum = sum_moved (cells_left code) in
      let received = received_moved code none in
      let old = adds_up_so code (values m) before in
      adds_up code (values moved) (received ∙ old ∙ omega (arith, sum, left))

  pub made_moved : (number : ℕ) → is_piece_for number part.state ≡ false → is_piece_for number s ≡ false
      → count_by (λ (p : Part). is_piece_for number p.state) (values moved) ≡ count_by (λ (p : Part). is_piece_for number p.state) (values m) + count_by (λ (p : Part). is_piece_for number p.state) made
  made_moved number a b =
      let sum = sum_moved (λ (p : Part). if is_piece_for number p.state then 1 else 0) in
      let none : ◌≡◌ {A = ℕ} (if is_piece_for number part.state then 1 else 0) 0 = ap {B = ℕ} (λ b. if b then 1 else 0) a in
      let still : ◌≡◌ {A = ℕ} (if is_piece_for number s then 1 else 0) 0 = ap {B = ℕ} (λ b. if b then 1 else 0) b in
      omega (arith, sum, none, still)
