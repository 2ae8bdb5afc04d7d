-- More units after others: what they make and use, that they stay a plan of the order, and when no more can be added.
use Rattle.std.proofs.Common.{◌≡◌, ◌⊎◌, ℕ, ◌+◌, ◌*◌, ◌<◌, ◌≤◌, cond, eqb, List, [], ◌∷◌, ◌++◌, length, Option, Some, None, refl, ap, sym, subst, ◌∙◌, inl, inr, append_assoc, arith}
use Rattle.std.specs.Prelude.{Contains, IfSome, IsTrue, nat_le, slice_get, sum_by}
use Rattle.std.proofs.lemmas.Bool.{and_parts, cases_lt, eq-eqb, leb-true}
use Rattle.std.proofs.lemmas.Bool.Decides.{eqb_tells}
use Rattle.std.proofs.lemmas.List.{append-nil}
use Rattle.std.proofs.lemmas.Option.{slice_get_within}
use Rattle.std.proofs.lemmas.List.Elements.{All-contains, All-push, All-weaker, All-contains_itself}
use Rattle.std.proofs.lemmas.List.Sums.{sum_by-append, sum_by-cons}
use Rattle.cut_measure.specs.Measures.{Size}
use Rattle.cut_tree.specs.Tree.{CutsInto, count_of, cut_count}
use Rattle.cut_wants.specs.declared.wants.Want.{Want}
use Rattle.cut_wants.specs.Legal.{HaveOwnDemands, IsWantedPiece, leaf_count, of_demand}
use Rattle.cut_wants.proofs.LeafSums.{of_demand_found}
use Rattle.cut_plan.specs.Faults.{is_fitting}
use Rattle.cut_bound.specs.declared.limits.TheConstants.{MAX_ORDER_UNITS}
use Rattle.cut_bound.specs.declared.stock.StockSize.{StockSize}
use Rattle.cut_bound.specs.declared.planned.PlannedUnit.{PlannedUnit}
use Rattle.cut_bound.specs.Solutions.{AreAtHand, CutUnit, pieces_of, units_at}
use Rattle.cut_bound.specs.Planned.{IsPlannedUnit, MakesNoMore, solution_of, one_of}
use Rattle.cut_bound.specs.Stages.{IsStaged, stage_count}
use Rattle.cut_bound.proofs.PlannedUnits.{planned_all, planned_sum}
use Rattle.cut_order.specs.declared.instance.TheConstants.{MIN_STAGES, MAX_STAGES}
use Rattle.cut_order.specs.Stocks.{IsStageLimit}
use Rattle.cut_order.specs.Places.{IsAddition, IsDoneAt, IsFewOrderPlan, IsFilledOrFull, IsGrown, unit_count}
use Rattle.cut_order.specs.Singles.{single}
use Rattle.cut_order.proofs.SingleTrees.{single_few_cuts, single_few_stages, single_legal, single_sum}

pub grown_none : (us : List PlannedUnit) → IsGrown us us
grown_none us = record { more = []; same = sym (append-nil us) }

pub grown_on : (us vs ws : List PlannedUnit) → IsGrown us vs → IsGrown vs ws → IsGrown us ws
grown_on us vs ws a b = record { more = a.more ++ b.more; same = b.same ∙ ap (λ l. l ++ b.more) a.same ∙ append_assoc us a.more b.more }

-- ---- sums only grow

pub sum_grows : (f : CutUnit → ℕ) (us vs : List PlannedUnit) → IsGrown us vs → sum_by f (solution_of us) ≤ sum_by f (solution_of vs)
sum_grows f us vs g =
    omega (
      arith,
      planned_all f us,
      planned_all f vs,
      ap (planned_sum f) g.same,
      sum_by-append (λ (u : PlannedUnit). u.times * f (one_of u)) us g.more,
    )

pub count_grows : (us vs : List PlannedUnit) → IsGrown us vs → unit_count us ≤ unit_count vs
count_grows us vs g = omega (arith, ap unit_count g.same, sum_by-append (λ (u : PlannedUnit). u.times) us g.more)

-- ---- what is done stays done

more_used : (o : Option ℕ) (m n : ℕ) → m ≤ n → IfSome o (λ most. n < most) → IfSome o (λ most. m < most)
more_used None m n le is = tt
more_used (Some most) m n le is = omega (arith, le, is)

pub done_on : (sizes : List StockSize) (us vs : List PlannedUnit) (x : Want) (place : ℕ) → IsGrown us vs → unit_count vs ≤ MAX_ORDER_UNITS → IsDoneAt sizes us x place → IsDoneAt sizes vs x place
done_on sizes us vs x place g few is =
    record {
      done = elim is.done [
        | inl full ↦ inl (omega (arith, full, few, count_grows us vs g))
        | inr (inl made) ↦ inr (inl (omega (arith, made, sum_grows (λ (u : CutUnit). count_of u.tree x.demand) us vs g)))
        | inr (inr none) ↦
            inr (inr (λ s there unused fits. none s there (more_used s.limit (units_at (solution_of us) place) (units_at (solution_of vs) place) (sum_grows (λ (u : CutUnit). cond (eqb u.place place) 1 0) us vs g) unused) fits))
      ];
    }

pub filled_on : (sizes : List StockSize) (us vs : List PlannedUnit) (x : Want) → IsGrown us vs → unit_count vs ≤ MAX_ORDER_UNITS → IsFilledOrFull sizes us x → IsFilledOrFull sizes vs x
filled_on sizes us vs x g few is =
    elim is [
      | inl full ↦ inl (omega (arith, full, few, count_grows us vs g))
      | inr filled ↦
          inr (record {
            unheld = λ missing place s there unused fits.
                filled.unheld (omega (arith, missing, sum_grows (λ (u : CutUnit). count_of u.tree x.demand) us vs g)) place s there
                (more_used s.limit (units_at (solution_of us) place) (units_at (solution_of vs) place) (sum_grows (λ (u : CutUnit). cond (eqb u.place place) 1 0) us vs g) unused) fits;
          })
    ]

-- places that are done, as far as a loop has come
abbrev pub AreDoneTo : List StockSize → List PlannedUnit → Want → ℕ → Type 0
AreDoneTo sizes us x i = (place : ℕ) → place < i → IsDoneAt sizes us x place

pub done_next : (sizes : List StockSize) (us vs : List PlannedUnit) (x : Want) (i : ℕ) → IsGrown us vs → unit_count vs ≤ MAX_ORDER_UNITS → AreDoneTo sizes us x i → IsDoneAt sizes vs x i
    → AreDoneTo sizes vs x (i + 1)
done_next sizes us vs x i g few before here place lt =
    elim (cases_lt place i) [
      | inl less ↦ done_on sizes us vs x place g few (before place less)
      | inr at ↦
          let same : i ≡ place = omega (arith, lt, at) in
          subst (IsDoneAt sizes vs x) same here
    ]

-- all places are done
pub all_done : (sizes : List StockSize) (us : List PlannedUnit) (x : Want) → unit_count us ≤ MAX_ORDER_UNITS → AreDoneTo sizes us x (length sizes) → IsFilledOrFull sizes us x
all_done sizes us x most done =
    elim (cases_lt (unit_count us) MAX_ORDER_UNITS) [
      | inl few ↦ elim (cases_lt (pieces_of (solution_of us) x.demand) x.left) [
        | inl missing ↦ inr (record { unheld = λ _ place s there unused fits. at few missing place s there unused fits (done place (slice_get_within sizes place s there)).done })
        | inr made ↦ inr (record { unheld = λ missing. absurd (omega (arith, made, missing)) })
      ]
      | inr many ↦ inl (omega (arith, most, many))
    ]
  where
    at : unit_count us < MAX_ORDER_UNITS → pieces_of (solution_of us) x.demand < x.left → (place : ℕ) (s : StockSize) → slice_get sizes place ≡ Some s
        → IfSome s.limit (λ n. units_at (solution_of us) place < n) → IsTrue (is_fitting s.size x)
        → (unit_count us ≡ MAX_ORDER_UNITS) ⊎ (x.left ≤ pieces_of (solution_of us) x.demand)
        ⊎ ((s : StockSize) → slice_get sizes place ≡ Some s → IfSome s.limit (λ n. units_at (solution_of us) place < n) → IsTrue (is_fitting s.size x) → ⊥) → ⊥
    at few missing place s there unused fits (inl full) = absurd (omega (arith, few, full))
    at few missing place s there unused fits (inr (inl made)) = absurd (omega (arith, missing, made))
    at few missing place s there unused fits (inr (inr none)) = none s there unused fits

-- ---- one more kind of units

pub sum_pushed : (f : CutUnit → ℕ) (us : List PlannedUnit) (u : PlannedUnit) → sum_by f (solution_of (us ++ u ∷ [])) ≡ sum_by f (solution_of us) + u.times * f (one_of u)
sum_pushed f us u =
    let g = λ (v : PlannedUnit). v.times * f (one_of v) in
    omega (arith, planned_all f us, planned_all f (us ++ u ∷ []), sum_by-append g us (u ∷ []), sum_by-cons g u [])

count_pushed : (us : List PlannedUnit) (u : PlannedUnit) → unit_count (us ++ u ∷ []) ≡ unit_count us + u.times
count_pushed us u = omega (arith, sum_by-append (λ (v : PlannedUnit). v.times) us (u ∷ []), sum_by-cons (λ (v : PlannedUnit). v.times) u [])

-- the units of a size from which one piece of a want each is cut
pub record IsSingleUnit (wants : List Want) (k : ℕ) (stock : StockSize) (x : Want) (u : PlannedUnit) : Type 0 where
  pub some : 1 ≤ u.times
  pub fits : IsTrue (is_fitting stock.size x)
  pub tree : u.plan.tree ≡ single k stock.size x
  pub wide : u.plan.w ≡ stock.size.w
  pub high : u.plan.h ≡ stock.size.h
  pub sawn : u.plan.kerf ≡ k
  pub has : Contains wants x
  pub some_w : 1 ≤ x.size.w
  pub some_h : 1 ≤ x.size.h

pub is_single : (wants : List Want) (k : ℕ) (size : Size) (stock : StockSize) (x : Want) (u : PlannedUnit) → size ≡ stock.size → 1 ≤ u.times → IsTrue (is_fitting stock.size x)
    → u.plan.tree ≡ single k size x → u.plan.w ≡ size.w → u.plan.h ≡ size.h → u.plan.kerf ≡ k → Contains wants x → 1 ≤ x.size.w → 1 ≤ x.size.h → IsSingleUnit wants k stock x u
is_single wants k size stock x u same some fits tree wide high sawn has some_w some_h =
    record {
      some = some;
      fits = fits;
      tree = tree ∙ ap (λ (s : Size). single k s x) same;
      wide = wide ∙ ap (λ (s : Size). s.w) same;
      high = high ∙ ap (λ (s : Size). s.h) same;
      sawn = sawn;
      has = has;
      some_w = some_w;
      some_h = some_h;
    }

single_count : (wants : List Want) (k : ℕ) (stock : StockSize) (x : Want) (u : PlannedUnit) (d : ℕ) → IsSingleUnit wants k stock x u → count_of u.plan.tree d ≡ cond (eqb x.demand d) 1 0
single_count wants k stock x u d is = ap (λ t. count_of t d) is.tree ∙ single_sum (λ e. cond (eqb e d) 1 0) k stock.size x is.fits

single_unit : (wants : List Want) (k : ℕ) (sizes : List StockSize) (stock : StockSize) (x : Want) (u : PlannedUnit) → slice_get sizes u.place ≡ Some stock → IsSingleUnit wants k stock x u
    → IsPlannedUnit wants k sizes u
single_unit wants k sizes stock x u there is =
    record {
      some = is.some;
      stock = stock;
      there = there;
      planned = record {
        wide = is.wide;
        high = is.high;
        sawn = is.sawn;
        legal = subst (λ t. CutsInto (IsWantedPiece wants) t stock.size.w stock.size.h k) (sym is.tree) (single_legal wants k stock.size x is.has is.some_w is.some_h is.fits);
        some_piece = omega (arith, ap leaf_count is.tree, single_sum (λ _. 1) k stock.size x is.fits);
        few_cuts = omega (arith, ap cut_count is.tree, single_few_cuts k stock.size x is.fits);
      };
    }

same_some : (a b : StockSize) → Some a ≡ Some b → a ≡ b
same_some a b e = cc

at_hand_on : (o : Option ℕ) (old new : ℕ) → new ≤ old → IfSome o (λ n. old ≤ n) → IfSome o (λ n. new ≤ n)
at_hand_on None old new le is = tt
at_hand_on (Some n) old new le is = omega (arith, le, is)

module _ (wants : List Want) (k : ℕ) (sizes : List StockSize) (us : List PlannedUnit) (x : Want) (u : PlannedUnit) (add : IsAddition sizes us x u.place u.times) (is : IsSingleUnit wants k add.stock x u) where
  units_pushed : (p : ℕ) → units_at (solution_of (us ++ u ∷ [])) p ≡ units_at (solution_of us) p + u.times * cond (eqb u.place p) 1 0
  units_pushed p = sum_pushed (λ (v : CutUnit). cond (eqb v.place p) 1 0) us u

  pieces_pushed : (d : ℕ) → pieces_of (solution_of (us ++ u ∷ [])) d ≡ pieces_of (solution_of us) d + u.times * cond (eqb x.demand d) 1 0
  pieces_pushed d = sum_pushed (λ (v : CutUnit). count_of v.tree d) us u ∙ ap (λ n. pieces_of (solution_of us) d + u.times * n) (single_count wants k add.stock x u d is)

  units_here : units_at (solution_of (us ++ u ∷ [])) u.place ≡ units_at (solution_of us) u.place + u.times
  units_here =
      let one : cond {A = ℕ} (eqb u.place u.place) 1 0 ≡ 1 = rw (eq-eqb u.place u.place refl) refl in
      units_pushed u.place ∙ ap (λ n. units_at (solution_of us) u.place + u.times * n) one ∙ omega arith

  pieces_here : pieces_of (solution_of (us ++ u ∷ [])) x.demand ≡ pieces_of (solution_of us) x.demand + u.times
  pieces_here =
      let one : cond {A = ℕ} (eqb x.demand x.demand) 1 0 ≡ 1 = rw (eq-eqb x.demand x.demand refl) refl in
      pieces_pushed x.demand ∙ ap (λ n. pieces_of (solution_of us) x.demand + u.times * n) one ∙ omega arith

  at_hand_pushed : AreAtHand sizes (solution_of us) → AreAtHand sizes (solution_of (us ++ u ∷ []))
  at_hand_pushed before p s there =
      elim (eqb_tells u.place p) [
        | inl (test, same) ↦
            let here : slice_get sizes u.place ≡ Some s = ap (slice_get sizes) same ∙ there in
            let stock : add.stock ≡ s = same_some add.stock s (sym add.there ∙ here) in
            at_hand_on s.limit (units_at (solution_of us) u.place + u.times) (units_at (solution_of (us ++ u ∷ [])) p)
            (omega (arith, ap (units_at (solution_of (us ++ u ∷ []))) same, units_here)) (subst (λ (z : StockSize). IfSome z.limit (λ n. units_at (solution_of us) u.place + u.times ≤ n)) stock add.at_hand)
        | inr (test, other) ↦
            let none : cond {A = ℕ} (eqb u.place p) 1 0 ≡ 0 = rw test refl in
            let same : units_at (solution_of (us ++ u ∷ [])) p ≡ units_at (solution_of us) p = units_pushed p ∙ ap (λ n. units_at (solution_of us) p + u.times * n) none ∙ omega arith in
            at_hand_on s.limit (units_at (solution_of us) p) (units_at (solution_of (us ++ u ∷ [])) p) (omega (arith, same)) (before p s there)
      ]

  single_staged : (stages : Option ℕ) → IsStageLimit stages → IsStaged stages u.plan.tree
  single_staged None limit = tt
  single_staged (Some n) limit = omega (arith, leb-true MIN_STAGES n (and_parts (nat_le MIN_STAGES n) (nat_le n MAX_STAGES) limit).0, ap stage_count is.tree, single_few_stages k add.stock.size x is.fits)

  no_more_pushed : HaveOwnDemands wants → MakesNoMore wants (solution_of us) → MakesNoMore wants (solution_of (us ++ u ∷ []))
  no_more_pushed own before =
      All-weaker (Contains wants) (λ (y : Want). pieces_of (solution_of (us ++ u ∷ [])) y.demand ≤ y.left) each wants (All-contains_itself wants)
    where
      each : (y : Want) → Contains wants y → pieces_of (solution_of (us ++ u ∷ [])) y.demand ≤ y.left
      each y has =
          elim (eqb_tells x.demand y.demand) [
            | inl (test, same) ↦
                let left : x.left ≡ y.left = sym (of_demand_found (λ z. z.left) wants x own is.has) ∙ ap (of_demand (λ z. z.left) wants) same ∙ of_demand_found (λ z. z.left) wants y own has in
                omega (arith, ap (pieces_of (solution_of (us ++ u ∷ []))) same, pieces_here, add.no_more is.some, left)
            | inr (test, other) ↦
                let none : cond {A = ℕ} (eqb x.demand y.demand) 1 0 ≡ 0 = rw test refl in
                let old : pieces_of (solution_of us) y.demand ≤ y.left = All-contains (λ (z : Want). pieces_of (solution_of us) z.demand ≤ z.left) wants y before has in
                omega (arith, pieces_pushed y.demand, ap (λ n. pieces_of (solution_of us) y.demand + u.times * n) none, old)
          ]

  pub plan_pushed : (stages : Option ℕ) → IsStageLimit stages → HaveOwnDemands wants → IsFewOrderPlan wants k stages sizes us → IsFewOrderPlan wants k stages sizes (us ++ u ∷ [])
  plan_pushed stages limit own before =
      record {
        plan = record {
          planned = All-push (IsPlannedUnit wants k sizes) us u before.plan.planned (single_unit wants k sizes add.stock x u add.there is);
          at_hand = at_hand_pushed before.plan.at_hand;
          no_more = no_more_pushed own before.plan.no_more;
        };
        staged = All-push (λ (v : PlannedUnit). IsStaged stages v.plan.tree) us u before.staged (single_staged stages limit);
        few = omega (arith, count_pushed us u, add.few);
      }

  pub done_pushed : IsDoneAt sizes (us ++ u ∷ []) x u.place
  done_pushed =
      record {
        done = elim add.all [
          | inl full ↦ inl (omega (arith, full, count_pushed us u))
          | inr (inl made) ↦ inr (inl (omega (arith, made, pieces_here)))
          | inr (inr none) ↦
              inr (inr (λ s there unused fits.
              let stock : add.stock ≡ s = same_some add.stock s (sym add.there ∙ there) in
              none (subst (λ (z : StockSize). IfSome z.limit (λ n. units_at (solution_of us) u.place + u.times < n)) (sym stock) (subst (λ m. IfSome s.limit (λ n. m < n)) units_here unused))
              (subst (λ (z : StockSize). IsTrue (is_fitting z.size x)) (sym stock) fits)))
        ];
      }

-- nothing is added where nothing can or need be
pub done_already : (sizes : List StockSize) (us : List PlannedUnit) (x : Want) (place times : ℕ) → IsAddition sizes us x place times → times ≡ 0 → IsDoneAt sizes us x place
done_already sizes us x place times add none =
    record {
      done = elim add.all [
        | inl full ↦ inl (omega (arith, full, none))
        | inr (inl made) ↦ inr (inl (omega (arith, made, none)))
        | inr (inr never) ↦
            inr (inr (λ s there unused fits.
            let stock : add.stock ≡ s = same_some add.stock s (sym add.there ∙ there) in
            let same : units_at (solution_of us) place ≡ units_at (solution_of us) place + times = omega (arith, none) in
            never (subst (λ (z : StockSize). IfSome z.limit (λ n. units_at (solution_of us) place + times < n)) (sym stock) (subst (λ m. IfSome s.limit (λ n. m < n)) same unused))
            (subst (λ (z : StockSize). IsTrue (is_fitting z.size x)) (sym stock) fits)))
      ];
    }
