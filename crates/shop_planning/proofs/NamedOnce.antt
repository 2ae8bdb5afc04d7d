-- No part is named more often than it stands in the stock.
use Rattle.std.proofs.Common.{◌≡◌, ◌∙◌, ℕ, zero, suc, ◌+◌, ◌*◌, ◌≤◌, cond, eqb, List, [], ◌∷◌, ◌++◌, Bool, true, false, Option, Some, None, ap, drop, refl, sym, take, append_assoc, arith}
use Rattle.std.specs.Prelude.{filter, filter_map, if◌then◌else◌, option_map, slice_get, sum_by}
use Rattle.std.specs.List.{cons_option}
use Rattle.std.specs.List.Sorted.{IsPermutation}
use Rattle.std.proofs.lemmas.Bool.{eq-eqb, ne_eqb}
use Rattle.std.proofs.lemmas.List.{append-nil, drop-take, take-take}
use Rattle.std.proofs.lemmas.List.Sorted.{sum_by-IsPermutation}
use Rattle.std.proofs.lemmas.List.Sums.{sum_by-append, sum_by-cons, sum_by-take-drop, sum_by-take-le}
use Rattle.cut_measure.specs.declared.sizes.Kind.{Kind}
use Rattle.cut_measure.specs.Measures.{Size, is_size}
use Rattle.cut_measure.specs.Names.{Name}
use Rattle.cut_bound.specs.declared.planned.PlannedUnit.{PlannedUnit}
use Rattle.cut_bound.specs.declared.stock.StockSize.{StockSize}
use Rattle.cut_bound.specs.Solutions.{CutUnit, units_at}
use Rattle.cut_bound.specs.Planned.{solution_of}
use Rattle.cut_order.proofs.GrownUnits.{sum_pushed}
use Rattle.shop_records.specs.Same.{same_name}
use Rattle.shop_plans.specs.declared.limits.TheConstants.{UNIT_COST}
use Rattle.shop_plans.specs.declared.answers.ReportedPlan.{ReportedPlan}
use Rattle.shop_plans.specs.declared.queries.BuySize.{BuySize}
use Rattle.shop_planning.specs.declared.instance.PlanInstance.{PlanInstance}
use Rattle.shop_planning.specs.declared.instance.StockPart.{StockPart}
use Rattle.shop_planning.specs.declared.response.Entry.{Entry}
use Rattle.shop_planning.specs.Entries.{AreReportedPlans, entries_from, entries_of, entry_by, entry_of, is_of}
use Rattle.shop_planning.specs.Naming.{parts_named, times_named}
use Rattle.shop_planning.specs.Shares.{shares_of}
use Rattle.shop_planning.specs.Stock.{are_alike, bought_size, firsts, part_size, part_sizes, sizes_of}
use Rattle.shop_planning.proofs.Grouped.{same_sums, whole}
use Rattle.shop_planning.proofs.StockFacts.{likeness, mapped_sum}

filtered_sum : {A : Type 0} (f : A → ℕ) (p : A → Bool) (xs : List A) → sum_by f (filter p xs) ≡ sum_by (λ x. if p x then f x else 0) xs
filtered_sum f p [] = refl
filtered_sum f p (x ∷ xs) = by (p x) (filtered_sum f p xs) ∙ sym (sum_by-cons (λ y. if p y then f y else 0) x xs)
  where
    by : (b : Bool) → sum_by f (filter p xs) ≡ sum_by (λ y. if p y then f y else 0) xs → sum_by f (cond b (x ∷ filter p xs) (filter p xs)) ≡ (if b then f x else 0) + sum_by (λ y. if p y then f y else 0) xs
    by true more = omega (arith, sum_by-cons f x (filter p xs), more)
    by false more = omega (arith, more)

module _ (ranked : List StockPart) (name : Name) where
  abbrev one : StockPart → ℕ
  one part = cond (same_name part.name name) 1 0

  -- how often a plan names the part
  abbrev named : Entry → ℕ
  named e = sum_by (λ n. cond (same_name n name) 1 0) e.reported.parts

  more_taken : (k t : ℕ) (parts : List StockPart) → sum_by one (take (k + t) parts) ≡ sum_by one (take k parts) + sum_by one (take t (drop k parts))
  more_taken k t parts =
      let prefix : take k (take (k + t) parts) ≡ take k parts = take-take k (k + t) parts (omega arith) in
      omega (arith, sum_by-take-drop one (take (k + t) parts) k, ap (sum_by one) prefix, ap (sum_by one) (drop-take k t parts))

  -- how often it is among the first parts of a size, where that is limited
  abbrev among_first : Option ℕ → ℕ → StockSize → ℕ
  among_first None k s = 0
  among_first (Some n) k s = sum_by one (take k (filter (is_of s) ranked))

  entry_adds : (o : Option ℕ) (k : ℕ) (u : PlannedUnit) (s : StockSize) → among_first o k s + named (entry_by o ranked k u s) ≡ among_first o (k + u.times) s
  entry_adds None k u s = refl
  entry_adds (Some n) k u s =
      omega (
        arith,
        more_taken k u.times (filter (is_of s) ranked),
        mapped_sum (λ m. cond (same_name m name) 1 0) (λ (part : StockPart). part.name) (take u.times (drop k (filter (is_of s) ranked))),
      )

  -- the same of all sizes, of each as many as were used
  abbrev took : (ℕ → ℕ) → List StockSize → ℕ
  took used [] = 0
  took used (s ∷ ss) = among_first s.limit (used 0) s + took (λ i. used (suc i)) ss

  took_same : (f g : ℕ → ℕ) (ss : List StockSize) → ((i : ℕ) → f i ≡ g i) → took f ss ≡ took g ss
  took_same f g [] same = refl
  took_same f g (s ∷ ss) same = omega (arith, ap (λ k. among_first s.limit k s) (same 0), took_same (λ i. f (suc i)) (λ i. g (suc i)) ss (λ i. same (suc i)))

  module _ (u : PlannedUnit) where
    abbrev gain : Option StockSize → ℕ → ℕ
    gain None k = 0
    gain (Some s) k = named (entry_of ranked k u s)

    took_more : (f g : ℕ → ℕ) (ss : List StockSize) (p : ℕ) → g p ≡ f p + u.times → ((i : ℕ) → (i ≡ p → ⊥) → g i ≡ f i) → took f ss + gain (slice_get ss p) (f p) ≡ took g ss
    took_more f g [] p here others = refl
    took_more f g (s ∷ ss) zero here others =
        omega (
          arith,
          entry_adds s.limit (f 0) u s,
          ap (λ k. among_first s.limit k s) here,
          took_same (λ i. g (suc i)) (λ i. f (suc i)) ss (λ i. others (suc i) (λ e. absurd (omega (arith, e)))),
        )
    took_more f g (s ∷ ss) (suc q) here others =
        omega (
          arith,
          ap (λ k. among_first s.limit k s) (others 0 (λ e. absurd (omega (arith, e)))),
          took_more (λ i. f (suc i)) (λ i. g (suc i)) ss q here (λ i ne. others (suc i) (λ e. ne (omega (arith, e)))),
        )

    added : (o : Option StockSize) (k : ℕ) (rest : List Entry) → sum_by named (cons_option (option_map (entry_of ranked k u) o) rest) ≡ gain o k + sum_by named rest
    added None k rest = omega arith
    added (Some s) k rest = sum_by-cons named (entry_of ranked k u s) rest

    used_here : (before : List PlannedUnit) → units_at (solution_of (before ++ u ∷ [])) u.place ≡ units_at (solution_of before) u.place + u.times
    used_here before =
        let same : cond {A = ℕ} (eqb u.place u.place) 1 0 ≡ 1 = rw (eq-eqb u.place u.place refl) refl in
        sum_pushed (λ (v : CutUnit). cond (eqb v.place u.place) 1 0) before u ∙ ap (λ n. units_at (solution_of before) u.place + u.times * n) same ∙ omega arith

    used_elsewhere : (before : List PlannedUnit) (i : ℕ) → (i ≡ u.place → ⊥) → units_at (solution_of (before ++ u ∷ [])) i ≡ units_at (solution_of before) i
    used_elsewhere before i other =
        let none : cond {A = ℕ} (eqb u.place i) 1 0 ≡ 0 = rw (ne_eqb u.place i (λ e. other (sym e))) refl in
        sum_pushed (λ (v : CutUnit). cond (eqb v.place i) 1 0) before u ∙ ap (λ n. units_at (solution_of before) i + u.times * n) none ∙ omega arith

  -- plans name what their units take
  plans_take : (sizes : List StockSize) (before us : List PlannedUnit)
      → took (units_at (solution_of before)) sizes + sum_by named (entries_from sizes ranked before us) ≡ took (units_at (solution_of (before ++ us))) sizes
  plans_take sizes before [] = omega (arith, ap (λ (vs : List PlannedUnit). took (units_at (solution_of vs)) sizes) (append-nil before))
  plans_take sizes before (u ∷ us) =
      omega (
        arith,
        added u (slice_get sizes u.place) (units_at (solution_of before) u.place) (entries_from sizes ranked (before ++ u ∷ []) us),
        took_more u (units_at (solution_of before)) (units_at (solution_of (before ++ u ∷ []))) sizes u.place (used_here u before) (used_elsewhere u before),
        plans_take sizes (before ++ u ∷ []) us,
        ap (λ (vs : List PlannedUnit). took (units_at (solution_of vs)) sizes) (append_assoc before (u ∷ []) us),
      )

  -- how often it is among all parts of a size
  abbrev among_all : Option ℕ → StockSize → ℕ
  among_all None s = 0
  among_all (Some n) s = sum_by one (filter (is_of s) ranked)

  first_few : (o : Option ℕ) (k : ℕ) (s : StockSize) → among_first o k s ≤ among_all o s
  first_few None k s = omega arith
  first_few (Some n) k s = sum_by-take-le one (filter (is_of s) ranked) k

  took_few : (used : ℕ → ℕ) (ss : List StockSize) → took used ss ≤ sum_by (λ (s : StockSize). among_all s.limit s) ss
  took_few used [] = omega arith
  took_few used (s ∷ ss) = omega (arith, sum_by-cons (λ (z : StockSize). among_all z.limit z) s ss, first_few s.limit (used 0) s, took_few (λ i. used (suc i)) ss)

  none_used : (ss : List StockSize) → took (λ i. 0) ss ≡ 0
  none_used [] = refl
  none_used (s ∷ ss) = by s.limit (none_used ss)
    where
      by : (o : Option ℕ) → took (λ i. 0) ss ≡ 0 → among_first o 0 s + took (λ i. 0) ss ≡ 0
      by None more = omega (arith, more)
      by (Some n) more = omega (arith, more)

  no_bought : (kind : Kind) (buy : List BuySize) → sum_by (λ (s : StockSize). among_all s.limit s) (filter_map (bought_size kind) buy) ≡ 0
  no_bought kind [] = refl
  no_bought kind (b ∷ bs) = by (is_size kind b.w b.h) (no_bought kind bs)
    where
      by : (t : Bool) → sum_by (λ (s : StockSize). among_all s.limit s) (filter_map (bought_size kind) bs) ≡ 0
          → sum_by (λ (s : StockSize). among_all s.limit s)
          (cons_option (option_map (λ (size : Size). let s : StockSize = record { size = size; cost = size.w * size.h * UNIT_COST; limit = None } in s) (if t then Some (record { w = b.w; h = b.h }) else None)) (filter_map (bought_size kind) bs))
          ≡ 0
      by true more =
          omega (
            arith,
            sum_by-cons (λ (s : StockSize). among_all s.limit s) (record { size = record { w = b.w; h = b.h }; cost = b.w * b.h * UNIT_COST; limit = None }) (filter_map (bought_size kind) bs),
            more,
          )
      by false more = more

  module _ (parts : List StockPart) (same : IsPermutation parts ranked) where
    -- the parts of the size of a part are those alike to it
    of_size : (part : StockPart) → sum_by one (filter (is_of (part_size parts part)) ranked) ≡ sum_by (λ p. if are_alike part p then one p else 0) parts
    of_size part =
        filtered_sum one (is_of (part_size parts part)) ranked
        ∙ sum_by-IsPermutation (λ p. if is_of (part_size parts part) p then one p else 0) parts ranked same
        ∙ same_sums (λ p. if are_alike p part then one p else 0) (λ p. if are_alike part p then one p else 0) parts (λ p. ap (λ b. if b then one p else 0) (likeness.back p part))

    all_sizes : (kind : Kind) (buy : List BuySize) → sum_by (λ (s : StockSize). among_all s.limit s) (sizes_of kind parts buy) ≡ sum_by one parts
    all_sizes kind buy =
        omega (
          arith,
          sum_by-append (λ (s : StockSize). among_all s.limit s) (part_sizes parts) (filter_map (bought_size kind) buy),
          no_bought kind buy,
          mapped_sum (λ (s : StockSize). among_all s.limit s) (part_size parts) (firsts are_alike [] parts)
              ∙ same_sums (λ p. sum_by one (filter (is_of (part_size parts p)) ranked)) (λ p. sum_by (λ x. if are_alike p x then one x else 0) parts) (firsts are_alike [] parts) of_size
              ∙ whole are_alike likeness one parts,
        )

pub named_once : (instance : PlanInstance) (kind : Kind) (buy : List BuySize) (units : List PlannedUnit) (reported : List ReportedPlan) (name : Name)
    → instance.sizes.items ≡ sizes_of kind instance.parts.items buy → AreReportedPlans instance units reported → times_named reported name ≤ parts_named instance.parts.items name
named_once instance kind buy units reported name sizes is =
    let parts = instance.parts.items in
    let count : Entry → ℕ = λ e. sum_by (λ n. cond (same_name n name) 1 0) e.reported.parts in
    let plans : times_named reported name ≡ sum_by count is.list =
    ap (λ ts. times_named ts name) is.plans ∙ mapped_sum (λ (t : ReportedPlan). sum_by (λ n. cond (same_name n name) 1 0) t.parts) (λ (e : Entry). e.reported) is.list in
    let moved : sum_by count is.list ≡ sum_by count (entries_of instance.sizes.items is.ranked (shares_of units)) =
    sum_by-IsPermutation count (entries_of instance.sizes.items is.ranked (shares_of units)) is.list is.each in
    let all : sum_by (λ (s : StockSize). among_all is.ranked name s.limit s) instance.sizes.items ≡ parts_named parts name =
    ap (sum_by (λ (s : StockSize). among_all is.ranked name s.limit s)) sizes ∙ all_sizes is.ranked name parts is.parts.all kind buy in
    omega (
      arith,
      plans,
      moved,
      plans_take is.ranked name instance.sizes.items [] (shares_of units),
      took_few is.ranked name (units_at (solution_of (shares_of units))) instance.sizes.items,
      all,
    )
