-- The parts that are cut by the units of an order, one by one, each with its unit.
use Rattle.std.proofs.Common.{◌≡◌, ℕ, zero, suc, ◌+◌, ◌*◌, ◌≤◌, ◌⊎◌, List, [], ◌∷◌, ◌++◌, map, length, take, drop, true, refl, sym, ap, subst, arith, inl, inr}
use Rattle.std.specs.Prelude.{Option, Some, None, All, filter, slice_get, sum_by, option_map}
use Rattle.std.specs.List.{cons_option}
use Rattle.std.proofs.lemmas.List.Elements.{All-drop, All-filter, All-take, filter_passes}
use Rattle.std.proofs.lemmas.List.Sums.{sum_by-append, sum_by-cons}
use Rattle.cut_measure.specs.Names.{Name}
use Rattle.cut_tree.specs.Spelling.{text_of}
use Rattle.cut_bound.specs.declared.planned.PlannedUnit.{PlannedUnit}
use Rattle.cut_bound.specs.declared.stock.StockSize.{StockSize}
use Rattle.cut_bound.specs.Solutions.{CutUnit, units_at}
use Rattle.cut_bound.specs.Planned.{solution_of, one_of}
use Rattle.cut_bound.proofs.PlannedUnits.{planned_sum}
use Rattle.shop_records.specs.Elements.{IsIn}
use Rattle.shop_records.proofs.Basics.{all_in, in_append, in_first, in_later, in_map, map_in}
use Rattle.shop_records.proofs.Puts.{all_from}
use Rattle.shop_planning.specs.declared.instance.StockPart.{StockPart}
use Rattle.shop_planning.specs.declared.response.Entry.{Entry}
use Rattle.shop_planning.specs.Entries.{entries_from, entry_by, entry_of, is_of, taken}

-- a part that is cut, and the unit as which it is
pub record Slot : Type 0 where
  pub part : StockPart
  pub unit : PlannedUnit

abbrev slot_of : PlannedUnit → StockPart → Slot
slot_of u p = record { part = p; unit = u }

abbrev limited : Option ℕ → List StockPart → List StockPart
limited None parts = []
limited (Some n) parts = parts

-- the parts that are cut as units are planned, none where those are bought
abbrev cut_parts : Option StockSize → List StockPart → ℕ → PlannedUnit → List StockPart
cut_parts None ranked before u = []
cut_parts (Some s) ranked before u = limited s.limit (taken ranked before u s)

abbrev pub slots_from : List StockSize → List StockPart → (before units : List PlannedUnit) → List Slot
slots_from sizes ranked before [] = []
slots_from sizes ranked before (u ∷ us) =
    map (slot_of u) (cut_parts (slice_get sizes u.place) ranked (units_at (solution_of before) u.place) u) ++ slots_from sizes ranked (before ++ u ∷ []) us

-- a unit of these, and a part of its size
pub record IsSlot (sizes : List StockSize) (ranked : List StockPart) (units : List PlannedUnit) (slot : Slot) : Type 0 where
  pub unit : IsIn slot.unit units
  pub stock : StockSize
  pub there : slice_get sizes slot.unit.place ≡ Some stock
  pub part : IsIn slot.part ranked
  pub of : is_of stock slot.part ≡ true

module _ (sizes : List StockSize) (ranked : List StockPart) where
  ranked_of : (s : StockSize) → All (λ (p : StockPart). IsIn p ranked × (is_of s p ≡ true)) (filter (is_of s) ranked)
  ranked_of s =
      let all = All-filter (is_of s) (λ (p : StockPart). IsIn p ranked) ranked (all_from (λ (p : StockPart). IsIn p ranked) ranked (λ p i. i)) in
      let passes = filter_passes (is_of s) ranked in
      λ i d within. (all i d within, passes i d within)

  taken_of : (before : ℕ) (u : PlannedUnit) (s : StockSize) (l : Option ℕ) (p : StockPart) → IsIn p (limited l (taken ranked before u s)) → IsIn p ranked × (is_of s p ≡ true)
  taken_of before u s None p i = absurd i
  taken_of before u s (Some n) p i =
      let P = λ (p : StockPart). IsIn p ranked × (is_of s p ≡ true) in
      all_in P (taken ranked before u s) (All-take P u.times _ (All-drop P before _ (ranked_of s))) p i

  cut_slot : (before : ℕ) (u : PlannedUnit) (us : List PlannedUnit) (o : Option StockSize) (p : StockPart) → slice_get sizes u.place ≡ o → IsIn p (cut_parts o ranked before u)
      → IsSlot sizes ranked (u ∷ us) (slot_of u p)
  cut_slot before u us None p is i = absurd i
  cut_slot before u us (Some s) p is i =
      let t = taken_of before u s s.limit p i in
      record { unit = inl refl; stock = s; there = is; part = t.0; of = t.1 }

  -- each of them is one
  pub slots_are : (before us : List PlannedUnit) (slot : Slot) → IsIn slot (slots_from sizes ranked before us) → IsSlot sizes ranked us slot
  slots_are before [] slot i = absurd i
  slots_are before (u ∷ us) slot i =
      by (λ j. slots_are (before ++ u ∷ []) us slot j)
      (in_append slot (map (slot_of u) (cut_parts (slice_get sizes u.place) ranked (units_at (solution_of before) u.place) u)) (slots_from sizes ranked (before ++ u ∷ []) us) i)
    where
      by : (IsIn slot (slots_from sizes ranked (before ++ u ∷ []) us) → IsSlot sizes ranked us slot)
          → IsIn slot (map (slot_of u) (cut_parts (slice_get sizes u.place) ranked (units_at (solution_of before) u.place) u)) ⊎ IsIn slot (slots_from sizes ranked (before ++ u ∷ []) us)
          → IsSlot sizes ranked (u ∷ us) slot
      by more (inl j) =
          let p = in_map (slot_of u) (cut_parts (slice_get sizes u.place) ranked (units_at (solution_of before) u.place) u) slot j in
          subst (IsSlot sizes ranked (u ∷ us)) (sym p.2) (cut_slot (units_at (solution_of before) u.place) u us (slice_get sizes u.place) p.0 refl p.1)
      by more (inr j) =
          let r = more j in
          record { unit = inr r.unit; stock = r.stock; there = r.there; part = r.part; of = r.of }

  -- a part that is reported with a plan has a slot whose unit has the plan
  abbrev HasSlot : List Slot → Entry → Name → Type 0
  HasSlot slots e name = (slot : Slot) × IsIn slot slots × (slot.part.name ≡ name) × (e.reported.tree ≡ text_of slot.unit.plan.tree)

  entry_slot : (before : ℕ) (u : PlannedUnit) (s : StockSize) (l : Option ℕ) (e : Entry) (name : Name) → e ≡ entry_by l ranked before u s → IsIn name e.reported.parts
      → HasSlot (map (slot_of u) (limited l (taken ranked before u s))) e name
  entry_slot before u s None e name is i = absurd (subst (λ (f : Entry). IsIn name f.reported.parts) is i)
  entry_slot before u s (Some n) e name is i =
      let p = in_map (λ (p : StockPart). p.name) (taken ranked before u s) name (subst (λ (f : Entry). IsIn name f.reported.parts) is i) in
      (slot_of u p.0, map_in (slot_of u) (taken ranked before u s) p.0 p.1, sym p.2, ap (λ (f : Entry). f.reported.tree) is)

  pub reported_slot : (before us : List PlannedUnit) (e : Entry) (name : Name) → IsIn e (entries_from sizes ranked before us) → IsIn name e.reported.parts
      → HasSlot (slots_from sizes ranked before us) e name
  reported_slot before [] e name i j = absurd i
  reported_slot before (u ∷ us) e name i j = by (λ k. reported_slot (before ++ u ∷ []) us e name k j) (slice_get sizes u.place) i
    where
      n : ℕ
      n = units_at (solution_of before) u.place

      Later : Type 0
      Later = IsIn e (entries_from sizes ranked (before ++ u ∷ []) us) → HasSlot (slots_from sizes ranked (before ++ u ∷ []) us) e name

      later : Later → (o : Option StockSize) → IsIn e (entries_from sizes ranked (before ++ u ∷ []) us)
          → HasSlot (map (slot_of u) (cut_parts o ranked n u) ++ slots_from sizes ranked (before ++ u ∷ []) us) e name
      later more o k =
          let r = more k in
          (r.0, in_later r.0 (map (slot_of u) (cut_parts o ranked n u)) (slots_from sizes ranked (before ++ u ∷ []) us) r.1, r.2, r.3)

      by : Later → (o : Option StockSize) → IsIn e (cons_option (option_map (entry_of ranked n u) o) (entries_from sizes ranked (before ++ u ∷ []) us))
          → HasSlot (map (slot_of u) (cut_parts o ranked n u) ++ slots_from sizes ranked (before ++ u ∷ []) us) e name
      by more None k = later more None k
      by more (Some s) (inl is) =
          let r = entry_slot n u s s.limit e name is j in
          (r.0, in_first r.0 (map (slot_of u) (cut_parts (Some s) ranked n u)) (slots_from sizes ranked (before ++ u ∷ []) us) r.1, r.2, r.3)
      by more (Some s) (inr k) = later more (Some s) k

  -- ---- no more parts than units

  few_first : (n : ℕ) (ps : List StockPart) → length (take n ps) ≤ n
  few_first zero ps = omega arith
  few_first (suc n) [] = omega arith
  few_first (suc n) (p ∷ ps) = let few = few_first n ps in omega (arith, few)

  few_taken : (before : ℕ) (u : PlannedUnit) (o : Option StockSize) → length (cut_parts o ranked before u) ≤ u.times
  few_taken before u None = omega arith
  few_taken before u (Some s) = by s.limit
    where
      by : (l : Option ℕ) → length (limited l (taken ranked before u s)) ≤ u.times
      by None = omega arith
      by (Some n) = few_first u.times (drop before (filter (is_of s) ranked))

  few_sum : (f : CutUnit → ℕ) (u : PlannedUnit) (ps : List StockPart) (n : ℕ) → length ps ≤ n
      → sum_by (λ (slot : Slot). f (one_of slot.unit)) (map (slot_of u) ps) ≤ n * f (one_of u)
  few_sum f u [] n few = omega arith
  few_sum f u (p ∷ ps) zero few = absurd (omega (arith, few))
  few_sum f u (p ∷ ps) (suc n) few =
      let sum : sum_by (λ (slot : Slot). f (one_of slot.unit)) (map (slot_of u) (p ∷ ps)) ≡ f (one_of u) + sum_by (λ (slot : Slot). f (one_of slot.unit)) (map (slot_of u) ps) =
      sum_by-cons (λ (slot : Slot). f (one_of slot.unit)) (slot_of u p) (map (slot_of u) ps) in
      let more = few_sum f u ps n (omega (arith, few)) in
      let times = one_more n (f (one_of u)) in
      omega (arith, sum, more, times)
    where
      one_more : (n c : ℕ) → suc n * c ≡ c + n * c
      one_more n c = omega arith

  pub slots_sum : (f : CutUnit → ℕ) (before us : List PlannedUnit) → sum_by (λ (slot : Slot). f (one_of slot.unit)) (slots_from sizes ranked before us) ≤ planned_sum f us
  slots_sum f before [] = omega arith
  slots_sum f before (u ∷ us) =
      let ps = cut_parts (slice_get sizes u.place) ranked (units_at (solution_of before) u.place) u in
      let both = sum_by-append (λ (slot : Slot). f (one_of slot.unit)) (map (slot_of u) ps) (slots_from sizes ranked (before ++ u ∷ []) us) in
      let here = few_sum f u ps u.times (few_taken (units_at (solution_of before) u.place) u (slice_get sizes u.place)) in
      let more = slots_sum f (before ++ u ∷ []) us in
      let all = sum_by-cons (λ (v : PlannedUnit). v.times * f (one_of v)) u us in
      omega (arith, both, here, more, all)
