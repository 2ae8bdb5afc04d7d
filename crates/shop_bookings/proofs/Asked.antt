-- What a query asks of a content: its wants are open demands, and its parts stand.
use Rattle.std.proofs.Common.{◌≡◌, ℕ, ◌+◌, List, [], ◌∷◌, map, take, Bool, true, false, refl, sym, ap, subst, ◌∙◌}
use Rattle.std.specs.Prelude.{Option, Some, None, All, filter, not, ◌==◌, ◌&&◌, nat_lt, if◌then◌else◌}
use Rattle.std.specs.List.{cons_option, AllByRecursion}
use Rattle.std.specs.Cmp.{nat_cmp_total}
use Rattle.std.specs.FinMap.{values}
use Rattle.std.proofs.lemmas.Bool.{and_parts, not-false}
use Rattle.std.proofs.lemmas.List.Elements.{All-cons, All-filter, All-map, All-nil, All-take, filter_passes, recursion_from_All}
use Rattle.cut_measure.specs.declared.sizes.Kind.{Kind}
use Rattle.cut_measure.specs.Names.{Name}
use Rattle.cut_measure.specs.declared.ranges.TheConstants.{MAX_NUMBERS}
use Rattle.cut_wants.specs.declared.wants.Want.{Want}
use Rattle.cut_bound.specs.declared.limits.TheConstants.{MAX_ORDER_WANTS, MAX_PARTS}
use Rattle.shop_records.specs.declared.records.Demand.{Demand}
use Rattle.shop_records.specs.declared.records.Part.{Part}
use Rattle.shop_records.specs.declared.refusals.Refusal.TheVariants.{NoDemand, NotStanding, WrongMaterial}
use Rattle.shop_records.specs.Columns.{is_free, is_there}
use Rattle.shop_records.specs.Content.{Content, demand_at, part_at, is_listed, parts_of}
use Rattle.shop_records.specs.Lists.{open_demands, parts_after, is_after, is_asked_for, is_open}
use Rattle.shop_records.specs.Messages.{Texts}
use Rattle.shop_records.specs.Same.{same_code}
use Rattle.shop_records.specs.WellFormed.{IsWellFormed}
use Rattle.shop_records.proofs.Basics.{names_total, same_some}
use Rattle.shop_machine.proofs.Allowed.{none_of, or_none}
use Rattle.shop_answers.specs.declared.planning.FoundDemand.{FoundDemand}
use Rattle.shop_answers.specs.Planning.{demand_refusal, found_refusal, found_wants, is_demand_number, left_of, planned_size, want_of}
use Rattle.shop_planning.specs.declared.instance.StockPart.{StockPart}
use Rattle.shop_planning.specs.Asked.{before_it, demands_for, first_by_day, parts_for, found_demand, with_row, has_left, can_be_planned, is_long}
use Rattle.shop_planning.specs.Queries.{part_refusal, parts_refusal}
use Rattle.shop_planning.specs.Stock.{parts_from, stock_part, stock_parts}
use Rattle.shop_bookings.proofs.Values.{each_found}

-- ---- wants

-- a want is what is left of a demand of this material
pub record IsWantOf (m : Content) (code : List ℕ) (x : Want) : Type 0 where
  pub demand : Demand
  pub found : demand_at m x.demand ≡ Some demand
  pub of : same_code demand.material code ≡ true
  pub size : x.size ≡ demand.size
  pub turns : x.may_turn ≡ demand.may_turn
  pub left : x.left ≡ left_of demand

-- a demand of this material was found
record IsFound (m : Content) (code : List ℕ) (f : FoundDemand) : Type 0 where
  demand : Demand
  is : f.demand ≡ Some demand
  found : demand_at m f.number ≡ Some demand
  of : same_code demand.material code ≡ true

-- what holds by two things that hold of all
all_both : {X : Type 0} (P Q R : X → Type 0) → ((x : X) → P x → Q x → R x) → (xs : List X) → All P xs → All Q xs → All R xs
all_both P Q R f xs p q i d within = f _ (p i d within) (q i d within)

module _ (m : Content) (code : List ℕ) where
  want_found : (number : ℕ) (d : Demand) (x : Want) → demand_at m number ≡ Some d → same_code d.material code ≡ true → want_of number (Some d) ≡ Some x → IsWantOf m code x
  want_found number d x found of is = by (left_of d == 0) is
    where
      want : Want
      want = record { demand = number; size = d.size; may_turn = d.may_turn; left = left_of d; worth = d.worth }

      by : (b : Bool) → (if b then None else Some want) ≡ Some x → IsWantOf m code x
      by true e = cc
      by false e =
          subst (IsWantOf m code) (same_some want x e) (record { demand = d; found = found; of = of; size = refl; turns = refl; left = refl })

  all_wanted : (fs : List FoundDemand) → AllByRecursion (IsFound m code) fs → All (IsWantOf m code) (found_wants fs)
  all_wanted [] all = All-nil (IsWantOf m code)
  all_wanted (f ∷ fs) all = by (want_of f.number f.demand) refl (all_wanted fs all.1)
    where
      by : (o : Option Want) → want_of f.number f.demand ≡ o → All (IsWantOf m code) (found_wants fs) → All (IsWantOf m code) (cons_option o (found_wants fs))
      by None e more = more
      by (Some x) e more =
          All-cons (IsWantOf m code) x (found_wants fs)
          (want_found f.number all.0.demand x all.0.found all.0.of (ap (want_of f.number) (sym all.0.is) ∙ e)) more

  -- demands that are named and not refused
  named_found : (ns : List ℕ) → found_refusal code (map (found_demand m) ns) ≡ None → AllByRecursion (IsFound m code) (map (found_demand m) ns)
  named_found [] e = tt
  named_found (n ∷ ns) e =
      let both = or_none (demand_refusal code n (demand_at m n)) (found_refusal code (map (found_demand m) ns)) e in
      (by (demand_at m n) refl both.0, named_found ns both.1)
    where
      by : (o : Option Demand) → demand_at m n ≡ o → demand_refusal code n o ≡ None → IsFound m code (found_demand m n)
      by None is f = cc
      by (Some d) is f =
          let more = none_of (not (is_demand_number n)) NoDemand _ f in
          let other = none_of (not (same_code d.material code)) WrongMaterial _ more.1 in
          record { demand = d; is = is; found = is; of = not-false (same_code d.material code) other.0 }

  module _ (texts : Texts) (well_formed : IsWellFormed texts m) where
    -- open demands of the material
    open_found : All (λ (d : Demand). IsFound m code (with_row d)) (open_demands m 0 (Some code))
    open_found =
        let asked = λ (d : Demand). nat_lt 0 d.number && is_asked_for (Some code) d.material && is_open d in
        let Kept = λ (d : Demand). demand_at m d.number ≡ Some d in
        all_both Kept (λ (d : Demand). asked d ≡ true) (λ (d : Demand). IsFound m code (with_row d))
        (λ d found is. record {
          demand = d;
          is = refl;
          found = found;
          of = (and_parts (nat_lt 0 d.number) (same_code d.material code) (and_parts (nat_lt 0 d.number && same_code d.material code) (is_open d) is).0).1;
        })
        (open_demands m 0 (Some code))
        (All-filter asked Kept (values m.demands) (each_found nat_cmp_total m.demands Kept (λ n d is. ap (demand_at m) (well_formed.demands n d is).numbered ∙ is)))
        (filter_passes asked (values m.demands))

    pub wants_found : (named : Option (List ℕ)) → found_refusal code (demands_for m code named) ≡ None → All (IsWantOf m code) (found_wants (demands_for m code named))
    wants_found None e =
        let P = λ (d : Demand). IsFound m code (with_row d) in
        let rows = take MAX_NUMBERS (open_demands m 0 (Some code)) in
        let left = filter has_left rows in
        all_wanted (demands_for m code None) (recursion_from_All (IsFound m code) (demands_for m code None)
        (All-map (IsFound m code) with_row (first_by_day m left) (All-filter (λ (d : Demand). nat_lt (before_it m left d) MAX_ORDER_WANTS) P left
        (All-filter has_left P rows (All-take P MAX_NUMBERS (open_demands m 0 (Some code)) open_found)))))
    wants_found (Some ns) e = all_wanted (map (found_demand m) ns) (named_found ns e)

-- ---- parts

-- a part of the stock stands in the shop
pub record IsPartOf (m : Content) (code : List ℕ) (kind : Kind) (part : StockPart) : Type 0 where
  pub row : Part
  pub found : part_at m part.name ≡ Some row
  pub free : is_free row.state ≡ true
  pub of : same_code row.material code ≡ true
  pub size : part.size ≡ planned_size kind row.size

record IsUsed (m : Content) (code : List ℕ) (o : Option Part) : Type 0 where
  part : Part
  is : o ≡ Some part
  found : part_at m part.name ≡ Some part
  free : is_free part.state ≡ true
  of : same_code part.material code ≡ true

module _ (m : Content) (code : List ℕ) (kind : Kind) where
  all_parts : (remnant place : ℕ) (rows : List (Option Part)) → AllByRecursion (IsUsed m code) rows → All (IsPartOf m code kind) (parts_from kind remnant place rows)
  all_parts remnant place [] all = All-nil (IsPartOf m code kind)
  all_parts remnant place (None ∷ rows) all = all_parts remnant place rows all.1
  all_parts remnant place (Some p ∷ rows) all =
      let same : all.0.part ≡ p = same_some all.0.part p (sym all.0.is) in
      let found : part_at m p.name ≡ Some p = subst (λ (q : Part). part_at m q.name ≡ Some q) same all.0.found in
      let free : is_free p.state ≡ true = subst (λ (q : Part). is_free q.state ≡ true) same all.0.free in
      let of : same_code p.material code ≡ true = subst (λ (q : Part). same_code q.material code ≡ true) same all.0.of in
      All-cons (IsPartOf m code kind) (stock_part kind remnant place p) (parts_from kind remnant (place + 1) rows)
      (record { row = p; found = found; free = free; of = of; size = refl }) (all_parts remnant (place + 1) rows all.1)

  module _ (texts : Texts) (well_formed : IsWellFormed texts m) where
    named_used : (ns : List Name) → parts_refusal code (map (part_at m) ns) ≡ None → AllByRecursion (IsUsed m code) (map (part_at m) ns)
    named_used [] e = tt
    named_used (n ∷ ns) e =
        let both = or_none (part_refusal code (part_at m n)) (parts_refusal code (map (part_at m) ns)) e in
        (by (part_at m n) refl both.0, named_used ns both.1)
      where
        by : (o : Option Part) → part_at m n ≡ o → part_refusal code o ≡ None → IsUsed m code (part_at m n)
        by None is f = cc
        by (Some p) is f =
            let free = none_of (not (is_free p.state)) NotStanding _ f in
            let of = none_of (not (same_code p.material code)) WrongMaterial _ free.1 in
            record {
              part = p;
              is = is;
              found = ap (part_at m) (well_formed.parts n p is).named ∙ is;
              free = not-false (is_free p.state) free.0;
              of = not-false (same_code p.material code) of.0;
            }

    abbrev IsHere : Part → Type 0
    IsHere p = (part_at m p.name ≡ Some p) × (same_code p.material code ≡ true)

    listed_used : All IsHere (parts_after m code None)
    listed_used =
        let Kept = λ (p : Part). part_at m p.name ≡ Some p in
        All-filter (λ (p : Part). is_after None p.name) IsHere (parts_of m code)
        (all_both Kept (λ (p : Part). is_listed code p ≡ true) IsHere
        (λ p found is. (found, (and_parts (same_code p.material code) (is_there p.state) is).0))
        (parts_of m code)
        (All-filter (is_listed code) Kept (values m.parts) (each_found names_total m.parts Kept (λ n p is. ap (part_at m) (well_formed.parts n p is).named ∙ is)))
        (filter_passes (is_listed code) (values m.parts)))

    first_used : AllByRecursion (IsUsed m code) (parts_for m code kind None)
    first_used =
        let rows = take MAX_NUMBERS (parts_after m code None) in
        let Q = λ (p : Part). IsUsed m code (Some p) in
        let all = all_both IsHere (λ (p : Part). can_be_planned kind p ≡ true) Q
        (λ p here is. record { part = p; is = refl; found = here.0; free = (and_parts (is_free p.state) (not (is_long kind p)) is).0; of = here.1 })
        (filter (can_be_planned kind) rows)
        (All-filter (can_be_planned kind) IsHere rows (All-take IsHere MAX_NUMBERS (parts_after m code None) listed_used))
        (filter_passes (can_be_planned kind) rows) in
        recursion_from_All (IsUsed m code) (parts_for m code kind None)
        (All-map (IsUsed m code) Some (take MAX_PARTS (filter (can_be_planned kind) rows)) (All-take Q MAX_PARTS (filter (can_be_planned kind) rows) all))

    pub parts_found : (remnant : ℕ) (named : Option (List Name)) → parts_refusal code (parts_for m code kind named) ≡ None
        → All (IsPartOf m code kind) (stock_parts kind remnant (parts_for m code kind named))
    parts_found remnant None e = all_parts remnant 0 (parts_for m code kind None) first_used
    parts_found remnant (Some ns) e = all_parts remnant 0 (map (part_at m) ns) (named_used ns e)
