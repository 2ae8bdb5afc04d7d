-- Sums over units of an order: over those that are planned alike, over parts of them, and over pieces of a demand.
use Rattle.std.proofs.Common.{◌≡◌, ◌≢◌, ℕ, zero, suc, ◌+◌, ◌*◌, ◌≤◌, ◌⊎◌, List, [], ◌∷◌, Bool, true, false, refl, sym, ap, subst, ◌∙◌, inl, inr, arith, add-mul, eqb-true, eq-eqb}
use Rattle.std.specs.Prelude.{Some, All, Contains, sum_by, ◌==◌, ◌||◌, if◌then◌else◌}
use Rattle.std.specs.Bool.{Decides}
use Rattle.std.specs.Cmp.{unsigned_Decides}
use Rattle.std.specs.List.{list_any}
use Rattle.std.proofs.lemmas.Bool.{and_parts}
use Rattle.std.proofs.lemmas.Bool.Decides.{Decides-and, Decides-like}
use Rattle.std.proofs.lemmas.List.Sums.{sum_by-cons}
use Rattle.cut_tree.specs.declared.leaves.Leaf.{Leaf}
use Rattle.cut_tree.specs.Leaves.{leaves_of}
use Rattle.cut_tree.specs.Patterns.{Pattern}
use Rattle.cut_tree.specs.SamePatterns.{same_pattern, same_pattern_decides}
use Rattle.cut_tree.specs.Tree.{Tree, count_of}
use Rattle.cut_tree.proofs.LeafCounts.{counted}
use Rattle.cut_tree.proofs.ListedLeaves.{all_listed}
use Rattle.cut_wants.specs.declared.wants.Want.{Want}
use Rattle.cut_wants.specs.Legal.{IsWantedPiece, Legal}
use Rattle.cut_bound.specs.declared.planned.PlannedUnit.{PlannedUnit}
use Rattle.cut_bound.specs.declared.stock.StockSize.{StockSize}
use Rattle.cut_bound.specs.Solutions.{CutUnit, IsCutUnit, pieces_of}
use Rattle.cut_bound.specs.Planned.{IsPlannedUnit, MakesNoMore, solution_of, one_of}
use Rattle.cut_bound.proofs.PlannedUnits.{are_cut, planned_sum}
use Rattle.shop_records.specs.declared.records.Demand.{Demand}
use Rattle.shop_records.specs.Content.{Content, demand_at}
use Rattle.shop_records.specs.Elements.{IsIn}
use Rattle.shop_records.proofs.Basics.{all_in, at_in, same_some}
use Rattle.shop_records.proofs.Puts.{Pairwise, counted_in, sum_as, sum_map, sum_none}
use Rattle.shop_answers.specs.Planning.{left_of}
use Rattle.shop_machine.proofs.Allowed.{any_none}
use Rattle.shop_planning.specs.Shares.{are_alike, share_of, shares_of, times_of}
use Rattle.shop_planning.specs.Stock.{firsts}
use Rattle.shop_planning.proofs.Grouped.{IsLikeness, like_keys, whole}
use Rattle.shop_bookings.proofs.Asked.{IsWantOf}

pub contains_in : {X : Type 0} (xs : List X) (x : X) → Contains xs x → IsIn x xs
contains_in {X} xs x c = subst (λ (y : X). IsIn y xs) c.2 (at_in xs c.0 x c.1)

-- ---- a sum over some is no more than one over all

record IsLeft {S : Type 0} (g : S → ℕ) (ss : List S) (s : S) : Type 0 where
  rest : List S
  sum : sum_by g ss ≡ g s + sum_by g rest
  others : (t : S) → IsIn t ss → (t ≡ s) ⊎ IsIn t rest

taken_out : {S : Type 0} (g : S → ℕ) (ss : List S) (s : S) → IsIn s ss → IsLeft g ss s
taken_out g [] s i = absurd i
taken_out {S} g (x ∷ xs) s (inl e) = record {
  rest = xs;
  sum = sum_by-cons g x xs ∙ ap (λ (y : S). g y + sum_by g xs) (sym e);
  others = λ t i. by t i;
}
  where
    by : (t : S) → IsIn t (x ∷ xs) → (t ≡ s) ⊎ IsIn t xs
    by t (inl f) = inl (f ∙ sym e)
    by t (inr i) = inr i
taken_out {S} g (x ∷ xs) s (inr j) =
    let r = taken_out g xs s j in
    let sum = r.sum in
    let all = sum_by-cons g x xs in
    let rest = sum_by-cons g x r.rest in
    record { rest = x ∷ r.rest; sum = omega (arith, sum, all, rest); others = λ t i. by r t i }
  where
    later : (r : IsLeft g xs s) (t : S) → (t ≡ s) ⊎ IsIn t r.rest → (t ≡ s) ⊎ IsIn t (x ∷ r.rest)
    later r t (inl e) = inl e
    later r t (inr i) = inr (inr i)

    by : (r : IsLeft g xs s) (t : S) → IsIn t (x ∷ xs) → (t ≡ s) ⊎ IsIn t (x ∷ r.rest)
    by r t (inl f) = inr (inl f)
    by r t (inr i) = later r t (r.others t i)

-- one of all has the key, and counts as much
pub record IsAmong {B S K : Type 0} (f : B → ℕ) (g : S → ℕ) (key : B → K) (name : S → K) (ss : List S) (b : B) : Type 0 where
  pub one : S
  pub there : IsIn one ss
  pub named : key b ≡ name one
  pub same : f b ≡ g one

-- where each of some with different keys is one of all
pub sum_within : {B S K : Type 0} (f : B → ℕ) (g : S → ℕ) (key : B → K) (name : S → K) (bs : List B) (ss : List S) → Pairwise (λ (a b : B). key a ≢ key b) bs
    → ((b : B) → IsIn b bs → IsAmong f g key name ss b) → sum_by f bs ≤ sum_by g ss
sum_within f g key name [] ss apart each = omega arith
sum_within {B} {S} {K} f g key name (b ∷ bs) ss apart each =
    let s = each b (inl refl) in
    let cut = taken_out g ss s.one s.there in
    let more = sum_within f g key name bs cut.rest apart.1 (λ c i. by c i s cut (each c (inr i))) in
    let sum = sum_by-cons f b bs in
    let all = cut.sum in
    let one = s.same in
    omega (arith, more, sum, all, one)
  where
    by : (c : B) → IsIn c bs → (s : IsAmong f g key name ss b) → (cut : IsLeft g ss s.one) → IsAmong f g key name ss c → IsAmong f g key name cut.rest c
    by c i s cut t = go (cut.others t.one t.there)
      where
        go : (t.one ≡ s.one) ⊎ IsIn t.one cut.rest → IsAmong f g key name cut.rest c
        go (inl e) = absurd (apart.0 c i (s.named ∙ ap name (sym e) ∙ sym t.named))
        go (inr j) = record { one = t.one; there = j; named = t.named; same = t.same }

-- ---- units that are planned alike

same_unit : (u v : PlannedUnit) → are_alike u v ≡ true → one_of u ≡ one_of v
same_unit u v e =
    let both = and_parts (u.place == v.place) (same_pattern u.plan v.plan) e in
    let place : u.place ≡ v.place = eqb-true u.place v.place both.0 in
    let plan : u.plan ≡ v.plan = (same_pattern_decides u.plan v.plan).0 both.1 in
    one place (ap (λ (p : Pattern). p.tree) plan)
  where
    one : u.place ≡ v.place → u.plan.tree ≡ v.plan.tree → one_of u ≡ one_of v
    one p t i = record { place = p i; tree = t i }

likeness : IsLikeness are_alike
likeness = like_keys are_alike (λ u. (u.place, u.plan)) same_keys
  where
    same_keys : (u v : PlannedUnit) → Decides (are_alike u v) (let k : ℕ × Pattern = (u.place, u.plan) in k ≡ (v.place, v.plan))
    same_keys u v =
        Decides-like _ (λ e i. (e.0 i, e.1 i)) (λ e. (ap (λ k. k.0) e, ap (λ k. k.1) e))
        (Decides-and _ _ (unsigned_Decides u.place v.place) (same_pattern_decides u.plan v.plan))

module _ (f : CutUnit → ℕ) where
  abbrev weight : PlannedUnit → ℕ
  weight u = u.times * f (one_of u)

  scaled : (u : PlannedUnit) (us : List PlannedUnit) → sum_by (λ v. if are_alike u v then v.times else 0) us * f (one_of u) ≡ sum_by (λ v. if are_alike u v then weight v else 0) us
  scaled u [] = omega arith
  scaled u (v ∷ vs) =
      ap (λ n. n * f (one_of u)) (sum_by-cons (λ v. if are_alike u v then v.times else 0) v vs)
      ∙ add-mul (if are_alike u v then v.times else 0) (sum_by (λ v. if are_alike u v then v.times else 0) vs) (f (one_of u))
      ∙ ap (λ n. n + sum_by (λ v. if are_alike u v then v.times else 0) vs * f (one_of u)) (by (are_alike u v) refl)
      ∙ ap (λ n. (if are_alike u v then weight v else 0) + n) (scaled u vs)
      ∙ sym (sum_by-cons (λ v. if are_alike u v then weight v else 0) v vs)
    where
      by : (b : Bool) → are_alike u v ≡ b → (if b then v.times else 0) * f (one_of u) ≡ (if b then weight v else 0)
      by true e = ap (λ (c : CutUnit). v.times * f c) (same_unit u v e)
      by false e = omega arith

  -- all of them weigh as much together
  pub shared : (units : List PlannedUnit) → planned_sum f (shares_of units) ≡ planned_sum f units
  shared units =
      sum_map weight (share_of units) (firsts are_alike [] units)
      ∙ sum_as (λ u. times_of units u * f (one_of u)) (λ u. sum_by (λ v. if are_alike u v then weight v else 0) units) (firsts are_alike [] units) (λ u i. scaled u units)
      ∙ whole are_alike likeness weight units

-- ---- demands of which pieces are planned

any_true : {X : Type 0} (p : X → Bool) (xs : List X) → list_any p xs ≡ true → (x : X) × IsIn x xs × (p x ≡ true)
any_true p [] e = cc
any_true {X} p (x ∷ xs) e = by (λ f. any_true p xs f) (p x) refl e
  where
    by : (list_any p xs ≡ true → (y : X) × IsIn y xs × (p y ≡ true)) → (b : Bool) → p x ≡ b → (b || list_any p xs) ≡ true → (y : X) × IsIn y (x ∷ xs) × (p y ≡ true)
    by more true is f = (x, inl refl, is)
    by more false is f = let r = more f in (r.0, inr r.1, r.2)

module _ (wants : List Want) (kerf : ℕ) (sizes : List StockSize) (units : List PlannedUnit) (planned : All (IsPlannedUnit wants kerf sizes) units) where
  -- a demand that isn't wanted has no piece
  no_pieces : (number : ℕ) → list_any (λ (x : Want). x.demand == number) wants ≡ false → pieces_of (solution_of units) number ≡ 0
  no_pieces number none =
      sum_none (λ (c : CutUnit). count_of c.tree number) (solution_of units)
      (λ c i. let cut = all_in (IsCutUnit wants kerf sizes) (solution_of units) (are_cut wants kerf sizes units planned) c i in
      by c.tree cut.stock.size.w cut.stock.size.h cut.legal (count_of c.tree number) refl)
    where
      by : (t : Tree) (w h : ℕ) → Legal wants kerf t w h → (n : ℕ) → count_of t number ≡ n → n ≡ 0
      by t w h legal zero e = refl
      by t w h legal (suc n) e =
          let leaf = counted_in (λ (l : Leaf). l.demand == number) (leaves_of t w h kerf)
          (subst (λ n. 1 ≤ n) (counted t w h kerf number) (omega (arith, e))) in
          let piece = all_in (λ (l : Leaf). IsWantedPiece wants l.demand l.turned l.w l.h) (leaves_of t w h kerf) (all_listed (IsWantedPiece wants) t w h kerf legal) leaf.0 leaf.1 in
          let is : (piece.0.demand == number) ≡ true = eq-eqb piece.0.demand number (piece.2 ∙ eqb-true leaf.0.demand number leaf.2) in
          let not : (piece.0.demand == number) ≡ false = any_none (λ (x : Want). x.demand == number) wants none piece.0 (contains_in wants piece.0 piece.1) in
          let no : true ≡ false = sym is ∙ not in
          cc

  pub few_pieces : (m : Content) (code : List ℕ) → All (IsWantOf m code) wants → MakesNoMore wants (solution_of units) → (number : ℕ) (d : Demand) → demand_at m number ≡ Some d
      → pieces_of (solution_of units) number ≤ left_of d
  few_pieces m code are no_more number d found = by (list_any (λ (x : Want). x.demand == number) wants) refl
    where
      by : (b : Bool) → list_any (λ (x : Want). x.demand == number) wants ≡ b → pieces_of (solution_of units) number ≤ left_of d
      by false e = let none = no_pieces number e in omega (arith, none)
      by true e =
          let x = any_true (λ (x : Want). x.demand == number) wants e in
          let want = all_in (IsWantOf m code) wants are x.0 x.1 in
          let few = all_in (λ (x : Want). pieces_of (solution_of units) x.demand ≤ x.left) wants no_more x.0 x.1 in
          let is : x.0.demand ≡ number = eqb-true x.0.demand number x.2 in
          let same : want.demand ≡ d = same_some want.demand d (sym want.found ∙ ap (demand_at m) is ∙ found) in
          let left : x.0.left ≡ left_of d = want.left ∙ ap left_of same in
          subst (λ n. pieces_of (solution_of units) n ≤ left_of d) is (subst (λ n. pieces_of (solution_of units) x.0.demand ≤ n) left few)
