-- What is known of a command that isn't refused.
use Rattle.std.proofs.Common.{◌≡◌, ℕ, ◌≤◌, inl, inr, List, [], ◌∷◌, Bool, true, false, refl, sym, ap, subst, ◌∙◌, arith}
use Rattle.std.specs.Prelude.{Option, Some, None, nat_le, ◌==◌, ◌&&◌, if◌then◌else◌}
use Rattle.std.specs.List.{list_any, list_all}
use Rattle.std.specs.Option.{option_or}
use Rattle.std.proofs.lemmas.Bool.{and_parts, or_parts, leb-true, eqb-true, eq-eqb}
use Rattle.cut_measure.specs.declared.ranges.TheConstants.{MAX_WIDTH, MAX_HEIGHT, MAX_KERF}
use Rattle.cut_measure.specs.declared.sizes.Kind.{Kind}
use Rattle.cut_measure.specs.declared.sizes.Kind.TheVariants.{Bar, Sheet}
use Rattle.cut_measure.specs.Measures.{is_size, are_params}
use Rattle.cut_tree.specs.declared.leaves.Leaf.{Leaf}
use Rattle.cut_tree.specs.Tree.{count_of}
use Rattle.cut_tree.specs.Patterns.{Pattern}
use Rattle.cut_tree.proofs.LeafCounts.{counted}
use Rattle.shop_records.specs.declared.records.State.{State}
use Rattle.shop_records.specs.declared.records.State.TheVariants.{Standing}
use Rattle.shop_records.specs.declared.refusals.Refusal.{Refusal}
use Rattle.shop_records.specs.Columns.{is_free}
use Rattle.shop_machine.specs.Recounts.{plan_leaves}
use Rattle.shop_records.specs.Elements.{IsIn}
use Rattle.shop_records.proofs.Puts.{counted_in, in_counted}

-- ---- tests

pub none_of : (b : Bool) (r : Refusal) (o : Option Refusal) → (if b then Some r else o) ≡ None → (b ≡ false) × (o ≡ None)
none_of true r o e = cc
none_of false r o e = (refl, e)

pub or_none : {X : Type 0} (o p : Option X) → option_or o p ≡ None → (o ≡ None) × (p ≡ None)
or_none None p e = (refl, e)
or_none (Some x) p e = cc

pub any_none : {X : Type 0} (p : X → Bool) (xs : List X) → list_any p xs ≡ false → (x : X) → IsIn x xs → p x ≡ false
any_none p [] e x i = absurd i
any_none p (y ∷ ys) e x (inl s) = ap p s ∙ (or_parts (p y) (list_any p ys) e).0
any_none p (y ∷ ys) e x (inr i) = any_none p ys (or_parts (p y) (list_any p ys) e).1 x i

pub all_true : {X : Type 0} (p : X → Bool) (xs : List X) → ((x : X) → IsIn x xs → p x ≡ true) → list_all p xs ≡ true
all_true p [] h = refl
all_true p (y ∷ ys) h = ap (λ b. b && list_all p ys) (h y (inl refl)) ∙ all_true p ys (λ x i. h x (inr i))

-- ---- sizes and rules

pub record IsSized (w h : ℕ) : Type 0 where
  pub some_width : 1 ≤ w
  pub width : w ≤ MAX_WIDTH
  pub some_height : 1 ≤ h
  pub height : h ≤ MAX_HEIGHT

pub sized : (kind : Kind) (w h : ℕ) → is_size kind w h ≡ true → IsSized w h
sized Bar w h e =
    let p = and_parts (nat_le 1 w && nat_le w MAX_WIDTH) (h == 1) e in
    let q = and_parts (nat_le 1 w) (nat_le w MAX_WIDTH) p.0 in
    let one = eqb-true h 1 p.1 in
    record { some_width = leb-true 1 w q.0; width = leb-true w MAX_WIDTH q.1; some_height = omega (arith, one); height = omega (arith, one) }
sized Sheet w h e =
    let p = and_parts (nat_le 1 w && nat_le w MAX_WIDTH && nat_le 1 h) (nat_le h MAX_HEIGHT) e in
    let q = and_parts (nat_le 1 w && nat_le w MAX_WIDTH) (nat_le 1 h) p.0 in
    let r = and_parts (nat_le 1 w) (nat_le w MAX_WIDTH) q.0 in
    record { some_width = leb-true 1 w r.0; width = leb-true w MAX_WIDTH r.1; some_height = leb-true 1 h q.1; height = leb-true h MAX_HEIGHT p.1 }

pub narrow : (kind : Kind) (kerf min_long min_short : ℕ) → are_params kind kerf min_long min_short ≡ true → kerf ≤ MAX_KERF
narrow Bar kerf min_long min_short e =
    let p = and_parts (nat_le kerf MAX_KERF && min_short == 1 && nat_le 1 min_long) (nat_le min_long MAX_WIDTH) e in
    let q = and_parts (nat_le kerf MAX_KERF && min_short == 1) (nat_le 1 min_long) p.0 in
    leb-true kerf MAX_KERF (and_parts (nat_le kerf MAX_KERF) (min_short == 1) q.0).0
narrow Sheet kerf min_long min_short e =
    let p = and_parts (nat_le kerf MAX_KERF && nat_le 1 min_short && nat_le min_short min_long) (nat_le min_long MAX_WIDTH) e in
    let q = and_parts (nat_le kerf MAX_KERF && nat_le 1 min_short) (nat_le min_short min_long) p.0 in
    leb-true kerf MAX_KERF (and_parts (nat_le kerf MAX_KERF) (nat_le 1 min_short) q.0).0

pub flat : (kind : Kind) (w h : ℕ) → is_size kind w h ≡ true → kind ≡ Bar → h ≡ 1
flat Bar w h e bar = eqb-true h 1 (and_parts (nat_le 1 w && nat_le w MAX_WIDTH) (h == 1) e).1
flat Sheet w h e bar = cc

-- a demand of which a plan has pieces is one of its leaves'
pub leaf_with : (plan : Pattern) (number : ℕ) → 1 ≤ count_of plan.tree number → (leaf : Leaf) × IsIn leaf (plan_leaves plan) × (leaf.demand ≡ number)
leaf_with plan number h =
    let e : count_of plan.tree number ≡ _ = counted plan.tree plan.w plan.h plan.kerf number in
    let r = counted_in (λ (l : Leaf). l.demand == number) (plan_leaves plan) (subst (λ n. 1 ≤ n) e h) in
    (r.0, r.1, eqb-true r.0.demand number r.2)

pub leaf_counts : (plan : Pattern) (leaf : Leaf) → IsIn leaf (plan_leaves plan) → 1 ≤ count_of plan.tree leaf.demand
leaf_counts plan leaf i =
    let e : count_of plan.tree leaf.demand ≡ _ = counted plan.tree plan.w plan.h plan.kerf leaf.demand in
    subst (λ n. 1 ≤ n) (sym e) (in_counted (λ (l : Leaf). l.demand == leaf.demand) (plan_leaves plan) leaf i (eq-eqb leaf.demand leaf.demand refl))

-- a part that is free stands
pub free_stands : (s : State) → is_free s ≡ true → s ≡ Standing
free_stands Standing e = refl
free_stands _ e = cc
