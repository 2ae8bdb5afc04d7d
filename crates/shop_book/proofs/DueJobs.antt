-- The least day of the demands that a plan has pieces of, by its leaves and by the demands.
use Rattle.std.proofs.Common.{◌≡◌, ℕ, ◌≤◌, ◌⊎◌, inl, inr, Bool, true, false, List, [], ◌∷◌, map, nat_eq, refl, sym, ap, subst, ◌∙◌, arith}
use Rattle.std.proofs.Math.Nat.{le-min, min-le_left, min-le_right}
use Rattle.std.proofs.lemmas.Bool.{eqb-false, eqb-true, eq-eqb, le-leb, leb-false, leb-true}
use Rattle.std.specs.Prelude.{Option, Some, None, ◌==◌, if◌then◌else◌, min, nat_le}
use Rattle.std.specs.FinMap.{values}
use Rattle.cut_tree.specs.declared.leaves.Leaf.{Leaf}
use Rattle.cut_tree.specs.Leaves.{leaves_of}
use Rattle.cut_tree.specs.Tree.{count_of}
use Rattle.cut_tree.proofs.LeafCounts.{counted}
use Rattle.shop_records.specs.declared.records.Demand.{Demand}
use Rattle.shop_records.specs.declared.records.Job.{Job}
use Rattle.shop_records.specs.Content.{Content, demand_at, of_found}
use Rattle.shop_records.specs.Elements.{IsIn}
use Rattle.shop_records.specs.Lists.{demands_in, due_for_job, due_of, earlier_day, earliest_day}
use Rattle.shop_records.proofs.Basics.{in_map, map_in}
use Rattle.shop_records.proofs.LineCounts.{of_value, passed, passes, value_of}
use Rattle.shop_records.proofs.Puts.{counted_in, in_counted}

-- ---- the earliest of days

record IsEarliest (days : List ℕ) (d : ℕ) : Type 0 where
  least : (x : ℕ) → IsIn x days → 1 ≤ x → (1 ≤ d) × (d ≤ x)
  there : 1 ≤ d → IsIn d days

not_none : (n : ℕ) → nat_eq n 0 ≡ false → 1 ≤ n
not_none n e = let apart = eqb-false n 0 e in omega (arith, apart)

one_more : (a : ℕ) (days : List ℕ) (b : ℕ) → IsEarliest days b → IsEarliest (a ∷ days) (earlier_day a b)
one_more a days b rest = by (nat_eq a 0) (nat_eq b 0) refl refl
  where
    least_is : (a b : ℕ) → (min a b ≡ a) ⊎ (min a b ≡ b)
    least_is a b = by_le (nat_le a b) refl
      where
        by_le : (c : Bool) → nat_le a b ≡ c → (min a b ≡ a) ⊎ (min a b ≡ b)
        by_le true e = let le = leb-true a b e in inl (omega arith)
        by_le false e = let more = leb-false a b e in inr (omega (arith, more))

    by : (p q : Bool) → nat_eq a 0 ≡ p → nat_eq b 0 ≡ q → IsEarliest (a ∷ days) (if p then b else if q then a else min a b)
    by true q e f = let none : a ≡ 0 = eqb-true a 0 e in record {
      least = λ x i some. elim i [
        | inl s ↦ absurd (omega (arith, none, s, some))
        | inr j ↦ rest.least x j some
      ];
      there = λ some. inr (rest.there some);
    }
    by false true e f = let none : b ≡ 0 = eqb-true b 0 f in let some = not_none a e in record {
      least = λ x i more. elim i [
        | inl s ↦ (some, let same : x ≡ a = s in omega (arith, same))
        | inr j ↦ let r = rest.least x j more in absurd (let first = r.0 in omega (arith, none, first))
      ];
      there = λ more. inl refl;
    }
    by false false e f =
        let one = not_none a e in
        let other = not_none b f in
        let left = min-le_left a b in
        let right = min-le_right a b in
        let low : 1 ≤ min a b = le-min one other in
        record {
          least = λ x i more. elim i [
            | inl s ↦ (low, let same : x ≡ a = s in omega (arith, same, left))
            | inr j ↦ let r = rest.least x j more in let most = r.1 in (low, omega (arith, right, most))
          ];
          there = λ more. elim (least_is a b) [
            | inl s ↦ inl s
            | inr s ↦ inr (subst (λ n. IsIn n days) (sym s) (rest.there other))
          ];
        }

earliest_is : (days : List ℕ) → IsEarliest days (earliest_day days)
earliest_is [] = record { least = λ x i some. absurd i; there = λ some. absurd (omega (arith, some)) }
earliest_is (a ∷ days) = one_more a days (earliest_day days) (earliest_is days)

-- lists with the same days have one earliest day
one_earliest : (xs ys : List ℕ) (d e : ℕ) → IsEarliest xs d → IsEarliest ys e → ((x : ℕ) → IsIn x xs → 1 ≤ x → IsIn x ys) → ((x : ℕ) → IsIn x ys → 1 ≤ x → IsIn x xs) → d ≡ e
one_earliest xs ys d e p q forth back = by (nat_eq d 0) (nat_eq e 0) refl refl
  where
    by : (a b : Bool) → nat_eq d 0 ≡ a → nat_eq e 0 ≡ b → d ≡ e
    by true true f g = let one = eqb-true d 0 f in let other = eqb-true e 0 g in omega (arith, one, other)
    by true false f g =
        let some = not_none e g in
        let r = p.least e (back e (q.there some) some) some in
        absurd (let none = eqb-true d 0 f in let first = r.0 in omega (arith, none, first))
    by false true f g =
        let some = not_none d f in
        let r = q.least d (forth d (p.there some) some) some in
        absurd (let none = eqb-true e 0 g in let first = r.0 in omega (arith, none, first))
    by false false f g =
        let one = not_none d f in
        let other = not_none e g in
        let up = (p.least e (back e (q.there other) other) other).1 in
        let down = (q.least d (forth d (p.there one) one) one).1 in
        omega (arith, up, down)

-- ---- a job's day

module _ (content : Content) (own : (number : ℕ) (demand : Demand) → demand_at content number ≡ Some demand → demand.number ≡ number) (job : Job) where
  abbrev leaves : List Leaf
  leaves = leaves_of job.plan.tree job.plan.w job.plan.h job.plan.kerf

  abbrev due_leaf : ℕ → ℕ
  due_leaf number = of_found (λ (demand : Demand). due_of content demand.order) (demand_at content number)

  abbrev is_in_plan : Demand → Bool
  is_in_plan demand = nat_le 1 (count_of job.plan.tree demand.number)

  in_plan : (leaf : Leaf) → IsIn leaf leaves → 1 ≤ count_of job.plan.tree leaf.demand
  in_plan leaf i =
      let e : count_of job.plan.tree leaf.demand ≡ _ = counted job.plan.tree job.plan.w job.plan.h job.plan.kerf leaf.demand in
      subst (λ n. 1 ≤ n) (sym e) (in_counted (λ (l : Leaf). l.demand == leaf.demand) leaves leaf i (eq-eqb leaf.demand leaf.demand refl))

  leaf_of : (number : ℕ) → 1 ≤ count_of job.plan.tree number → (leaf : Leaf) × IsIn leaf leaves × (leaf.demand ≡ number)
  leaf_of number h =
      let e : count_of job.plan.tree number ≡ _ = counted job.plan.tree job.plan.w job.plan.h job.plan.kerf number in
      let r = counted_in (λ (l : Leaf). l.demand == number) leaves (subst (λ n. 1 ≤ n) e h) in
      (r.0, r.1, eqb-true r.0.demand number r.2)

  -- a leaf's day is that of a demand of the plan
  forth : (x : ℕ) → IsIn x (map (λ (leaf : Leaf). due_leaf leaf.demand) leaves) → 1 ≤ x → IsIn x (map (λ (demand : Demand). due_of content demand.order) (demands_in content job))
  forth x i some =
      let r = in_map (λ (leaf : Leaf). due_leaf leaf.demand) leaves x i in
      by r.0 r.1 (demand_at content r.0.demand) refl r.2
    where
      by : (leaf : Leaf) → IsIn leaf leaves → (found : Option Demand) → demand_at content leaf.demand ≡ found → x ≡ of_found (λ (demand : Demand). due_of content demand.order) found
          → IsIn x (map (λ (demand : Demand). due_of content demand.order) (demands_in content job))
      by leaf j None is e = absurd (omega (arith, some, e))
      by leaf j (Some demand) is e =
          let named : demand.number ≡ leaf.demand = own leaf.demand demand is in
          let counts : 1 ≤ count_of job.plan.tree demand.number = subst (λ n. 1 ≤ count_of job.plan.tree n) (sym named) (in_plan leaf j) in
          subst (λ n. IsIn n (map (λ (demand : Demand). due_of content demand.order) (demands_in content job))) (sym e)
          (map_in (λ (demand : Demand). due_of content demand.order) (demands_in content job) demand
          (passes is_in_plan (values content.demands) demand (value_of content.demands own leaf.demand demand is) (le-leb 1 (count_of job.plan.tree demand.number) counts)))

  back : (x : ℕ) → IsIn x (map (λ (demand : Demand). due_of content demand.order) (demands_in content job)) → 1 ≤ x → IsIn x (map (λ (leaf : Leaf). due_leaf leaf.demand) leaves)
  back x i some =
      let r = in_map (λ (demand : Demand). due_of content demand.order) (demands_in content job) x i in
      let demand = r.0 in
      let both = passed is_in_plan (values content.demands) demand r.1 in
      let leaf = leaf_of demand.number (leb-true 1 (count_of job.plan.tree demand.number) both.1) in
      let found : demand_at content leaf.0.demand ≡ Some demand = ap (demand_at content) leaf.2 ∙ of_value content.demands own demand both.0 in
      subst (λ n. IsIn n (map (λ (leaf : Leaf). due_leaf leaf.demand) leaves)) (ap (of_found (λ (d : Demand). due_of content d.order)) found ∙ sym r.2)
      (map_in (λ (leaf : Leaf). due_leaf leaf.demand) leaves leaf.0 leaf.1)

  pub leaves_due : earliest_day (map (λ (leaf : Leaf). due_leaf leaf.demand) leaves) ≡ due_for_job content job
  leaves_due =
      let days = map (λ (leaf : Leaf). due_leaf leaf.demand) leaves in
      let others = map (λ (demand : Demand). due_of content demand.order) (demands_in content job) in
      one_earliest days others (earliest_day days) (earliest_day others) (earliest_is days) (earliest_is others) forth back
