-- Entries of a map of parts, each of which is found by its key.
use Rattle.std.proofs.Common.{◌≡◌, List, [], ◌∷◌, map, refl, ap, subst, sym, ◌∙◌, inl, inr, cond, true≢false}
use Rattle.std.specs.Prelude.{T, Some}
use Rattle.std.specs.declared.cmp.Ordering.TheVariants.{Less, Equal}
use Rattle.std.specs.Ordering.{is_eq, is_lt}
use Rattle.std.specs.Cmp.{tied_itself}
use Rattle.std.specs.FinMap.{FinMap, entries, entries_sorted, is_sorted, find, get, get-entries, values}
use Rattle.std.specs.FinMap.Entries.{below_all}
use Rattle.cut_measure.specs.Names.{Name, name_cmp}
use Rattle.shop_records.specs.declared.records.Part.{Part}
use Rattle.shop_records.specs.Elements.{IsIn}
use Rattle.shop_records.proofs.Sums.{first, second, less}
use Rattle.shop_records.proofs.Basics.{names_total, names_same, name_cases, same_some, none_some, untied}

pub below_in : (k : Name) (es : List (Name × Part)) (e : Name × Part) → T (below_all name_cmp k es) → IsIn e es → e.0 ≡ k → ⊥
below_in k [] e t i = λ same. i
below_in k (f ∷ es) e t (inl is) = λ same.
    let lt : name_cmp k f.0 ≡ Less = less (name_cmp k f.0) (first _ _ t) in
    let tie : name_cmp k k ≡ Equal = tied_itself names_total k in
    let eq : name_cmp k k ≡ Less = ap (name_cmp k) (sym same ∙ ap (λ (v : Name × Part). v.0) is) ∙ lt in
    true≢false (ap is_eq (sym tie ∙ eq))
below_in k (f ∷ es) e t (inr i) = below_in k es e (second (is_lt (name_cmp k f.0)) _ t) i

-- an entry of a map is found by its key
pub found_in : (es : List (Name × Part)) (e : Name × Part) → T (is_sorted name_cmp es) → IsIn e es → find name_cmp e.0 es ≡ Some e.1
found_in [] e t i = absurd i
found_in (f ∷ es) e t (inl is) =
    ap (λ (v : Name × Part). find name_cmp v.0 (f ∷ es)) is ∙ ap (λ b. cond b (Some f.1) (find name_cmp f.0 es)) (ap is_eq (tied_itself names_total f.0)) ∙ ap (λ (v : Name × Part). Some v.1) (sym is)
found_in (f ∷ es) e t (inr i) =
    ap (λ b. cond b (Some f.1) (find name_cmp e.0 es)) (untied names_total names_same e.0 f.0 (below_in f.0 es e (first (below_all name_cmp f.0 es) _ t) i)) ∙ found_in es e (second (below_all name_cmp f.0 es) _ t) i

pub in_found : (es : List (Name × Part)) (n : Name) (p : Part) → find name_cmp n es ≡ Some p → IsIn (n, p) es
in_found [] n p e = absurd (none_some p e)
in_found (f ∷ es) n p e =
    elim (name_cases n f.0) [
      | inl y ↦ (
          let is : f.1 ≡ p = same_some f.1 p (sym (ap (λ b. cond b (Some f.1) (find name_cmp n es)) (ap is_eq (ap (λ k. name_cmp k f.0) y.0 ∙ tied_itself names_total f.0))) ∙ e) in
          inl (λ i. (y.0 i, sym is i)))
      | inr off ↦ inr (in_found es n p (sym (ap (λ b. cond b (Some f.1) (find name_cmp n es)) (untied names_total names_same n f.0 off.0)) ∙ e))
    ]

-- what is kept holds of the rows
pub each_value : (m : FinMap name_cmp Part) (P : Part → Type 0) → ((k : Name) (q : Part) → get m k ≡ Some q → P q) → (q : Part) → IsIn q (values m) → P q
each_value m P all q i = go (entries m) (λ e j. all e.0 e.1 (get-entries m e.0 ∙ found_in (entries m) e (entries_sorted m) j)) i
  where
    go : (es : List (Name × Part)) → ((e : Name × Part) → IsIn e es → P e.1) → IsIn q (map (λ (e : Name × Part). e.1) es) → P q
    go [] h j = absurd j
    go (e ∷ es) h (inl is) = subst P (sym is) (h e (inl refl))
    go (e ∷ es) h (inr j) = go es (λ f k. h f (inr k)) j
