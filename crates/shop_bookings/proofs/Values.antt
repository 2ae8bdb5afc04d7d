-- The values of a map are found at their keys.
use Rattle.std.proofs.Common.{◌≡◌, List, [], ◌∷◌, ap, sym, ◌∙◌, inl, inr, cond}
use Rattle.std.specs.Prelude.{T, Some, All}
use Rattle.std.specs.declared.cmp.Ordering.{Ordering}
use Rattle.std.specs.declared.cmp.Ordering.TheVariants.{Less}
use Rattle.std.specs.Ordering.{is_eq, is_lt}
use Rattle.std.specs.Cmp.{IsTotalOrder, tied_itself, eq_by_cmp_equiv}
use Rattle.std.specs.FinMap.{FinMap, entries, entries_sorted, is_sorted, find, get, get-entries, values}
use Rattle.std.specs.FinMap.Entries.{below_all}
use Rattle.std.proofs.lemmas.List.Elements.{All-map}
use Rattle.shop_records.specs.Elements.{IsIn}
use Rattle.shop_records.proofs.Puts.{all_from}
use Rattle.shop_records.proofs.Sums.{first, second, less}

module _ {K X : Type 0} {R : K → K → Ordering} (o : IsTotalOrder R) where
  below : (k : K) (es : List (K × X)) (e : K × X) → T (below_all R k es) → IsIn e es → R k e.0 ≡ Less
  below k [] e t i = absurd i
  below k (f ∷ es) e t (inl is) = ap (λ (v : K × X). R k v.0) is ∙ less (R k f.0) (first _ _ t)
  below k (f ∷ es) e t (inr i) = below k es e (second (is_lt (R k f.0)) _ t) i

  found : (es : List (K × X)) (e : K × X) → T (is_sorted R es) → IsIn e es → find R e.0 es ≡ Some e.1
  found [] e t i = absurd i
  found (f ∷ es) e t (inl is) =
      ap (λ (v : K × X). find R v.0 (f ∷ es)) is ∙ ap (λ b. cond b (Some f.1) (find R f.0 es)) (ap is_eq (tied_itself o f.0)) ∙ ap (λ (v : K × X). Some v.1) (sym is)
  found (f ∷ es) e t (inr i) =
      ap (λ b. cond b (Some f.1) (find R e.0 es)) ((eq_by_cmp_equiv o).symm e.0 f.0 ∙ ap is_eq (below f.0 es e (first (below_all R f.0 es) _ t) i))
      ∙ found es e (second (below_all R f.0 es) _ t) i

  -- what holds of all that is found holds of the values
  pub each_found : (m : FinMap R X) (P : X → Type 0) → ((k : K) (x : X) → get m k ≡ Some x → P x) → All P (values m)
  each_found m P h =
      All-map P (λ (e : K × X). e.1) (entries m)
      (all_from (λ (e : K × X). P e.1) (entries m) (λ e i. h e.0 e.1 (get-entries m e.0 ∙ found (entries m) e (entries_sorted m) i)))
