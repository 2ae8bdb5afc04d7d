-- A map whose entries are all in another one, which has no more, is that one.
use Rattle.std.proofs.Common.{◌≡◌, ℕ, zero, suc, ◌-◌, Bool, true, false, List, [], ◌∷◌, length, Some, None, refl, sym, ap, ◌∙◌, arith, cond}
use Rattle.std.specs.Prelude.{is_some}
use Rattle.std.specs.declared.cmp.Ordering.{Ordering}
use Rattle.std.specs.declared.cmp.Ordering.TheVariants.{Less, Equal, Greater}
use Rattle.std.specs.Ordering.{eq_by_cmp, is_eq}
use Rattle.std.specs.Cmp.{IsTotalOrder, tied_itself}
use Rattle.std.specs.FinMap.{FinMap, IsAntisymmetric, find, get, len, entries, empty_of_len, remove, get-entries, get-remove, get_tied, len-entries, len-remove, same_map}

-- whatever the one finds the other finds
abbrev pub Within : {K X : Type 0} {R : K → K → Ordering} → (one other : FinMap R X) → Type 0
Within {K} {X} one other = (k : K) (v : X) → get one k ≡ Some v → get other k ≡ Some v

pub equal_of : (r : Ordering) → is_eq r ≡ true → r ≡ Equal
equal_of Less e = absurd (cc e)
equal_of Equal e = refl
equal_of Greater e = absurd (cc e)

one_less : (a n : ℕ) → a ≡ suc n → a - 1 ≡ n
one_less a n e = omega (arith, e)

module _ {K X : Type 0} {R : K → K → Ordering} (o : IsTotalOrder R) (same : IsAntisymmetric R) where
  module _ (n : ℕ) (one other : FinMap R X) (k : K) (v : X) (here : get one k ≡ Some v) (there : get other k ≡ Some v) where
    gone : (m : FinMap R X) → get m k ≡ Some v → len m ≡ suc n → len (remove m k) ≡ n
    gone m found many = len-remove o m k ∙ ap (λ f. cond (is_some f) (len m - 1) (len m)) found ∙ one_less (len m) n many

    still : Within one other → Within (remove one k) (remove other k)
    still within q w found = get-remove o other k q ∙ by (eq_by_cmp R q k) (sym (get-remove o one k q) ∙ found)
      where
        by : (b : Bool) → cond b None (get one q) ≡ Some w → cond b None (get other q) ≡ Some w
        by true is = is
        by false is = within q w is

    again : remove other k ≡ remove one k → other ≡ one
    again rest = same_map o same other one (λ q. by q (eq_by_cmp R q k) refl)
      where
        by : (q : K) (b : Bool) → eq_by_cmp R q k ≡ b → get other q ≡ get one q
        by q true tied =
            let tie = equal_of (R q k) tied in
            sym (get_tied o other q k tie) ∙ there ∙ sym here ∙ get_tied o one q k tie
        by q false apart =
            sym (ap (λ b. cond b None (get other q)) apart) ∙ sym (get-remove o other k q) ∙ ap (λ (m : FinMap R X). get m q) rest
            ∙ get-remove o one k q ∙ ap (λ b. cond b None (get one q)) apart

  first_found : (m : FinMap R X) (e : K × X) (es : List (K × X)) → entries m ≡ e ∷ es → get m e.0 ≡ Some e.1
  first_found m e es is =
      get-entries m e.0 ∙ ap (find R e.0) is ∙ ap (λ r. cond (is_eq r) (Some e.1) (find R e.0 es)) (tied_itself o e.0)

  by_entries : (n : ℕ) (one other : FinMap R X) → len one ≡ suc n → len other ≡ suc n → Within one other
      → ((c m : FinMap R X) → len c ≡ n → len m ≡ n → Within c m → m ≡ c) → (es : List (K × X)) → entries one ≡ es → other ≡ one
  by_entries n one other many many_too within rest [] is = absurd (let none : len one ≡ 0 = len-entries one ∙ ap length is in omega (arith, none, many))
  by_entries n one other many many_too within rest (e ∷ es) is =
      let here = first_found one e es is in
      let there = within e.0 e.1 here in
      again n one other e.0 e.1 here there
      (rest (remove one e.0) (remove other e.0) (gone n one other e.0 e.1 here there one here many) (gone n one other e.0 e.1 here there other there many_too)
      (still n one other e.0 e.1 here there within))

  -- one within another that has as many entries is that one
  pub as_many_within : (n : ℕ) (one other : FinMap R X) → len one ≡ n → len other ≡ n → Within one other → other ≡ one
  as_many_within zero one other few few_too within = empty_of_len other few_too ∙ sym (empty_of_len one few)
  as_many_within (suc n) one other many many_too within =
      by_entries n one other many many_too within (λ c m. as_many_within n c m) (entries one) refl
