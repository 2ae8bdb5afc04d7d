-- One text stands for one halt.
use Rattle.std.proofs.Common.{◌≡◌, ◌≤◌, ◌<◌, ℕ, suc, Bool, true, false, List, [], ◌∷◌, ◌++◌, length, get_or, drop, codes, Option, Some, None, IfSome, refl, sym, ap, subst, ◌∙◌, arith, append_assoc}
use Rattle.std.specs.List.{AllByRecursion}
use Rattle.std.specs.Fmt.{decimal}
use Rattle.std.proofs.lemmas.Fmt.{decimal_injective, decimal_nonempty, digits_decimal}
use Rattle.std.proofs.lemmas.Str.Parse.{digit_at}
use Rattle.cut_tree.specs.declared.halts.Halt.{Halt}
use Rattle.cut_tree.specs.declared.halts.Halt.TheVariants.{First, Listed}
use Rattle.cut_tree.proofs.PieceWords.{own}
use Rattle.shop_records.specs.declared.records.JobHalt.{JobHalt}
use Rattle.shop_statements.specs.Halts.{AreCutValues, IsHaltValue, IsSmall, cuts_text, flag_text, halt_text, list_text, lost_text, more_numbers, rest_text}

-- ---- a number ends where its digits do

abbrev IsDigit : ℕ → Type 0
IsDigit b = (48 ≤ b) × (b ≤ 57)

all_from : (ds : List ℕ) → ((i : ℕ) → i < length ds → IsDigit (get_or ds i 0)) → AllByRecursion IsDigit ds
all_from [] h = tt
all_from (b ∷ ds) h = (h 0 (omega arith), all_from ds (λ i l. h (suc i) (omega arith)))

digits : (n : ℕ) → IsSmall n → AllByRecursion IsDigit (decimal n)
digits n small = all_from (decimal n) (λ i l. let d = digit_at (decimal n) i (digits_decimal own n (omega (arith, small))) l in (omega (arith, d.0), omega (arith, d.1)))

-- it doesn't begin with a digit
abbrev BeginsOther : List ℕ → Type 0
BeginsOther [] = Unit {0}
BeginsOther (b ∷ bs) = IsDigit b → ⊥

cut : (ds es xs ys : List ℕ) → AllByRecursion IsDigit ds → AllByRecursion IsDigit es → BeginsOther xs → BeginsOther ys → ds ++ xs ≡ es ++ ys → (ds ≡ es) × (xs ≡ ys)
cut [] [] xs ys p q f g e = (refl, e)
cut [] (b ∷ es) xs ys p q f g e = absurd ((subst BeginsOther e f) q.0)
cut (a ∷ ds) [] xs ys p q f g e = absurd ((subst BeginsOther (sym e) g) p.0)
cut (a ∷ ds) (b ∷ es) xs ys p q f g e =
    let head : a ≡ b = cc in
    let tail : ds ++ xs ≡ es ++ ys = cc in
    let more = cut ds es xs ys p.1 q.1 f g tail in
    (λ i. head i ∷ more.0 i, more.1)

one_number : (m n : ℕ) → IsSmall m → IsSmall n → (xs ys : List ℕ) → BeginsOther xs → BeginsOther ys → decimal m ++ xs ≡ decimal n ++ ys → (m ≡ n) × (xs ≡ ys)
one_number m n p q xs ys f g e =
    let c = cut (decimal m) (decimal n) xs ys (digits m p) (digits n q) f g e in
    (decimal_injective m n (omega (arith, p)) (omega (arith, q)) c.0, c.1)

no_digits : (ds xs ys : List ℕ) → 0 < length ds → AllByRecursion IsDigit ds → BeginsOther ys → ds ++ xs ≡ ys → ⊥
no_digits [] xs ys some p g e = omega (arith, some)
no_digits (b ∷ ds) xs ys some p g e = (subst BeginsOther (sym e) g) p.0

no_number : (n : ℕ) → IsSmall n → (xs ys : List ℕ) → BeginsOther ys → decimal n ++ xs ≡ ys → ⊥
no_number n p xs ys g e = no_digits (decimal n) xs ys (decimal_nonempty n (omega (arith, p))) (digits n p) g e

abbrev head_of : List ℕ → ℕ
head_of [] = 0
head_of (b ∷ bs) = b

abbrev tail_of : List ℕ → List ℕ
tail_of [] = []
tail_of (b ∷ bs) = bs

-- ---- lists

after_list : (xs us : List ℕ) → BeginsOther (more_numbers xs ++ 93 ∷ us)
after_list [] us = λ d. let h = d.1 in omega (arith, h)
after_list (n ∷ xs) us = λ d. let h = d.0 in omega (arith, h)

one_list : (xs ys : List ℕ) → AllByRecursion IsSmall xs → AllByRecursion IsSmall ys → (us vs : List ℕ) → more_numbers xs ++ 93 ∷ us ≡ more_numbers ys ++ 93 ∷ vs → (xs ≡ ys) × (us ≡ vs)
one_list [] [] p q us vs e = (refl, ap tail_of e)
one_list [] (n ∷ ys) p q us vs e = absurd (let h : 93 ≡ 44 = ap head_of e in omega (arith, h))
one_list (m ∷ xs) [] p q us vs e = absurd (let h : 44 ≡ 93 = ap head_of e in omega (arith, h))
one_list (m ∷ xs) (n ∷ ys) p q us vs e =
    let tail : (decimal m ++ more_numbers xs) ++ 93 ∷ us ≡ (decimal n ++ more_numbers ys) ++ 93 ∷ vs = ap tail_of e in
    let flat : decimal m ++ (more_numbers xs ++ 93 ∷ us) ≡ decimal n ++ (more_numbers ys ++ 93 ∷ vs) =
    sym (append_assoc (decimal m) (more_numbers xs) (93 ∷ us)) ∙ tail ∙ append_assoc (decimal n) (more_numbers ys) (93 ∷ vs) in
    let one = one_number m n p.0 q.0 (more_numbers xs ++ 93 ∷ us) (more_numbers ys ++ 93 ∷ vs) (after_list xs us) (after_list ys vs) flat in
    let rest = one_list xs ys p.1 q.1 us vs one.1 in
    (λ i. one.0 i ∷ rest.0 i, rest.1)

flat_list : (n : ℕ) (xs us : List ℕ) → (decimal n ++ (more_numbers xs ++ 93 ∷ [])) ++ us ≡ decimal n ++ (more_numbers xs ++ 93 ∷ us)
flat_list n xs us = append_assoc (decimal n) (more_numbers xs ++ 93 ∷ []) us ∙ ap (λ l. decimal n ++ l) (append_assoc (more_numbers xs) (93 ∷ []) us)

one_whole_list : (xs ys : List ℕ) → AllByRecursion IsSmall xs → AllByRecursion IsSmall ys → (us vs : List ℕ) → list_text xs ++ us ≡ list_text ys ++ vs → (xs ≡ ys) × (us ≡ vs)
one_whole_list [] [] p q us vs e = (refl, ap (drop 2) e)
one_whole_list [] (n ∷ ys) p q us vs e = absurd (no_number n q.0 (more_numbers ys ++ 93 ∷ vs) (93 ∷ us) (λ d. let h = d.1 in omega (arith, h)) (sym (flat_list n ys vs) ∙ sym (ap tail_of e)))
one_whole_list (m ∷ xs) [] p q us vs e = absurd (no_number m p.0 (more_numbers xs ++ 93 ∷ us) (93 ∷ vs) (λ d. let h = d.1 in omega (arith, h)) (sym (flat_list m xs us) ∙ ap tail_of e))
one_whole_list (m ∷ xs) (n ∷ ys) p q us vs e =
    let flat = sym (flat_list m xs us) ∙ ap tail_of e ∙ flat_list n ys vs in
    let one = one_number m n p.0 q.0 (more_numbers xs ++ 93 ∷ us) (more_numbers ys ++ 93 ∷ vs) (after_list xs us) (after_list ys vs) flat in
    let rest = one_list xs ys p.1 q.1 us vs one.1 in
    (λ i. one.0 i ∷ rest.0 i, rest.1)

begins_list : (xs us : List ℕ) → BeginsOther (list_text xs ++ us)
begins_list [] us = λ d. let h = d.1 in omega (arith, h)
begins_list (n ∷ xs) us = λ d. let h = d.1 in omega (arith, h)

-- ---- the keys' values

abbrev ends : Option ℕ → List ℕ
ends rest = rest_text rest ++ codes "}"

begins_end : (rest : Option ℕ) → BeginsOther (ends rest)
begins_end None = λ d. let h = d.1 in omega (arith, h)
begins_end (Some rest) = λ d. let h = d.0 in omega (arith, h)

one_end : (r s : Option ℕ) → IfSome r IsSmall → IfSome s IsSmall → ends r ≡ ends s → r ≡ s
one_end None None p q e = refl
one_end None (Some n) p q e = absurd (let h : 125 ≡ 44 = ap head_of e in omega (arith, h))
one_end (Some m) None p q e = absurd (let h : 44 ≡ 125 = ap head_of e in omega (arith, h))
one_end (Some m) (Some n) p q e =
    let tail : decimal m ++ codes "}" ≡ decimal n ++ codes "}" = ap (drop 8) e in
    let one = one_number m n p q (codes "}") (codes "}") (λ d. let h = d.1 in omega (arith, h)) (λ d. let h = d.1 in omega (arith, h)) tail in
    ap Some one.0

one_flag : (l k : Bool) (us vs : List ℕ) → flag_text l ++ us ≡ flag_text k ++ vs → (l ≡ k) × (us ≡ vs)
one_flag true true us vs e = (refl, ap (drop 4) e)
one_flag true false us vs e = absurd (let h : 116 ≡ 102 = ap head_of e in omega (arith, h))
one_flag false true us vs e = absurd (let h : 102 ≡ 116 = ap head_of e in omega (arith, h))
one_flag false false us vs e = (refl, ap (drop 5) e)

abbrev cut_text : Option ℕ → List ℕ
cut_text None = flag_text false
cut_text (Some cut) = decimal cut

one_cut : (a b : Option ℕ) → IfSome a IsSmall → IfSome b IsSmall → (us vs : List ℕ) → BeginsOther us → BeginsOther vs → cut_text a ++ us ≡ cut_text b ++ vs → (a ≡ b) × (us ≡ vs)
one_cut None None p q us vs f g e = (refl, ap (drop 5) e)
one_cut None (Some n) p q us vs f g e = absurd (no_number n q vs (flag_text false ++ us) (λ d. let h = d.1 in omega (arith, h)) (sym e))
one_cut (Some m) None p q us vs f g e = absurd (no_number m p us (flag_text false ++ vs) (λ d. let h = d.1 in omega (arith, h)) e)
one_cut (Some m) (Some n) p q us vs f g e = let one = one_number m n p q us vs f g e in (ap Some one.0, one.1)

lost_is : (cuts : List ℕ) (lost : Option ℕ) → lost_text (Listed cuts lost) ≡ cut_text lost
lost_is cuts None = refl
lost_is cuts (Some cut) = refl

abbrev behind : Halt → Option ℕ → List ℕ
behind halt rest = codes ",\"lost\":" ++ (lost_text halt ++ ends rest)

begins_behind : (halt : Halt) (rest : Option ℕ) → BeginsOther (behind halt rest)
begins_behind halt rest = λ d. let h = d.0 in omega (arith, h)

one_of : (h k : Halt) (r s : Option ℕ) → AreCutValues h → AreCutValues k → IfSome r IsSmall → IfSome s IsSmall → cuts_text h ++ behind h r ≡ cuts_text k ++ behind k s → (h ≡ k) × (r ≡ s)
one_of (First c l) (First d k) r s p q u v e =
    let cuts = one_number c d p q (behind (First c l) r) (behind (First d k) s) (begins_behind (First c l) r) (begins_behind (First d k) s) e in
    let lost = one_flag l k (ends r) (ends s) (ap (drop 8) cuts.1) in
    (λ i. First (cuts.0 i) (lost.0 i), one_end r s u v lost.1)
one_of (First c l) (Listed ys b) r s p q u v e = absurd (no_number c p (behind (First c l) r) (list_text ys ++ behind (Listed ys b) s) (begins_list ys (behind (Listed ys b) s)) e)
one_of (Listed xs a) (First d k) r s p q u v e = absurd (no_number d q (behind (First d k) s) (list_text xs ++ behind (Listed xs a) r) (begins_list xs (behind (Listed xs a) r)) (sym e))
one_of (Listed xs a) (Listed ys b) r s p q u v e =
    let cuts = one_whole_list xs ys p.0 q.0 (behind (Listed xs a) r) (behind (Listed ys b) s) e in
    let tail : lost_text (Listed xs a) ++ ends r ≡ lost_text (Listed ys b) ++ ends s = ap (drop 8) cuts.1 in
    let lost = one_cut a b p.1 q.1 (ends r) (ends s) (begins_end r) (begins_end s) (ap (λ l. l ++ ends r) (sym (lost_is xs a)) ∙ tail ∙ ap (λ l. l ++ ends s) (lost_is ys b)) in
    (λ i. Listed (cuts.0 i) (lost.0 i), one_end r s u v lost.1)

pub one_halt : (a b : JobHalt) → a.job ≡ b.job → IsHaltValue a → IsHaltValue b → halt_text a ≡ halt_text b → a ≡ b
one_halt a b job v w e =
    let parts = one_of a.halt b.halt a.rest b.rest v.cuts w.cuts v.rest w.rest (ap (drop 8) e) in
    λ i. record { job = job i; halt = parts.0 i; rest = parts.1 i }
