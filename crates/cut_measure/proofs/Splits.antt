-- Texts that one byte divides: digits, that byte, and what follows.
use Rattle.std.proofs.Common.{◌≡◌, ℕ, suc, ◌^◌, ◌<◌, List, [], ◌∷◌, ◌++◌, length, get_or, refl, ap, sym, ◌∙◌, arith, length-append}
use Rattle.std.specs.Fmt.{decimal}
use Rattle.std.specs.Str.Parse.{AllDigits}
use Rattle.std.proofs.Math.Seq.{get_or-append_seam}
use Rattle.std.proofs.lemmas.Fmt.{digits_decimal}
use Rattle.std.proofs.lemmas.Str.Parse.{digit_at}
use Rattle.cut_measure.proofs.Digits.{own}

-- the byte is not in the text
abbrev pub Lacks : ℕ → List ℕ → Type 0
Lacks c xs = (i : ℕ) → i < length xs → get_or xs i 0 ≡ c → ⊥

pub digits_lack : (c : ℕ) (ds : List ℕ) → c < 48 → AllDigits 10 ds → Lacks c ds
digits_lack c ds low all = λ i h e. let d = digit_at ds i all h in omega (arith, d.0, e, low)

pub decimal_lacks : (c n : ℕ) → c < 48 → n < 2 ^ 64 → Lacks c (decimal n)
decimal_lacks c n low small = digits_lack c (decimal n) low (digits_decimal own n small)

pub has_it : (c : ℕ) (a b : List ℕ) → Lacks c (a ++ c ∷ b) → ⊥
has_it c a b none = none (length a) (omega (arith, length-append a (c ∷ b))) (get_or-append_seam a c b 0)

first_of_both : (c x : ℕ) (a b : List ℕ) → c ∷ a ≡ x ∷ b → x ≡ c
first_of_both c x a b same = cc

rest_of_both : (c x : ℕ) (a b : List ℕ) → c ∷ a ≡ x ∷ b → a ≡ b
rest_of_both c x a b same = cc

pub lacks_rest : (c x : ℕ) (xs : List ℕ) → Lacks c (x ∷ xs) → Lacks c xs
lacks_rest c x xs none = λ i h e. none (suc i) (omega arith) e

-- only one place divides
pub one_split : (c : ℕ) (a b xs ys : List ℕ) → a ++ c ∷ b ≡ xs ++ c ∷ ys → Lacks c a → Lacks c xs → (a ≡ xs) × (b ≡ ys)
one_split c [] b [] ys same p q = (refl, rest_of_both c c b ys same)
one_split c [] b (x ∷ xs) ys same p q = absurd (q 0 (omega arith) (first_of_both c x b (xs ++ c ∷ ys) same))
one_split c (y ∷ a) b [] ys same p q = absurd (p 0 (omega arith) (sym (first_of_both y c (a ++ c ∷ b) ys same)))
one_split c (y ∷ a) b (x ∷ xs) ys same p q =
    let more = one_split c a b xs ys (rest_of_both y x (a ++ c ∷ b) (xs ++ c ∷ ys) same) (lacks_rest c y a p) (lacks_rest c x xs q) in
    let first : x ≡ y = first_of_both y x (a ++ c ∷ b) (xs ++ c ∷ ys) same in
    (ap (λ l. y ∷ l) more.0 ∙ ap (λ z. z ∷ xs) (sym first), more.1)
