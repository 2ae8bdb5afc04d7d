-- The first of the lines.
use Rattle.std.proofs.Common.{◌≡◌, ℕ, zero, suc, ◌+◌, ◌-◌, ◌<◌, List, [], ◌∷◌, ◌++◌, length, take, Bool, false, nat_eq, refl, ap, ◌∙◌, arith}
use Rattle.std.specs.Prelude.{if◌then◌else◌}
use Rattle.shop_wire.specs.Lines.{lines_of, onto_first, HasNoFeed, kept_of, longest_line}

chosen : (b : ℕ) (bs : List ℕ) (t : Bool) → nat_eq b 10 ≡ t → lines_of (b ∷ bs) ≡ (if t then [] ∷ lines_of bs else onto_first b (lines_of bs))
chosen b bs t e = ap (λ (t : Bool). if t then [] ∷ lines_of bs else onto_first b (lines_of bs)) e

pub first_line : (line more : List ℕ) → HasNoFeed line → lines_of (line ++ 10 ∷ more) ≡ line ∷ lines_of more
first_line [] more h = refl
first_line (b ∷ bs) more h = chosen b (bs ++ 10 ∷ more) false h.0 ∙ ap (onto_first b) (first_line bs more h.1)

pub last_line : (line : List ℕ) → 0 < length line → HasNoFeed line → lines_of line ≡ line ∷ []
last_line [] some h = absurd (omega arith)
last_line (b ∷ []) some h = chosen b [] false h.0
last_line (b ∷ c ∷ bs) some h = chosen b (c ∷ bs) false h.0 ∙ ap (onto_first b) (last_line (c ∷ bs) (omega arith) h.1)

pub HasNoFeed-append : (a b : List ℕ) → HasNoFeed a → HasNoFeed b → HasNoFeed (a ++ b)
HasNoFeed-append [] b p q = q
HasNoFeed-append (x ∷ a) b p q = (p.0, HasNoFeed-append a b p.1 q)

pub take-appended : (n : ℕ) (a p : List ℕ) → take n (a ++ p) ≡ take n a ++ take (n - length (take n a)) p
take-appended zero [] p = refl
take-appended (suc n) [] p = let same : suc n ≡ suc n - 0 = omega arith in ap (λ m. take m p) same
take-appended zero (x ∷ a) p = refl
take-appended (suc n) (x ∷ a) p =
    let same : n - length (take n a) ≡ suc n - suc (length (take n a)) = omega arith in
    ap (λ l. x ∷ l) (take-appended n a p ∙ ap (λ m. take n a ++ take m p) same)

pub kept_of-append : (got part : List ℕ) → kept_of (got ++ part) ≡ kept_of got ++ take (longest_line + 1 - length (kept_of got)) part
kept_of-append got part = take-appended (longest_line + 1) got part
