-- What a text names as a part, by where its slash is.
use Rattle.std.proofs.Common.{◌≡◌, ℕ, ◌^◌, List, [], ◌∷◌, ◌++◌, length, Bool, true, false, Option, Some, None, nat_eq, refl, ap, subst, sym, ◌∙◌, arith, le-leb, lt-ltb}
use Rattle.std.specs.Prelude.{nat_le, nat_lt, bytes_eq, if◌then◌else◌, ◌&&◌}
use Rattle.std.specs.Fmt.{decimal}
use Rattle.std.specs.List.{before_first, after_first, position_or_len}
use Rattle.std.specs.Str.Parse.{digits_value}
use Rattle.std.proofs.Math.Seq.{take-append_seam, drop-append-add}
use Rattle.std.proofs.lemmas.Bool.{ne_eqb, and_parts, leb-true, ltb-true}
use Rattle.std.proofs.lemmas.Slice.Eq.{bytes_eq-Decides}
use Rattle.std.proofs.lemmas.Fmt.{decimal_injective, digits_value-decimal}
use Rattle.cut_measure.specs.declared.ranges.TheConstants.{MAX_NUMBERS}
use Rattle.cut_measure.specs.Names.{Name, IsName, IsNameOf, is_name, name_in, spelled_name, name_text}
use Rattle.cut_measure.proofs.Digits.{own}
use Rattle.cut_measure.proofs.Splits.{Lacks, decimal_lacks, has_it, lacks_rest, one_split}

pub no_name : (text : List ℕ) → Lacks 47 text → (n : Name) → name_text n ≡ text → ⊥
no_name text none n same = has_it 47 (decimal n.act) (decimal n.node) (subst (Lacks 47) (sym same) none)

pub name_parts : (text act node : List ℕ) → text ≡ act ++ 47 ∷ node → Lacks 47 act → (n : Name) → IsName n → name_text n ≡ text → (decimal n.act ≡ act) × (decimal n.node ≡ node)
name_parts text act node parts none n is same =
    one_split 47 (decimal n.act) (decimal n.node) act node (same ∙ parts) (decimal_lacks 47 n.act (omega arith) (omega (arith, is.1))) none

name_same : (m n : Name) → m.act ≡ n.act → m.node ≡ n.node → m ≡ n
name_same m n p q = λ i. record { act = p i; node = q i }

-- a text names one part at most
pub one_name : (m n : Name) → IsName m → IsName n → name_text m ≡ name_text n → m ≡ n
one_name m n p q same =
    let parts = name_parts (name_text n) (decimal n.act) (decimal n.node) refl (decimal_lacks 47 n.act (omega arith) (omega (arith, q.1))) m p same in
    name_same m n (decimal_injective m.act n.act (omega (arith, p.1)) (omega (arith, q.1)) parts.0) (decimal_injective m.node n.node (omega (arith, p.2)) (omega (arith, q.2)) parts.1)

-- ---- the name that a text spells, read out of it

slash_at : (a b : List ℕ) → Lacks 47 a → position_or_len (λ c. nat_eq c 47) (a ++ 47 ∷ b) ≡ length a
slash_at [] b none = refl
slash_at (x ∷ a) b none = rw (ne_eqb x 47 (none 0 (omega arith))) (omega (arith, slash_at a b (lacks_rest 47 x a none)))

parts_there : (a b : List ℕ) → Lacks 47 a → (before_first (λ c. nat_eq c 47) (a ++ 47 ∷ b) ≡ a) × (after_first (λ c. nat_eq c 47) (a ++ 47 ∷ b) ≡ b)
parts_there a b none = rw (slash_at a b none) (take-append_seam a (47 ∷ b), drop-append-add a (47 ∷ b) 1)

name_in_text : (n : Name) → IsName n → name_in (name_text n) ≡ n
name_in_text n is =
    let there = parts_there (decimal n.act) (decimal n.node) (decimal_lacks 47 n.act (omega arith) (omega (arith, is.1))) in
    name_same (name_in (name_text n)) n
    (ap (digits_value 10) there.0 ∙ digits_value-decimal own n.act (omega (arith, is.1)))
    (ap (digits_value 10) there.1 ∙ digits_value-decimal own n.node (omega (arith, is.2)))

is_name_there : (n : Name) → IsName n → is_name n ≡ true
is_name_there n is = rw (le-leb 1 n.act is.0, le-leb n.act MAX_NUMBERS is.1, lt-ltb n.node (2 ^ 32) is.2) refl

is_name_only : (n : Name) → is_name n ≡ true → IsName n
is_name_only n is =
    let p = and_parts _ (nat_lt n.node (2 ^ 32)) is in
    let q = and_parts (nat_le 1 n.act) (nat_le n.act MAX_NUMBERS) p.0 in
    (leb-true 1 n.act q.0, leb-true n.act MAX_NUMBERS q.1, ltb-true n.node (2 ^ 32) p.1)

same_text : (s t : List ℕ) → s ≡ t → bytes_eq s t ≡ true
same_text s t same = (bytes_eq-Decides s t).1 same

-- a name is read out of its text
pub name_back : (n : Name) → IsName n → spelled_name (name_text n) ≡ Some n
unfolding spelled_name
name_back n is =
    ap (λ m. if is_name m && bytes_eq (name_text m) (name_text n) then Some m else None) (name_in_text n is)
    ∙ ap (λ (b : Bool). if b && bytes_eq (name_text n) (name_text n) then Some n else None) (is_name_there n is)
    ∙ ap (λ (b : Bool). if b then Some n else None) (same_text (name_text n) (name_text n) refl)

spelled : (b : Bool) (m n : Name) → (if b then Some m else None) ≡ Some n → (b ≡ true) × (m ≡ n)
spelled true m n e = (refl, cc)
spelled false m n e = absurd (cc e)

name_only : (text : List ℕ) (o : Option Name) (n : Name) → IsNameOf o text → spelled_name text ≡ Some n → IsName n × (name_text n ≡ text)
unfolding spelled_name
name_only text o n is e =
    let p = spelled _ (name_in text) n e in
    let q = and_parts (is_name (name_in text)) _ p.0 in
    subst (λ m. IsName m × (name_text m ≡ text)) p.1 (is_name_only (name_in text) q.0, (bytes_eq-Decides (name_text (name_in text)) text).0 q.1)

no_name_of : (text : List ℕ) (o : Option Name) → IsNameOf None text → spelled_name text ≡ o → None ≡ o
no_name_of text None is e = refl
no_name_of text (Some n) is e = let p = name_only text None n is e in absurd (is n p.0 p.1)

pub name_of_is : (text : List ℕ) (o : Option Name) → IsNameOf o text → o ≡ spelled_name text
name_of_is text None is = no_name_of text (spelled_name text) is refl
name_of_is text (Some n) is = sym (ap spelled_name (sym is.1) ∙ name_back n is.0)
