-- What is written piece by piece.
use Rattle.std.proofs.Common.{◌≡◌, ℕ, suc, ◌+◌, ◌<◌, List, [], ◌∷◌, ◌++◌, length, drop, get_or, sym, ap, subst, ◌∙◌, append_assoc, Ok}
use Rattle.std.proofs.Math.Seq.{drop-cons}
use Rattle.json.specs.Token.{Token}
use Rattle.json.specs.Tree.{members_tokens}
use Rattle.json.specs.Written.{Written, Writes}
use Rattle.serde_json.specs.Data.{Data}
use Rattle.serde_json.specs.Written.{members_outline}
use Rattle.shop_forms.proofs.Lists.{next}
use Rattle.shop_forms.specs.declared.writing.Member.{Member}
use Rattle.shop_forms.specs.Tokens.{Adds, AddsValue, elements_tokens, Lacks}
use Rattle.shop_forms.specs.Members.{members_of, member_tokens}

-- one token
pub one : {E : Type 0} {u : Unit {0}} {old new : Written} {t : Token} → Writes {E = E} (Ok u) old new t → Adds old new (t ∷ [])
one w = record { tokens = w.ok; before = w.room.0 }

-- a piece, and then what follows
pub then : {a b c : Written} {p q : List Token} → Adds a b p → Adds b c q → Adds a c (p ++ q)
then {a} {b} {c} {p} {q} first more =
    record {
      tokens = more.tokens ∙ ap (λ ts. ts ++ q) first.tokens ∙ append_assoc a.tokens p q;
      before = more.before ∙ first.before;
    }

-- a piece of what was to come
less : {first old new : Written} {all p q : List Token} → Adds old new p → Lacks first old all (p ++ q) → Lacks first new all q
less {first} {old} {new} {all} {p} {q} added so_far =
    record {
      tokens = ap (λ ts. ts ++ q) added.tokens ∙ append_assoc old.tokens p q ∙ so_far.tokens;
      before = added.before ∙ so_far.before;
    }

-- the tokens of these members, with the closing brace
abbrev pub rest : List Member → List Token
rest members = members_tokens (members_outline (members_of members))

here : {T : Type 0} (xs : List T) (i : ℕ) (x : T) → i < length xs → x ≡ get_or xs i x → drop i xs ≡ x ∷ drop (i + 1) xs
here xs i x lt is = drop-cons xs i x lt ∙ ap (λ y. y ∷ drop (suc i) xs) (sym is) ∙ ap (λ n. x ∷ drop n xs) (next i)

-- ---- the members of an object, and the elements of a list

pub one_member : (members : List Member) {first old new : Written} {all : List Token} (i : ℕ) (m : Member) → i < length members → m ≡ get_or members i m
    → Adds old new (member_tokens m) → Lacks first old all (rest (drop i members)) → Lacks first new all (rest (drop (i + 1) members))
one_member members {first} {old} {new} {all} i m lt is added so_far = less added (subst (Lacks first old all) (ap rest (here members i m lt is)) so_far)

module _ {T : Type 0} (said : T → Data) (xs : List T) (first old new : Written) (all : List Token) where
  pub one_more : (i : ℕ) (x : T) → i < length xs → x ≡ get_or xs i x → AddsValue old new (said x)
      → Lacks first old all (elements_tokens said (drop i xs)) → Lacks first new all (elements_tokens said (drop (i + 1) xs))
  one_more i x lt is added so_far =
      less added (subst (Lacks first old all) (ap (elements_tokens said) (here xs i x lt is)) so_far)
