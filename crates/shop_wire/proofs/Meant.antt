-- What a body or a path means.
use Rattle.std.proofs.Common.{◌≡◌, ◌≢◌, ℕ, ◌<◌, ◌≤◌, ◌^◌, inl, inr, List, Bool, true, false, Option, Some, None, refl, ap, subst, ◌∙◌, arith, le-leb}
use Rattle.std.specs.Prelude.{◌&&◌, nat_le, bytes_eq, if◌then◌else◌}
use Rattle.std.specs.Fmt.{decimal}
use Rattle.std.specs.Str.{IsUtf8, is_utf8}
use Rattle.std.specs.Str.Parse.{digits_value}
use Rattle.std.proofs.lemmas.Bool.{and_parts, leb-true}
use Rattle.std.proofs.lemmas.Fmt.{decimal_injective, digits_value-decimal}
use Rattle.std.proofs.lemmas.Slice.Eq.{bytes_eq-Decides}
use Rattle.std.proofs.lemmas.Str.{IsUtf8-from_is_utf8, is_utf8-from_IsUtf8}
use Rattle.cut_measure.proofs.Digits.{own}
use Rattle.shop_records.specs.declared.refusals.Refusal.{Refusal}
use Rattle.shop_records.specs.declared.refusals.Refusal.TheVariants.{NoMemory}
use Rattle.shop_wire.specs.Serves.{ranged}
use Rattle.shop_wire.specs.Responses.{IsUnread}

-- ---- what isn't there

-- where memory didn't run out, nothing is there
pub nothing_there : {B : Type 0} (refusal : Refusal) (o : Option B) → IsUnread refusal o → refusal ≢ NoMemory → o ≡ None
nothing_there refusal o (inl is) other = absurd (other is)
nothing_there refusal o (inr why) other = why.1

-- ---- numbers

module _ (least most : ℕ) where
  pub ranged_some : (text : List ℕ) (n : ℕ) → n < 2 ^ 32 → decimal n ≡ text → least ≤ n → n ≤ most → ranged least most text ≡ Some n
  ranged_some text n few is low high =
      let back : digits_value 10 (decimal n) ≡ n = digits_value-decimal own n (omega (arith, few)) in
      subst (λ t. ranged least most t ≡ Some n) is
      (ap (λ v. if nat_le least v && nat_le v most && bytes_eq (decimal v) (decimal n) then Some v else None) back
      ∙ ap (λ (b : Bool). if b && nat_le n most && bytes_eq (decimal n) (decimal n) then Some n else None) (le-leb least n low)
      ∙ ap (λ (b : Bool). if b && bytes_eq (decimal n) (decimal n) then Some n else None) (le-leb n most high)
      ∙ ap (λ (b : Bool). if b then Some n else None) ((bytes_eq-Decides (decimal n) (decimal n)).1 refl))

  taken : (b : Bool) (v n : ℕ) → (if b then Some v else None) ≡ Some n → (b ≡ true) × (v ≡ n)
  taken true v n e = (refl, cc)
  taken false v n e = absurd (cc e)

  ranged_only : (text : List ℕ) (n : ℕ) → ranged least most text ≡ Some n → (least ≤ n) × (n ≤ most) × (decimal n ≡ text)
  ranged_only text n e =
      let v = digits_value 10 text in
      let p = taken _ v n e in
      let q = and_parts (nat_le least v && nat_le v most) (bytes_eq (decimal v) text) p.0 in
      let r = and_parts (nat_le least v) (nat_le v most) q.0 in
      subst (λ n. (least ≤ n) × (n ≤ most) × (decimal n ≡ text)) p.1 (leb-true least v r.0, leb-true v most r.1, (bytes_eq-Decides (decimal v) text).0 q.1)

  none_by : (text : List ℕ) (o : Option ℕ) → ((n : ℕ) → least ≤ n → n ≤ most → decimal n ≡ text → ⊥) → ranged least most text ≡ o → None ≡ o
  none_by text None never e = refl
  none_by text (Some n) never e = let p = ranged_only text n e in absurd (never n p.0 p.1 p.2)

  pub ranged_none : (text : List ℕ) → ((n : ℕ) → least ≤ n → n ≤ most → decimal n ≡ text → ⊥) → None ≡ ranged least most text
  ranged_none text never = none_by text (ranged least most text) never refl

-- a numeral is one number's
pub one_numeral : (m n : ℕ) → m < 2 ^ 32 → n < 2 ^ 32 → decimal m ≡ decimal n → m ≡ n
one_numeral m n small few same = decimal_injective m n (omega (arith, small)) (omega (arith, few)) same

-- ---- texts of a path

pub as_text : {A : Type 0} (part : List ℕ) (x : Option A) → IsUtf8 part → (if is_utf8 part then x else None) ≡ x
as_text part x text = ap (λ (b : Bool). if b then x else None) (is_utf8-from_IsUtf8 part text)

pub no_text : {A : Type 0} (part : List ℕ) (x : Option A) → (IsUtf8 part → ⊥) → (if is_utf8 part then x else None) ≡ None
no_text part x bad = by (is_utf8 part) refl
  where
    by : (b : Bool) → is_utf8 part ≡ b → (if b then x else None) ≡ None
    by true e = absurd (bad (IsUtf8-from_is_utf8 part e))
    by false e = refl
