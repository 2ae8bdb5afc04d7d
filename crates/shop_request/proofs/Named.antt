-- The fields of a head, as their spans show them.
use Rattle.std.proofs.Common.{◌≡◌, ◌≢◌, ◌-◌, ℕ, ◌<◌, ◌≤◌, List, [], ◌∷◌, length, take, drop, map, get_or, Bool, true, false, Some, Ok, Err, refl, sym, ap, subst, ◌∙◌, arith}
use Rattle.std.proofs.Math.Seq.{take-length}
use Rattle.std.specs.Prelude.{slice_range, if◌then◌else◌}
use Rattle.std.specs.Str.Parse.{digits_value}
use Rattle.httparse.specs.declared.spans.HeaderSpan.{HeaderSpan}
use Rattle.httparse.specs.declared.spans.RequestSpans.{RequestSpans}
use Rattle.httparse.specs.Grammar.{RequestHead}
use Rattle.httparse.specs.Spans.{IsRequestAt, header_bytes, span_bytes}
use Rattle.shop_request.specs.declared.faults.RequestFault.TheVariants.{BadRequest}
use Rattle.shop_request.specs.declared.fields.Values.{Values}
use Rattle.shop_request.specs.declared.fields.Values.TheVariants as values
use Rattle.shop_request.specs.declared.fields.Said.TheVariants.{Large}
use Rattle.shop_request.specs.Heads.{values_of, is_named, is_number, said_length, most_body, judged, judged_parts}
use Rattle.shop_request.specs.Reading.{AreValues, IsSaid}

pub cons_at : (d : HeaderSpan) (hs : List HeaderSpan) → 1 ≤ length hs → hs ≡ get_or hs 0 d ∷ take (length hs - 1) (drop 1 hs)
cons_at d [] some = absurd (omega arith)
cons_at d (h ∷ hs) some = let same : length (h ∷ hs) - 1 ≡ length hs = omega arith in ap (λ l. h ∷ l) (sym (ap (λ n. take n hs) same ∙ take-length hs))

-- ---- one more field

module _ (buf name : List ℕ) {first : HeaderSpan} {rest : List HeaderSpan} (hs : List HeaderSpan) (is : hs ≡ first ∷ rest) (text : List ℕ) (said : text ≡ slice_range buf first.name.start first.name.end) (b : Bool)
    (tests : (value : List ℕ) → b ≡ is_named name (text, value)) where
  abbrev Those : List HeaderSpan → List (List ℕ)
  Those spans = values_of name (map (header_bytes buf) spans)

  -- the test of the first field
  first_test : is_named name (header_bytes buf first) ≡ b
  first_test = ap (λ t. is_named name (t, slice_range buf first.value.start first.value.end)) (sym said) ∙ sym (tests (slice_range buf first.value.start first.value.end))

  abbrev choice : Bool → List (List ℕ)
  choice t = if t then slice_range buf first.value.start first.value.end ∷ Those rest else Those rest

  pub not_named : b ≡ false → (others : Values) → AreValues others (Those rest) → AreValues others (Those hs)
  not_named e others are = subst (AreValues others) (sym (ap Those is ∙ ap choice (first_test ∙ e))) are

  pub unnamed_first : b ≡ false → Those hs ≡ Those rest
  unnamed_first e = ap Those is ∙ ap choice (first_test ∙ e)

  pub named_first : b ≡ true → Those hs ≡ slice_range buf first.value.start first.value.end ∷ Those rest
  named_first e = ap Those is ∙ ap choice (first_test ∙ e)

  pub named_alone : b ≡ true → (value : List ℕ) → value ≡ slice_range buf first.value.start first.value.end → Those rest ≡ [] → Those hs ≡ value ∷ []
  named_alone e value same none = named_first e ∙ ap (λ l. slice_range buf first.value.start first.value.end ∷ l) none ∙ ap (λ v. v ∷ []) (sym same)

  pub named_again : b ≡ true → (others : Values) → others ≢ values.None → AreValues others (Those rest) → (v w : List ℕ) × (vs : List (List ℕ)) × (Those hs ≡ v ∷ w ∷ vs)
  named_again e values.None some are = absurd (some refl)
  named_again e (values.One v) some are = (slice_range buf first.value.start first.value.end, v.now, [], named_first e ∙ ap (λ l. slice_range buf first.value.start first.value.end ∷ l) are)
  named_again e values.Many some are = (slice_range buf first.value.start first.value.end, are.0, are.1 ∷ are.2, named_first e ∙ ap (λ l. slice_range buf first.value.start first.value.end ∷ l) are.3)

-- ---- the length that is said

pub said_one : (v : List ℕ) (all : List (List ℕ)) → all ≡ v ∷ [] → is_number v ≡ true → said_length all ≡ Ok (Some (digits_value 10 v))
said_one v all is e = ap said_length is ∙ ap (λ (b : Bool). if b then Ok (Some (digits_value 10 v)) else Err BadRequest) e

pub said_large : (v : List ℕ) (all : List (List ℕ)) → all ≡ v ∷ [] → is_number v ≡ true → most_body < digits_value 10 v → IsSaid (Ok Large) (said_length all)
said_large v all is e large = (digits_value 10 v, said_one v all is e, large)

-- ---- a head by its spans

pub judged_at : (buf : List ℕ) (headers : List HeaderSpan) (spans : RequestSpans) (h : RequestHead) → IsRequestAt buf headers spans h → (method target : List ℕ)
    → method ≡ span_bytes buf spans.method → target ≡ span_bytes buf spans.path
    → judged_parts method target spans.version (map (header_bytes buf) (take spans.headers headers)) ≡ judged h
unfolding judged
judged_at buf headers spans h at method target m t =
    ap (λ x. judged_parts x target spans.version (map (header_bytes buf) (take spans.headers headers))) (m ∙ at.method)
    ∙ ap (λ x. judged_parts h.method x spans.version (map (header_bytes buf) (take spans.headers headers))) (t ∙ at.path)
    ∙ ap (λ x. judged_parts h.method h.target x (map (header_bytes buf) (take spans.headers headers))) at.version
    ∙ ap (λ x. judged_parts h.method h.target h.minor x) at.fields
