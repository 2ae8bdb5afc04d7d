-- What is done with an input by its head.
use Rattle.std.proofs.Common.{◌≡◌, ◌∙◌, ℕ, ◌<◌, ◌≤◌, Bool, true, false, ◌||◌, List, ◌∷◌, length, take, map, Result, Ok, Err, inl, inr, refl, sym, ap, ap₂, subst, nat_le, arith}
use Rattle.std.specs.List.{list_any}
use Rattle.std.proofs.lemmas.Bool.{leb-true, leb-false}
use Rattle.std.proofs.lemmas.List.{length-take, length-map, take_all}
use Rattle.httparse.specs.declared.spans.HeaderSpan.{HeaderSpan}
use Rattle.httparse.specs.declared.spans.RequestSpans.{RequestSpans}
use Rattle.httparse.specs.Grammar.{RequestHead, HasNoRequest, MayBecomeRequest}
use Rattle.httparse.specs.Spans.{IsRequestAt, header_bytes, name_and_value, span_bytes}
use Rattle.shop_request.specs.declared.faults.RequestFault.{RequestFault}
use Rattle.shop_request.specs.declared.faults.RequestFault.TheVariants.{BadRequest, LargeHead}
use Rattle.shop_request.specs.declared.guards.Guard.{Guard}
use Rattle.shop_request.specs.declared.guards.Verdict.{Verdict}
use Rattle.shop_request.specs.declared.guards.Verdict.TheVariants.{Routed}
use Rattle.shop_request.specs.Guards.{HasVerdict, checked, checked_head, checked_parts}
use Rattle.shop_request.specs.Heads.{prefix, BeginsWith, HasHead}
use Rattle.shop_request.specs.Reading.{IsRefused}
use Rattle.shop_request.proofs.Uniqueness.{not_bad, not_large}
use Rattle.httparse.proofs.GrammarLemmas.{request_unique}

-- one of the values passes where the first does, or one of the others
pub any_first : (test : List ℕ → Bool) (v : List ℕ) (vs all : List (List ℕ)) (b others : Bool) → all ≡ v ∷ vs → b ≡ test v → others ≡ list_any test vs → (b || others) ≡ list_any test all
any_first test v vs all b others is e o = ap₂ (λ x y. x || y) e o ∙ sym (ap (list_any test) is)

module _ (guard : Guard) (received : List ℕ) where
  refused_head : (fault : RequestFault) → IsRefused (prefix received) fault → HasHead received (Err fault)
  refused_head fault (inl large) = subst (λ f. HasHead received (Err f)) (sym large.0) (inl (large.1, large.2))
  refused_head fault (inr bad) = subst (λ f. HasHead received (Err f)) (sym bad.0) (inl bad.1)

  pub refused_verdict : (fault : RequestFault) → IsRefused (prefix received) fault → HasVerdict guard received Routed
  refused_verdict fault is = (Err fault, refused_head fault is, refl)

  unfinished : (b : Bool) → nat_le 8192 (length received) ≡ b → HasNoRequest (prefix received) → MayBecomeRequest (prefix received) → HasVerdict guard received Routed
  unfinished true long none may = (Err LargeHead, inr (leb-true 8192 (length received) long, none, may), refl)
  unfinished false short none may =
      let few : length received < 8192 = leb-false 8192 (length received) short in
      (Err BadRequest, inr (few, subst HasNoRequest (take_all 8192 received (omega (arith, few))) none), refl)

  pub unfinished_verdict : HasNoRequest (prefix received) → MayBecomeRequest (prefix received) → HasVerdict guard received Routed
  unfinished_verdict = unfinished (nat_le 8192 (length received)) refl

  module _ (headers : List HeaderSpan) (spans : RequestSpans) (h : RequestHead) (slots : length headers ≡ 64) (at : IsRequestAt (prefix received) headers spans h) where
    few : length h.fields ≤ 64
    few =
        omega (
          arith,
          slots,
          ap length at.fields,
          length-map (take spans.headers headers) (header_bytes (prefix received)),
          length-map h.fields name_and_value,
          length-take spans.headers headers,
        )

    begins : BeginsWith received h
    begins = record { rest = _; reads = at.reads; few = few }

    by_parts : (method target : List ℕ) → method ≡ span_bytes (prefix received) spans.method → target ≡ span_bytes (prefix received) spans.path
        → checked_parts guard method target spans.version (map (header_bytes (prefix received)) (take spans.headers headers)) ≡ checked_head guard h
    unfolding checked_head
    by_parts method target m t =
        ap (λ x. checked_parts guard x target spans.version (map (header_bytes (prefix received)) (take spans.headers headers))) (m ∙ at.method)
        ∙ ap (λ x. checked_parts guard h.method x spans.version (map (header_bytes (prefix received)) (take spans.headers headers))) (t ∙ at.path)
        ∙ ap (λ x. checked_parts guard h.method h.target x (map (header_bytes (prefix received)) (take spans.headers headers))) at.version
        ∙ ap (λ x. checked_parts guard h.method h.target h.minor x) at.fields

    pub whole_verdict : (method target : List ℕ) → method ≡ span_bytes (prefix received) spans.method → target ≡ span_bytes (prefix received) spans.path
        → HasVerdict guard received (checked_parts guard method target spans.version (map (header_bytes (prefix received)) (take spans.headers headers)))
    whole_verdict method target m t = (Ok h, begins, by_parts method target m t)

-- ---- an input has one verdict

-- a head that is there isn't faulty
no_fault : (input : List ℕ) (h : RequestHead) (f : RequestFault) → BeginsWith input h → HasHead input (Err f) → ⊥
no_fault input h BadRequest begins is = not_bad input h begins is
no_fault input h LargeHead begins is = not_large input h begins is
no_fault input h _ begins is = is

checked_as : (guard : Guard) (input : List ℕ) (a b : Result RequestHead RequestFault) → HasHead input a → HasHead input b → checked guard a ≡ checked guard b
checked_as guard input (Ok h) (Ok k) x y = ap (checked_head guard) (request_unique (prefix input) h k x.rest y.rest x.reads y.reads).0
checked_as guard input (Ok h) (Err f) x y = absurd (no_fault input h f x y)
checked_as guard input (Err f) (Ok k) x y = absurd (no_fault input k f y x)
checked_as guard input (Err f) (Err g) x y = refl

pub one_verdict : (guard : Guard) (input : List ℕ) (r s : Verdict) → HasVerdict guard input r → HasVerdict guard input s → r ≡ s
one_verdict guard input r s x y = x.2 ∙ checked_as guard input x.0 y.0 x.1 y.1 ∙ sym y.2
