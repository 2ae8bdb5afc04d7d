-- Bytes whose parse is determined, whatever follows.
use Rattle.std.proofs.Common.{◌≡◌, ◌∙◌, Bool, false, nat_eq, nat_le, ◌∷◌, ℕ, ◌+◌, ◌<◌, ◌≤◌, List, [], ◌++◌, length, take, drop, Some, Result, Ok, Err, true, inl, inr, refl, sym, subst, arith, append_assoc, append-nil, length-append}
use Rattle.std.specs.Prelude.{◌⊎◌, replicate}
use Rattle.std.proofs.lemmas.Bool.{eqb-true, leb-true, leb-false}
use Rattle.std.proofs.lemmas.List.{length-replicate, length-take}
use Rattle.httparse.specs.Grammar.{HasNoRequest, MayBecomeRequest}
use Rattle.httparse.specs.declared.spans.HeaderSpan.{HeaderSpan}
use Rattle.httparse.specs.declared.spans.RequestSpans.{RequestSpans}
use Rattle.shop_request.specs.declared.faults.RequestFault.{RequestFault}
use Rattle.shop_request.specs.declared.faults.RequestFault.TheVariants.{BadRequest, LargeHead}
use Rattle.shop_request.specs.declared.routes.Route.{Route}
use Rattle.shop_request.specs.Heads.{prefix, ParsedHead}
use Rattle.shop_request.specs.Reading.{IsAsked, IsRefused}
use Rattle.shop_request.specs.Requests.{ParseResult, silent, faulty, asking, ParsesTo}
use Rattle.shop_request.specs.Routes.{takes_body}
use Rattle.shop_request.specs.Parses.{IsHeadFault, IsDetermined, MayBeEither}
use Rattle.shop_request.proofs.Prefix.{ends_early, prefix_is_full, refused}
use Rattle.shop_request.proofs.After.{IsJudged, bad_head, found_judged, parse_of_fault, parse_of_body, parse_of_short}
use Rattle.shop_request.proofs.Uniqueness.{one_parse}

pub refused_determined : (received : List ℕ) → 0 < length received → (fault : RequestFault) → IsRefused (prefix received) fault → IsDetermined received
refused_determined received some fault is = (faulty fault, λ more. bad_head (Some (received ++ more)) fault (refused (Some (received ++ more)) (Some more) received some refl fault is))

pub full_determined : (received : List ℕ) → 8192 ≤ length received → HasNoRequest (prefix received) → MayBecomeRequest (prefix received) → IsDetermined received
full_determined received long none may =
    (faulty LargeHead, λ more. bad_head (Some (received ++ more)) LargeHead (prefix_is_full (Some (received ++ more)) (Some more) received long refl none may))

-- ---- what stands for a fault, or for nothing

empty : (received : List ℕ) → length received ≡ 0 → received ≡ []
empty [] none = refl
empty (b ∷ received) none = absurd (omega (arith, none))

-- nothing came
pub silence_of : (received : List ℕ) (b : Bool) → b ≡ nat_eq (length received) 0 → b ≡ true → ParsesTo received silent
silence_of received b is e = inl (empty received (eqb-true (length received) 0 (sym is ∙ e)), refl)

-- what has one parse, whatever follows, has it
pub as_it_is : (received : List ℕ) (s : ParseResult) → ((more : List ℕ) → ParsesTo (received ++ more) s) → ParsesTo received s
as_it_is received s later = subst (λ l. ParsesTo l s) (append-nil received) (later [])

-- a fault of a prefix, whatever follows
pub refused_later : (received : List ℕ) → 0 < length received → (fault : RequestFault) → IsRefused (prefix received) fault → (more : List ℕ) → ParsesTo (received ++ more) (faulty fault)
refused_later received some fault is more = bad_head (Some (received ++ more)) fault (refused (Some (received ++ more)) (Some more) received some refl fault is)

-- a fault in a whole head, whatever follows
pub fault_later : (received : List ℕ) (headers : List HeaderSpan) (spans : RequestSpans) (fault : RequestFault) → 0 < length received → length headers ≡ 64 → IsAsked (prefix received) headers spans (Err fault)
    → (more : List ℕ) → ParsesTo (received ++ more) (faulty fault)
fault_later received headers spans fault some slots is more = parse_of_fault (found_judged received headers spans (Err fault) some slots is) (Some (received ++ more)) (Some more) refl fault refl

module _ (received : List ℕ) (fault : RequestFault) (long : 8192 ≤ length received → fault ≡ LargeHead) (short : length received < 8192 → fault ≡ BadRequest) (none : HasNoRequest (prefix received)) (may : MayBecomeRequest (prefix received)) where
  -- a full prefix with a part of a head
  pub full_later : 8192 ≤ length received → (more : List ℕ) → ParsesTo (received ++ more) (faulty fault)
  full_later full more =
      subst (λ f. ParsesTo (received ++ more) (faulty f)) (sym (long full)) (bad_head (Some (received ++ more)) LargeHead (prefix_is_full (Some (received ++ more)) (Some more) received full refl none may))

  -- a part of a head, and no more
  part_by : (b : Bool) → nat_le 8192 (length received) ≡ b → 0 < length received → ParsesTo received (faulty fault)
  part_by true full some = as_it_is received (faulty fault) (full_later (leb-true 8192 (length received) full))
  part_by false part some =
      let few : length received < 8192 = leb-false 8192 (length received) part in
      subst (λ f. ParsesTo received (faulty f)) (sym (short few)) (bad_head (Some received) BadRequest (ends_early (Some received) (Some []) received few some (sym (append-nil received)) refl none))

  pub part_parse : 0 < length received → ParsesTo received (faulty fault)
  part_parse = part_by (nat_le 8192 (length received)) refl

-- ---- what isn't determined

no_request : (route : Route) (body : List ℕ) → IsHeadFault (asking route body) → ⊥
no_request route body (inl e) = absurd (cc e)
no_request route body (inr e) = absurd (cc e)

differ : (s : ParseResult) (route : Route) (body : List ℕ) (A B : Type 0)
    → (s ≡ faulty BadRequest) ⊎ (IsHeadFault s × IsHeadFault (faulty BadRequest) × A) → (s ≡ asking route body) ⊎ (IsHeadFault s × IsHeadFault (asking route body) × B) → ⊥
differ s route body A B first (inr second) = no_request route body second.1
differ s route body A B (inl first) (inl second) = absurd (cc (sym first ∙ second))
differ s route body A B (inr first) (inl second) = no_request route body (subst IsHeadFault second first.0)

-- an input that is a fault where it ends, and a request where it goes on so
pub unsettled : (input fill : List ℕ) (route : Route) (body : List ℕ) → ParsesTo input (faulty BadRequest) → ParsesTo (input ++ fill) (asking route body) → IsDetermined input → ⊥
unsettled input fill route body short long determined =
    let s = determined.0 in
    let here : ParsesTo input s = subst (λ l. ParsesTo l s) (append-nil input) (determined.1 []) in
    differ s route body (MayBeEither input) (MayBeEither (input ++ fill)) (one_parse input s (faulty BadRequest) here short) (one_parse (input ++ fill) s (asking route body) (determined.1 fill) long)

-- a head that says more of a body than came
pub body_unsettled : {received : List ℕ} {headers : List HeaderSpan} {spans : RequestSpans} {answer : Result ParsedHead RequestFault} → IsJudged received headers spans answer → (parsed_head : ParsedHead) → answer ≡ Ok parsed_head → takes_body parsed_head.route ≡ true
    → (more : List ℕ) → length (received ++ more) < spans.len + parsed_head.length → IsDetermined (received ++ more) → ⊥
body_unsettled {received} {headers} {spans} j parsed_head e body more few =
    let input = received ++ more in
    let fill : List ℕ = replicate (spans.len + parsed_head.length) 0 in
    let head : spans.len ≤ length received = omega (arith, j.within.section.len_fits, length-take 8192 received) in
    let short : ParsesTo input (faulty BadRequest) = parse_of_short j (Some input) (Some more) (Some []) refl parsed_head e body input
    (more, refl, sym (append-nil more)) (omega (arith, few, head, length-append received more)) refl in
    let whole : input ++ fill ≡ received ++ (more ++ fill) = append_assoc received more fill in
    let text = take parsed_head.length (drop spans.len (input ++ fill)) in
    let long : ParsesTo (input ++ fill) (asking parsed_head.route text) = parse_of_body j (Some (input ++ fill)) (Some (more ++ fill)) (Some []) whole parsed_head e body
    (input ++ fill) (more ++ fill, whole, sym (append-nil (more ++ fill))) (omega (arith, length-append input fill, length-replicate {A = ℕ} (spans.len + parsed_head.length) 0)) text refl in
    unsettled input fill parsed_head.route text short long
