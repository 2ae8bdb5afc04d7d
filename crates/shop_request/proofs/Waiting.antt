-- Bytes of an unfinished request.
use Rattle.std.proofs.Common.{◌≡◌, ℕ, ◌+◌, ◌<◌, List, [], ◌∷◌, ◌++◌, length, drop, Result, Ok, true, inl, inr, refl, ◌∙◌, sym, ap, subst, arith, append-nil, length-append}
use Rattle.std.proofs.lemmas.List.{take_all}
use Rattle.httparse.specs.Grammar.{HasNoRequest, MayBecomeRequest}
use Rattle.httparse.specs.declared.spans.HeaderSpan.{HeaderSpan}
use Rattle.httparse.specs.declared.spans.RequestSpans.{RequestSpans}
use Rattle.shop_request.specs.declared.faults.RequestFault.{RequestFault}
use Rattle.shop_request.specs.Heads.{prefix, ParsedHead}
use Rattle.shop_request.specs.Routes.{takes_body}
use Rattle.shop_request.specs.Parses.{IsUnfinished}
use Rattle.shop_request.proofs.Prefix.{begins}
use Rattle.shop_request.proofs.After.{IsJudged, few}

empty : (received : List ℕ) → length received < 1 → received ≡ []
empty [] none = refl
empty (b ∷ received) none = absurd (omega (arith, none))

-- nothing came
pub nothing_waits : (received : List ℕ) → length received < 1 → IsUnfinished received
nothing_waits received none = inl (empty received none)

-- a part of a head came, and nothing more
pub head_waits : (received more : List ℕ) → length received < 8192 → HasNoRequest (prefix received) → MayBecomeRequest (prefix received) → length (received ++ more) < length received + 1 → IsUnfinished (received ++ more)
head_waits received more short none may few =
    let same = ap (λ l. received ++ l) (empty more (omega (arith, few, length-append received more))) ∙ append-nil received in
    let whole = take_all 8192 received (omega (arith, short)) in
    subst IsUnfinished (sym same) (inr (inl (record { few = short; none = subst HasNoRequest whole none; may = subst MayBecomeRequest whole may })))

-- a whole head came, and fewer bytes after it than its body has
pub body_waits : {received : List ℕ} {headers : List HeaderSpan} {spans : RequestSpans} {answer : Result ParsedHead RequestFault} → IsJudged received headers spans answer → (parsed_head : ParsedHead) → answer ≡ Ok parsed_head → takes_body parsed_head.route ≡ true
    → (more : List ℕ) → length (received ++ more) < spans.len + parsed_head.length → IsUnfinished (received ++ more)
body_waits {received} {headers} {spans} j parsed_head e body more short =
    inr (inr (record {
      head = j.head;
      begins = begins received more j.head (drop spans.len (prefix received)) (few j) j.at.reads;
      parsed_head = parsed_head;
      asks = j.said ∙ e;
      body = body;
      few = subst (λ n. length (received ++ more) < n + parsed_head.length) j.at.len short;
    }))
