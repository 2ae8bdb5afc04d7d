-- How many reads a request takes at most.
use Rattle.std.proofs.Common.{◌≡◌, ℕ, ◌≤◌, List, Bool, true, false, Option, Some, None, Result, Ok, Err, nat_le, refl, ◌∙◌, arith}
use Rattle.std.specs.Prelude.{not, if◌then◌else◌, bytes_eq, codes}
use Rattle.std.proofs.lemmas.Bool.{leb-true}
use Rattle.httparse.specs.Grammar.{RequestHead}
use Rattle.httparse.specs.declared.spans.HeaderSpan.{HeaderSpan}
use Rattle.httparse.specs.declared.spans.RequestSpans.{RequestSpans}
use Rattle.shop_request.specs.declared.faults.RequestFault.{RequestFault}
use Rattle.shop_request.specs.declared.faults.RequestFault.TheVariants.{BadRequest, NoLength, LargeBody, OnlyGet, OnlyPost}
use Rattle.shop_request.specs.declared.routes.Route.{Route}
use Rattle.shop_request.specs.Routes.{takes_body, part_of, path_of, route_of}
use Rattle.shop_request.specs.Heads.{ParsedHead, body_length, by_method, judged, most_body, on_length, on_route, with_length}
use Rattle.shop_request.proofs.After.{IsJudged}

-- ---- a parsed head is for a short body

module _ (p : ParsedHead) where
  short_length : (route : Route) (part : List ℕ) (n : ℕ) (t : Bool) → nat_le n most_body ≡ t → with_length route part (if t then Ok n else Err LargeBody) ≡ Ok p → p.length ≤ most_body
  short_length route part n true e is = let same : n ≡ p.length = cc in omega (arith, same, leb-true n most_body e)
  short_length route part n false e is = absurd (cc is)

  short_said : (route : Route) (part : List ℕ) (said : Option ℕ) → with_length route part (body_length said) ≡ Ok p → p.length ≤ most_body
  short_said route part None is = absurd (cc is)
  short_said route part (Some n) is = short_length route part n (nat_le n most_body) refl is

  short_post : (t : Bool) (route : Route) (part : List ℕ) (said : Option ℕ) → (if t then with_length route part (body_length said) else Err OnlyPost) ≡ Ok p → p.length ≤ most_body
  short_post true route part said is = short_said route part said is
  short_post false route part said is = absurd (cc is)

  short_get : (t : Bool) (route : Route) (part : List ℕ) → (if t then with_length route part (Ok 0) else Err OnlyGet) ≡ Ok p → p.length ≤ most_body
  short_get true route part is = let same : 0 ≡ p.length = cc in omega (arith, same)
  short_get false route part is = absurd (cc is)

  short_method : (b : Bool) (route : Route) (part method : List ℕ) (said : Option ℕ) → by_method b route part method said ≡ Ok p → p.length ≤ most_body
  short_method true route part method said is = short_post (bytes_eq method (codes "POST")) route part said is
  short_method false route part method said is = short_get (bytes_eq method (codes "GET")) route part is

  short_route : (method path : List ℕ) (said : Option ℕ) (o : Option Route) → on_route method path said o ≡ Ok p → p.length ≤ most_body
  short_route method path said None is = absurd (cc is)
  short_route method path said (Some route) is = short_method (takes_body route) route (part_of route path) method said is

  short_on : (method path : List ℕ) (r : Result (Option ℕ) RequestFault) → on_length method path r ≡ Ok p → p.length ≤ most_body
  short_on method path (Ok said) is = short_route method path said (route_of path) is
  short_on method path (Err f) is = absurd (cc is)

  short_parts : (hosts coded : Bool) (method path : List ℕ) (r : Result (Option ℕ) RequestFault)
      → (if not hosts then Err BadRequest else if coded then Err NoLength else on_length method path r) ≡ Ok p → p.length ≤ most_body
  short_parts true true method path r is = absurd (cc is)
  short_parts true false method path r is = short_on method path r is
  short_parts false coded method path r is = absurd (cc is)

  short_parsed_head : (h : RequestHead) → judged h ≡ Ok p → p.length ≤ most_body
  unfolding judged
  short_parsed_head h is = short_parts _ _ h.method (path_of h.target) _ is

-- what is pleaded for is short
pub short_body : {received : List ℕ} {headers : List HeaderSpan} {spans : RequestSpans} {answer : Result ParsedHead RequestFault} → IsJudged received headers spans answer → (parsed_head : ParsedHead) → answer ≡ Ok parsed_head → parsed_head.length ≤ most_body
short_body j parsed_head e = short_parsed_head parsed_head j.head (j.said ∙ e)
