-- What the parts of reading a request answer.
use Rattle.std.specs.Prelude.{◌≡◌, ◌≢◌, ◌⊎◌, ℕ, ◌+◌, ◌<◌, ◌≤◌, List, [], ◌∷◌, length, ◌++◌, true, Option, Some, None, Result, Ok, Err, ⊤}
use Rattle.std.specs.Io.KnownBytes.{Consumes}
use Rattle.httparse.specs.declared.spans.HeaderSpan.{HeaderSpan}
use Rattle.httparse.specs.declared.spans.RequestSpans.{RequestSpans}
use Rattle.httparse.specs.declared.Error.{Error}
use Rattle.httparse.specs.declared.Error.TheVariants.{TooManyHeaders}
use Rattle.shop_request.specs.declared.faults.RequestFault.TheVariants.{BadRequest, LargeHead}
use Rattle.httparse.specs.Spans.{IsRequestAt, IsRequestWithin, IsRequestOf, RequestExceeds, RequestOverflows}
use Rattle.httparse.specs.Grammar.{RequestHead, HasNoRequest, NeverHasRequest, MayBecomeRequest}
use Rattle.shop_request.specs.declared.heads.Parsed.{Parsed}
use Rattle.shop_request.specs.declared.heads.Parsed.TheVariants as parsed
use Rattle.shop_request.specs.declared.faults.RequestFault.{RequestFault}
use Rattle.shop_request.specs.declared.fields.Values.{Values}
use Rattle.shop_request.specs.declared.fields.Values.TheVariants as values
use Rattle.shop_request.specs.declared.fields.Said.{Said}
use Rattle.shop_request.specs.declared.fields.Said.TheVariants.{Nothing, Length, Large}
use Rattle.shop_request.specs.declared.heads.Found.{Found}
use Rattle.shop_request.specs.declared.heads.Found.TheVariants as found
use Rattle.shop_request.specs.declared.heads.Head.{Head}
use Rattle.shop_request.specs.Heads.{prefix, judged, most_fields, most_head, most_body, ParsedHead}
use Rattle.shop_request.specs.Routes.{path_of, part_of, takes_body}
use Rattle.shop_request.specs.declared.judging.Asked.{Asked}

-- no value, one, or more
abbrev pub AreValues : Values → List (List ℕ) → Type 0
AreValues values.None all = all ≡ []
AreValues (values.One v) all = all ≡ v.now ∷ []
AreValues values.Many all = (v w : List ℕ) × (vs : List (List ℕ)) × (all ≡ v ∷ w ∷ vs)

-- the length that is said, as far as it is allowed
abbrev pub IsSaid : Result Said RequestFault → Result (Option ℕ) RequestFault → Type 0
IsSaid (Ok Nothing) said = said ≡ Ok None
IsSaid (Ok (Length n)) said = (said ≡ Ok (Some n)) × (n ≤ most_body)
IsSaid (Ok Large) said = (n : ℕ) × (said ≡ Ok (Some n)) × (most_body < n)
IsSaid (Err f) said = said ≡ Err f

-- too many fields are a large head, and everything else that `httparse` refuses is a bad one
abbrev pub IsFaultOf : Error → RequestFault → Type 0
IsFaultOf error fault = ((error ≡ TooManyHeaders) × (fault ≡ LargeHead)) ⊎ ((error ≢ TooManyHeaders) × (fault ≡ BadRequest))

-- why a prefix is refused
abbrev pub IsRefused : List ℕ → RequestFault → Type 0
IsRefused prefix fault =
    ((fault ≡ LargeHead) × RequestExceeds most_fields prefix × RequestOverflows most_fields prefix)
    ⊎ ((fault ≡ BadRequest) × NeverHasRequest prefix)

abbrev pub IsParsed : List ℕ → List HeaderSpan → Parsed → Type 0
IsParsed prefix headers (parsed.Whole spans) = IsRequestWithin prefix headers spans × IsRequestOf prefix headers spans
IsParsed prefix headers parsed.Unfinished = HasNoRequest prefix × MayBecomeRequest prefix
IsParsed prefix headers (parsed.Refused fault) = IsRefused prefix fault

-- what is pleaded for, by a path
abbrev pub parsed_head_at : List ℕ → Asked → ParsedHead
parsed_head_at path a = record { route = a.route; part = part_of a.route path; length = a.length }

abbrev pub parsed_heads : List ℕ → Result Asked RequestFault → Result ParsedHead RequestFault
parsed_heads path (Ok a) = Ok (parsed_head_at path a)
parsed_heads path (Err f) = Err f

-- a whole head in these spans, and what it asks for, or the first fault in it
abbrev pub IsAsked : List ℕ → List HeaderSpan → RequestSpans → Result Asked RequestFault → Type 0
IsAsked prefix headers spans asks = IsRequestWithin prefix headers spans × ((h : RequestHead) × IsRequestAt prefix headers spans h × (parsed_heads (path_of h.target) asks ≡ judged h))

-- what stands in a prefix: such a head, a part of one, or none
abbrev pub IsFound : List ℕ → List HeaderSpan → Found → Type 0
IsFound prefix headers (found.Asks spans a) = IsAsked prefix headers spans (Ok a)
IsFound prefix headers (found.Faulty spans f) = IsAsked prefix headers spans (Err f)
IsFound prefix headers found.Unfinished = HasNoRequest prefix × MayBecomeRequest prefix
IsFound prefix headers (found.Refused fault) = IsRefused prefix fault

-- what was read of the head of these bytes
pub record IsHeadIn (received : List ℕ) (head : Head) : Type 0 where
  pub slots : length head.headers ≡ 64
  pub found : IsFound (prefix received) head.headers head.found

-- so many bytes are enough for what was found: no more make another request of it
abbrev pub HasEnough : ℕ → Found → Type 0
HasEnough n (found.Asks spans a) = takes_body a.route ≡ true → spans.len + a.length ≤ n
HasEnough n (found.Faulty spans f) = ⊤
HasEnough n found.Unfinished = most_head ≤ n
HasEnough n (found.Refused fault) = ⊤

-- more bytes came
abbrev pub IsReadOn : Option (List ℕ) → Option (List ℕ) → List ℕ → List ℕ → Type 0
IsReadOn old new before after = (more : List ℕ) × (after ≡ before ++ more) × Consumes old new more
