-- With which head an input begins, by `httparse`, or why with none; and what is wrong with a head.
use Rattle.std.specs.Prelude.{ℕ, ◌<◌, ◌≤◌, ◌⊎◌, ◌==◌, ◌&&◌, not, Bool, true, false, List, [], ◌∷◌, length, take, map, Option, Some, None, Result, Ok, Err, nat_lt, nat_le, bytes_eq, codes, if◌then◌else◌}
use Rattle.std.specs.Char.{to_ascii_lowercase}
use Rattle.std.specs.List.{list_all}
use Rattle.std.specs.Char.{is_ascii_digit}
use Rattle.std.specs.Str.Parse.{digits_value}
use Rattle.httparse.specs.Grammar.{RequestHead, ReadsRequest, HasNoRequest, NeverHasRequest, MayBecomeRequest}
use Rattle.httparse.specs.Spans.{name_and_value, RequestOverflows, RequestExceeds}
use Rattle.shop_request.specs.declared.faults.RequestFault.{RequestFault}
use Rattle.shop_request.specs.declared.faults.RequestFault.TheVariants.{BadRequest, NotFound, OnlyGet, OnlyPost, NoLength, LargeBody, LargeHead}
use Rattle.shop_request.specs.declared.routes.Route.{Route}
use Rattle.shop_request.specs.Routes.{path_of, route_of, part_of, takes_body}

-- the most bytes of a head, the most fields in it, and the most bytes of a body
abbrev pub most_head : ℕ
most_head = 8192

abbrev pub most_fields : ℕ
most_fields = 64

abbrev pub most_body : ℕ
most_body = 131072

-- where a head may stand
abbrev pub prefix : List ℕ → List ℕ
prefix input = take most_head input

-- the prefix holds a whole head, with as many fields as are read
pub record BeginsWith (input : List ℕ) (h : RequestHead) : Type 0 where
  pub rest : List ℕ
  pub reads : ReadsRequest (prefix input) h rest
  pub few : length h.fields ≤ most_fields

-- no bytes that follow the prefix make a head of it; or the input ends before one is whole
abbrev pub HasBadHead : List ℕ → Type 0
HasBadHead input = NeverHasRequest (prefix input) ⊎ ((length input < most_head) × HasNoRequest input)

-- the prefix has more fields than are read, and no head with fewer; or it is full, and what is there may go on to be a head
abbrev pub HasLargeHead : List ℕ → Type 0
HasLargeHead input =
    (RequestExceeds most_fields (prefix input) × RequestOverflows most_fields (prefix input))
    ⊎ ((most_head ≤ length input) × HasNoRequest (prefix input) × MayBecomeRequest (prefix input))

-- the head that an input begins with, or what is wrong
abbrev pub HasHead : List ℕ → Result RequestHead RequestFault → Type 0
HasHead input (Ok h) = BeginsWith input h
HasHead input (Err BadRequest) = HasBadHead input
HasHead input (Err LargeHead) = HasLargeHead input
HasHead input (Err _) = ⊥

-- ---- what is wrong with a head

abbrev pub Pair : Type 0
Pair = List ℕ × List ℕ

-- whether a field has that name, capitals aside
abbrev pub is_named : List ℕ → Pair → Bool
is_named name f = bytes_eq (map to_ascii_lowercase f.0) (map to_ascii_lowercase name)

-- the values of the fields with that name
abbrev pub values_of : List ℕ → List Pair → List (List ℕ)
values_of name [] = []
values_of name (f ∷ fs) = if is_named name f then f.1 ∷ values_of name fs else values_of name fs

-- HTTP/1.1 says one host, HTTP/1.0 at most one
abbrev pub has_hosts : ℕ → List (List ℕ) → Bool
has_hosts minor [] = minor == 0
has_hosts minor (v ∷ []) = true
has_hosts minor (v ∷ w ∷ vs) = false

abbrev pub is_some_list : List (List ℕ) → Bool
is_some_list [] = false
is_some_list (v ∷ vs) = true

-- one or more digits
abbrev pub is_number : List ℕ → Bool
is_number v = nat_lt 0 (length v) && list_all is_ascii_digit v

-- the length that the fields say, if they say one; or they are bad
abbrev pub said_length : List (List ℕ) → Result (Option ℕ) RequestFault
said_length [] = Ok None
said_length (v ∷ []) = if is_number v then Ok (Some (digits_value 10 v)) else Err BadRequest
said_length (v ∷ w ∷ vs) = Err BadRequest

-- what a head asks for: its route, what the path says beside it, and how many bytes of a body belong to it
pub record ParsedHead : Type 0 where
  pub route : Route
  pub part : List ℕ
  pub length : ℕ

abbrev pub body_length : Option ℕ → Result ℕ RequestFault
body_length None = Err NoLength
body_length (Some n) = if nat_le n most_body then Ok n else Err LargeBody

abbrev pub with_length : Route → List ℕ → Result ℕ RequestFault → Result ParsedHead RequestFault
with_length route part (Ok n) = Ok (record { route = route; part = part; length = n })
with_length route part (Err f) = Err f

-- a route that takes a body, and one that doesn't
abbrev pub by_method : Bool → Route → List ℕ → List ℕ → Option ℕ → Result ParsedHead RequestFault
by_method true route part method said = if bytes_eq method (codes "POST") then with_length route part (body_length said) else Err OnlyPost
by_method false route part method said = if bytes_eq method (codes "GET") then with_length route part (Ok 0) else Err OnlyGet

abbrev pub on_route : List ℕ → List ℕ → Option ℕ → Option Route → Result ParsedHead RequestFault
on_route method path said None = Err NotFound
on_route method path said (Some route) = by_method (takes_body route) route (part_of route path) method said

abbrev pub on_length : List ℕ → List ℕ → Result (Option ℕ) RequestFault → Result ParsedHead RequestFault
on_length method path (Ok said) = on_route method path said (route_of path)
on_length method path (Err f) = Err f

-- the first fault of a head, or what it asks for
abbrev pub judged_parts : List ℕ → List ℕ → ℕ → List Pair → Result ParsedHead RequestFault
judged_parts method target minor fields =
    if not (has_hosts minor (values_of (codes "host") fields)) then Err BadRequest
    else if is_some_list (values_of (codes "transfer-encoding") fields) then Err NoLength
    else on_length method (path_of target) (said_length (values_of (codes "content-length") fields))

unfoldable pub judged : RequestHead → Result ParsedHead RequestFault
judged h = judged_parts h.method h.target h.minor (map name_and_value h.fields)
