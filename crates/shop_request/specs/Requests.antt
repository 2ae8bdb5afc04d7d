-- The request or the fault that an input stands for.
use Rattle.std.specs.Prelude.{◌≡◌, ℕ, ◌+◌, ◌<◌, ◌⊎◌, List, [], length, take, drop, Result, Ok, Err, nat_lt, if◌then◌else◌}
use Rattle.httparse.specs.Grammar.{RequestHead, print_request}
use Rattle.shop_request.specs.declared.faults.RequestFault.{RequestFault}
use Rattle.shop_request.specs.declared.faults.RequestFault.TheVariants.{BadRequest}
use Rattle.shop_request.specs.declared.routes.Route.{Route}
use Rattle.shop_request.specs.declared.requests.Inbound.{Inbound}
use Rattle.shop_request.specs.declared.requests.Inbound.TheVariants.{Silence, Faulty, Asks}
use Rattle.shop_request.specs.Routes.{takes_body}
use Rattle.shop_request.specs.Heads.{ParsedHead, HasHead, judged, most_head, most_body}

-- What an input stands for: nothing, where no byte comes; a fault; or a request: its route, and beside it the body where the
-- route takes one, else what the path says.
pub data ParseResult : Type 0 where
  silent : ParseResult
  faulty : RequestFault → ParseResult
  asking : Route → List ℕ → ParseResult

-- a request with its body, or with too few bytes for it
abbrev pub with_body : Route → ℕ → List ℕ → ParseResult
with_body route n after = if nat_lt (length after) n then faulty BadRequest else asking route (take n after)

-- what is asked for, once the bytes after the head are there
abbrev pub on_parsed_head : Result ParsedHead RequestFault → List ℕ → ParseResult
on_parsed_head (Err f) after = faulty f
on_parsed_head (Ok parsed_head) after = if takes_body parsed_head.route then with_body parsed_head.route parsed_head.length after else asking parsed_head.route parsed_head.part

abbrev pub on_head : Result RequestHead RequestFault → List ℕ → ParseResult
on_head (Err f) input = faulty f
on_head (Ok h) input = on_parsed_head (judged h) (drop (length (print_request h)) input)

-- the parse of an input
abbrev pub ParsesTo : List ℕ → ParseResult → Type 0
ParsesTo input s =
    ((input ≡ []) × (s ≡ silent))
    ⊎ ((0 < length input) × (head : Result RequestHead RequestFault) × HasHead input head × (s ≡ on_head head input))

-- the most reads of a request: each but the last brings a byte of its head or its body
abbrev pub most_request_reads : ℕ
most_request_reads = most_head + most_body

-- what was read
abbrev pub parse_of : Inbound → ParseResult
parse_of Silence = silent
parse_of (Faulty f) = faulty f
parse_of (Asks route text) = asking route text.now
