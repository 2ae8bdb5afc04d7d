-- How far an input has one parse.
use Rattle.std.specs.Prelude.{◌≡◌, ℕ, ◌+◌, ◌<◌, ◌⊎◌, List, [], ◌∷◌, ◌++◌, length, Ok, true}
use Rattle.httparse.specs.Grammar.{RequestHead, ReadsRequest, HasNoRequest, MayBecomeRequest, EndsInTarget, print_request}
use Rattle.httparse.specs.Spans.{RequestExceeds}
use Rattle.shop_request.specs.declared.faults.RequestFault.TheVariants.{BadRequest, LargeHead}
use Rattle.shop_request.specs.Heads.{prefix, most_head, most_fields, ParsedHead, judged, BeginsWith}
use Rattle.shop_request.specs.Requests.{ParseResult, faulty, ParsesTo}
use Rattle.shop_request.specs.Routes.{takes_body}

-- a bad head, or a large one
abbrev pub IsHeadFault : ParseResult → Type 0
IsHeadFault s = (s ≡ faulty BadRequest) ⊎ (s ≡ faulty LargeHead)

-- the prefix has more fields than are read, or ends inside a target
abbrev pub MayBeEither : List ℕ → Type 0
MayBeEither input = RequestExceeds most_fields (prefix input) ⊎ EndsInTarget (prefix input)

-- two parses of an input are one; but where no whole head is read, and over 64 fields came or the prefix ends inside a target,
-- it may be a bad head or a large one
abbrev pub OneParse : Type 0
OneParse = (input : List ℕ) (s t : ParseResult) → ParsesTo input s → ParsesTo input t → (s ≡ t) ⊎ (IsHeadFault s × IsHeadFault t × MayBeEither input)

-- whatever follows these bytes, the input has this one parse
abbrev pub IsDetermined : List ℕ → Type 0
IsDetermined received = (s : ParseResult) × ((more : List ℕ) → ParsesTo (received ++ more) s)

-- no whole head, and these bytes may go on to be one
pub record IsPartOfHead (received : List ℕ) : Type 0 where
  pub few : length received < most_head
  pub none : HasNoRequest received
  pub may : MayBecomeRequest received

-- a whole head in which there is no fault, and fewer bytes after it than its body has
pub record LacksBody (received : List ℕ) : Type 0 where
  pub head : RequestHead
  pub begins : BeginsWith received head
  pub parsed_head : ParsedHead
  pub asks : judged head ≡ Ok parsed_head
  pub body : takes_body parsed_head.route ≡ true
  pub few : length received < length (print_request head) + parsed_head.length

-- neither a whole request nor a fault is there yet: nothing came, or a part of a head, or a head without all of its body
abbrev pub IsUnfinished : List ℕ → Type 0
IsUnfinished received = (received ≡ []) ⊎ IsPartOfHead received ⊎ LacksBody received

-- a head that lacks its last byte
abbrev pub LacksLastByte : List ℕ → Type 0
LacksLastByte received = (last : ℕ) × (h : RequestHead) × ReadsRequest (received ++ last ∷ []) h []

-- what is unfinished isn't determined; but where it may be a bad head or a large one, or a head lacks its last byte
abbrev pub UnfinishedIsOpen : Type 0
UnfinishedIsOpen = (received : List ℕ) → IsUnfinished received → IsDetermined received → MayBeEither received ⊎ LacksLastByte received
