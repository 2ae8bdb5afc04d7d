-- What the parts of answering a line or a request give.
use Rattle.std.specs.Prelude.{◌≡◌, ◌⊎◌, ℕ, List, Option, Some, None, Result, Ok, Err, IfSome, MatchOption, ⊤, string_bytes}
use Rattle.std.specs.declared.string.String.{String}
use Rattle.shop_records.specs.declared.refusals.Refusal.{Refusal}
use Rattle.shop_records.specs.declared.refusals.Refusal.TheVariants.{BadMessage, NoMemory}
use Rattle.shop_records.specs.declared.messages.Reply.TheVariants.{Refused}
use Rattle.shop_forms.specs.Forms.{json_texts}
use Rattle.shop_text.specs.Printing.{IsFailure}
use Rattle.shop_wire.specs.declared.reported.Reported.{Reported}
use Rattle.shop_wire.specs.declared.reported.Reported.TheVariants as reported
use Rattle.shop_wire.specs.AnswerBytes.{Response, replied, printed}

-- what was reported
abbrev pub response_of : Reported → Response
response_of (reported.Reply reply text) = replied reply
response_of (reported.Text text) = printed text

-- a text that was reported about a reply is its text
abbrev pub HasPrintedText : Reported → Type 0
HasPrintedText (reported.Reply reply text) = IfSome text (λ t. t ≡ json_texts.of_reply reply)
HasPrintedText (reported.Text text) = ⊤

-- nothing was meant, or memory ran out
abbrev pub IsUnread : {B : Type 0} → Refusal → Option B → Type 0
IsUnread refusal meant = (refusal ≡ NoMemory) ⊎ ((refusal ≡ BadMessage) × (meant ≡ None))

-- this is what was meant, or it is unread
abbrev pub IsRead : {A B : Type 0} → (A → B) → Result A Refusal → Option B → Type 0
IsRead of (Ok x) meant = meant ≡ Some (of x)
IsRead of (Err refusal) meant = IsUnread refusal meant

-- a text that was made, or the refusal that stands for it
abbrev pub IsReportedOf : {Z : Type 0} → Result (String Z) Refusal → Response → Type 0
IsReportedOf (Ok text) response = response ≡ printed (string_bytes text)
IsReportedOf (Err refusal) response = response ≡ replied (Refused refusal)

-- what has to be said is printed, or its refusal is reported, or a failure, which is counted
abbrev pub ReportsCounted : Result (List ℕ) Refusal → Response → ℕ → ℕ → Type 0
ReportsCounted said (printed text) before after = said ≡ Ok text
ReportsCounted said (replied reply) before after = (refusal : Refusal) × (reply ≡ Refused refusal) × ((said ≡ Err refusal) ⊎ IsFailure refusal before after)

-- the same, and where no text is asked for that is refused
abbrev pub PrintsCounted : Option (Result (List ℕ) Refusal) → Response → ℕ → ℕ → Type 0
PrintsCounted asked response before after = MatchOption asked (response ≡ replied (Refused BadMessage)) (λ said. ReportsCounted said response before after)
