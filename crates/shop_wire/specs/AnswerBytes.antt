-- The bytes of an answer of HTTP.
use Rattle.std.specs.Prelude.{ℕ, Bool, true, false, List, [], ◌∷◌, ◌++◌, ◌==◌, length, Option, Some, None, Result, Ok, Err, codes, decimal, if◌then◌else◌}
use Rattle.http.specs.StatusCode.{code_digits}
use Rattle.shop_records.specs.declared.refusals.Refusal.{Refusal}
use Rattle.shop_records.specs.declared.refusals.Refusal.TheVariants.{BadMessage, NoMaterial, NoDemand, NoOrder, NoPart, NotWhole, NoJob, NoMemory, StoreFault}
use Rattle.shop_records.specs.declared.messages.Reply.{Reply}
use Rattle.shop_records.specs.declared.messages.Reply.TheVariants.{Refused}
use Rattle.shop_records.specs.Messages.{refusal_in}
use Rattle.shop_request.specs.declared.faults.RequestFault.{RequestFault}
use Rattle.shop_request.specs.declared.faults.RequestFault.TheVariants as faults
use Rattle.shop_request.specs.declared.routes.Route.{Route}
use Rattle.shop_request.specs.declared.routes.Route.TheVariants.{Plans, Backup}
use Rattle.shop_request.specs.Routes.{takes_body}
use Rattle.shop_request.specs.Requests.{ParseResult, silent, faulty, asking}
use Rattle.shop_forms.specs.Forms.{json_texts}

-- what a status says in words
abbrev pub phrase : ℕ → List ℕ
phrase n =
    if n == 200 then codes "OK" else (
    if n == 400 then codes "Bad Request" else (
    if n == 404 then codes "Not Found" else (
    if n == 405 then codes "Method Not Allowed" else (
    if n == 409 then codes "Conflict" else (
    if n == 411 then codes "Length Required" else (
    if n == 413 then codes "Content Too Large" else (
    if n == 431 then codes "Request Header Fields Too Large" else codes "Service Unavailable")))))))

-- what ends a line of a head
abbrev pub head_line_end : List ℕ
head_line_end = 13 ∷ 10 ∷ []

-- a status, the fields that not each answer has, and a body
pub record Answer : Type 0 where
  pub status : ℕ
  pub fields : List ℕ
  pub body : List ℕ

unfoldable pub answer_bytes : Answer → List ℕ
answer_bytes a =
    codes "HTTP/1.1 " ++ code_digits a.status ++ codes " " ++ phrase a.status ++ head_line_end ++ a.fields
    ++ codes "Content-Length: " ++ decimal (length a.body) ++ (head_line_end ++ codes "Connection: close" ++ head_line_end ++ head_line_end) ++ a.body

-- ---- faults

abbrev pub fault_status : RequestFault → ℕ
fault_status faults.BadRequest = 400
fault_status faults.NotFound = 404
fault_status faults.OnlyGet = 405
fault_status faults.OnlyPost = 405
fault_status faults.NoLength = 411
fault_status faults.LargeBody = 413
fault_status faults.LargeHead = 431

-- another method is reported which one there is
abbrev pub fault_fields : RequestFault → List ℕ
fault_fields faults.OnlyGet = codes "Allow: GET" ++ head_line_end
fault_fields faults.OnlyPost = codes "Allow: POST" ++ head_line_end
fault_fields _ = []

abbrev pub fault_answer : RequestFault → Answer
fault_answer f = record { status = fault_status f; fields = fault_fields f; body = [] }

-- ---- replies and texts

-- where something isn't there: by POST a conflict, and by GET nothing found
abbrev pub unfound : Bool → ℕ
unfound true = 409
unfound false = 404

abbrev pub refusal_status : Bool → Refusal → ℕ
refusal_status posted BadMessage = 400
refusal_status posted NoMaterial = unfound posted
refusal_status posted NoDemand = unfound posted
refusal_status posted NoOrder = unfound posted
refusal_status posted NoPart = unfound posted
refusal_status posted NotWhole = unfound posted
refusal_status posted NoJob = unfound posted
refusal_status posted NoMemory = 503
refusal_status posted StoreFault = 503
refusal_status posted _ = 409

abbrev pub status_in : Bool → Option Refusal → ℕ
status_in posted None = 200
status_in posted (Some refusal) = refusal_status posted refusal

abbrev pub reply_answer : Route → Reply → Answer
reply_answer route reply =
    record { status = status_in (takes_body route) (refusal_in reply); fields = codes "Content-Type: application/json" ++ head_line_end; body = json_texts.of_reply reply }

-- the plans of a whole order and the number of a backup are JSON, a ticket and a report are lines
abbrev pub text_fields : Route → List ℕ
text_fields Plans = codes "Content-Type: application/json" ++ head_line_end
text_fields Backup = codes "Content-Type: application/json" ++ head_line_end
text_fields _ = codes "Content-Type: text/plain" ++ head_line_end

abbrev pub text_answer : Route → List ℕ → Answer
text_answer route text = record { status = 200; fields = text_fields route; body = text }

-- ---- backups

-- the number of a backup that was made
abbrev pub backup_text : ℕ → List ℕ
backup_text number = codes "{\"backup\":" ++ decimal number ++ codes ",\"ok\":\"backup\"}"

-- it is reported, or why none was made
abbrev pub backup_answer : Result ℕ Refusal → Answer
backup_answer (Ok number) = text_answer Backup (backup_text number)
backup_answer (Err refusal) = reply_answer Backup (Refused refusal)

-- The response to a line or a request: a reply, or a text.
pub data Response : Type 0 where
  replied : Reply → Response
  printed : List ℕ → Response

abbrev pub response_answer : Route → Response → Answer
response_answer route (replied reply) = reply_answer route reply
response_answer route (printed text) = text_answer route text

-- what is written where an input has this parse: nothing, the answer to a fault, or to a request that is reported this
abbrev pub bytes_of : ParseResult → Response → List ℕ
bytes_of silent response = []
bytes_of (faulty f) response = answer_bytes (fault_answer f)
bytes_of (asking route text) response = answer_bytes (response_answer route response)
