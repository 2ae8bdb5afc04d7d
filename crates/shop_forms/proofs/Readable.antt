-- Messages and replies that accepted messages can get, as values: their text is read as the value.
use Rattle.std.proofs.Common.{◌≡◌, ℕ, suc, ◌<◌, ◌≤◌, ◌^◌, List, [], append-nil, Option, Some, None, refl, sym, ap, ◌∙◌, arith}
use Rattle.std.specs.Prelude.{max, option_and_then, IfSome}
use Rattle.std.proofs.Math.Nat.{max-le}
use Rattle.cut_tree.specs.declared.halts.Halt.TheVariants.{First, Listed}
use Rattle.shop_records.specs.declared.imports.Form.TheVariants.{Csv, Cgcut}
use Rattle.shop_records.specs.declared.messages.Command.{Command}
use Rattle.shop_records.specs.declared.messages.Command.TheVariants.{AddMaterial, Receive, AddOrder, Reserve, Done, Break, Release, Scrap, GiveBack, Import, Amend, Undo, Note, Extend, Begin}
use Rattle.shop_records.specs.declared.messages.Message.{Message}
use Rattle.shop_records.specs.declared.messages.Reply.{Reply}
use Rattle.shop_records.specs.declared.messages.Reply.TheVariants as reply
use Rattle.shop_records.specs.Messages.{IsMessage, IsCommand, IsNumber}
use Rattle.json.proofs.Printed.Decimals.{IsNumber-decimal}
use Rattle.json.proofs.Printed.Tokens.{tokens-print}
use Rattle.json.proofs.Printed.Trees.{value-json_tokens, ArePrintable-json_tokens}
use Rattle.json.specs.Json as json
use Rattle.json.specs.Lex.{tokens}
use Rattle.json.specs.Token.{Token}
use Rattle.json.specs.Tree.{HasNumbers, depth, json_tokens}
use Rattle.serde_json.specs.Data.{Data, null}
use Rattle.serde_json.specs.Read.{read, of_json, max_depth}
use Rattle.serde_json.specs.Written.{compact_text, outline}
use Rattle.serde_json.proofs.Numbers.{number_of-decimal}
use Rattle.serde_json.proofs.Texts.{print-outline}
use Rattle.shop_forms.specs.Forms.{message_data, made_data, message_reported, reply_reported, HasWideMade}
use Rattle.shop_forms.proofs.ListedRows.{cuts_numbers, cuts_shallow, cuts_json, lines_numbers, lines_shallow, lines_json}

-- the text of a value whose numbers are read back is read as the value
pub read-compact : (d : Data) → HasNumbers (outline d) → depth (outline d) ≤ max_depth → of_json (outline d) ≡ Some d → read (compact_text d) ≡ Some d
read-compact d numbers shallow back =
    let j = outline d in
    let same : tokens (compact_text d) ≡ json_tokens j = ap tokens (sym (print-outline d)) ∙ tokens-print (json_tokens j) (ArePrintable-json_tokens j numbers) in
    ap (λ (read : Option (json.Json × List Token)). option_and_then of_json (option_and_then (λ p. json.if_last p.0 p.1) read)) (ap (json.value max_depth) (same ∙ sym (append-nil (json_tokens j))) ∙ value-json_tokens j max_depth [] shallow) ∙ back

pub wide : (n : ℕ) → n < 2 ^ 32 → n < 2 ^ 64
wide n h = omega arith

-- the numbers of a value are read back, and so is the value, which nests three deep at most
abbrev pub IsReadable : Data → Type 0
IsReadable d = HasNumbers (outline d) × (depth (outline d) ≤ 3) × (of_json (outline d) ≡ Some d)

readable : (d : Data) → HasNumbers (outline d) → depth (outline d) ≤ 3 → of_json (outline d) ≡ Some d → IsReadable d
readable d numbers shallow back = (numbers, shallow, back)

few : (n : ℕ) → n ≤ 3 → n ≤ max_depth
few n h = omega (arith, h)

pub read_readable : (d : Data) → IsReadable d → read (compact_text d) ≡ Some d
read_readable d h = read-compact d h.0 (few (depth (outline d)) h.1) h.2

nothing_readable : IsReadable null
nothing_readable = (tt, omega arith, refl)

-- an object with one list of objects
shallow : (n : ℕ) → n ≤ 1 → suc (max 0 (max (suc n) (max 0 (max 0 (max 0 0))))) ≤ 3
shallow n h = let e : max 0 (max (suc n) (max 0 (max 0 (max 0 0)))) ≤ 2 = max-le (omega arith) (max-le (omega (arith, h)) (omega arith)) in omega (arith, e)

-- an object with a list of numbers first
shallow_first : (n : ℕ) → n ≤ 1 → suc (max (suc n) (max 0 (max 0 (max 0 (max 0 (max 0 0)))))) ≤ 3
shallow_first n h = let e : max (suc n) (max 0 (max 0 (max 0 (max 0 (max 0 0))))) ≤ 2 = max-le (omega (arith, h)) (omega arith) in omega (arith, e)

-- and one member more
shallow_first_more : (n : ℕ) → n ≤ 1 → suc (max (suc n) (max 0 (max 0 (max 0 (max 0 (max 0 (max 0 0))))))) ≤ 3
shallow_first_more n h = let e : max (suc n) (max 0 (max 0 (max 0 (max 0 (max 0 (max 0 0)))))) ≤ 2 = max-le (omega (arith, h)) (omega arith) in omega (arith, e)

message_readable_by : (terminal n : ℕ) (command : Command) → IsNumber terminal → IsNumber n → IsCommand command
    → let d = message_data (record { terminal = terminal; number = n; command = command }) in IsReadable d
message_readable_by terminal n (AddMaterial material kind kerf min_long min_short) p q h =
    let d = message_data (record { terminal = terminal; number = n; command = AddMaterial material kind kerf min_long min_short }) in
    readable d (
      tt,
      (
        IsNumber-decimal kerf (wide kerf h.1),
        (
          tt,
          (
            tt,
            (
              IsNumber-decimal min_long (wide min_long h.2),
              (
                IsNumber-decimal min_short (wide min_short h.3),
                (IsNumber-decimal n (wide n q), (IsNumber-decimal terminal (wide terminal p), tt)),
              ),
            ),
          ),
        ),
      ),
    ) (omega arith)
    (rw (number_of-decimal kerf (wide kerf h.1), number_of-decimal min_long (wide min_long h.2), number_of-decimal min_short (wide min_short h.3), number_of-decimal n (wide n q), number_of-decimal terminal (wide terminal p)) refl)
message_readable_by terminal n (Receive material batch w h count) p q c =
    let d = message_data (record { terminal = terminal; number = n; command = Receive material batch w h count }) in
    readable d
    (tt, (IsNumber-decimal count (wide count c.4), (tt, (IsNumber-decimal h (wide h c.3), (tt, (IsNumber-decimal n (wide n q), (IsNumber-decimal terminal (wide terminal p), (IsNumber-decimal w (wide w c.2), tt)))))))) (omega arith)
    (rw (number_of-decimal count (wide count c.4), number_of-decimal h (wide h c.3), number_of-decimal n (wide n q), number_of-decimal terminal (wide terminal p), number_of-decimal w (wide w c.2)) refl)
message_readable_by terminal n (AddOrder order lines) p q h =
    let d = message_data (record { terminal = terminal; number = n; command = AddOrder order lines }) in
    readable d (tt, (lines_numbers lines h.1, (IsNumber-decimal n (wide n q), (tt, (IsNumber-decimal terminal (wide terminal p), tt))))) (shallow _ (lines_shallow lines))
    (rw (lines_json lines h.1, number_of-decimal n (wide n q), number_of-decimal terminal (wide terminal p)) refl)
message_readable_by terminal n (Reserve part tree) p q h =
    let d = message_data (record { terminal = terminal; number = n; command = Reserve part tree }) in
    readable d (tt, (IsNumber-decimal n (wide n q), (tt, (IsNumber-decimal terminal (wide terminal p), (tt, tt))))) (omega arith)
    (rw (number_of-decimal n (wide n q), number_of-decimal terminal (wide terminal p)) refl)
message_readable_by terminal n (Done job) p q h =
    let d = message_data (record { terminal = terminal; number = n; command = Done job }) in
    readable d (tt, (IsNumber-decimal job (wide job h), (IsNumber-decimal n (wide n q), (IsNumber-decimal terminal (wide terminal p), tt)))) (omega arith)
    (rw (number_of-decimal job (wide job h), number_of-decimal n (wide n q), number_of-decimal terminal (wide terminal p)) refl)
message_readable_by terminal n (Break job (First cuts lost) None) p q h =
    let d = message_data (record { terminal = terminal; number = n; command = Break job (First cuts lost) None }) in
    readable d (IsNumber-decimal cuts (wide cuts h.1), (tt, (IsNumber-decimal job (wide job h.0), (tt, (IsNumber-decimal n (wide n q), (IsNumber-decimal terminal (wide terminal p), tt)))))) (omega arith)
    (rw (number_of-decimal cuts (wide cuts h.1), number_of-decimal job (wide job h.0), number_of-decimal n (wide n q), number_of-decimal terminal (wide terminal p)) refl)
message_readable_by terminal n (Break job (First cuts lost) (Some rest)) p q h =
    let d = message_data (record { terminal = terminal; number = n; command = Break job (First cuts lost) (Some rest) }) in
    readable d (IsNumber-decimal cuts (wide cuts h.1), (tt, (IsNumber-decimal job (wide job h.0), (tt, (IsNumber-decimal n (wide n q), (IsNumber-decimal rest (wide rest h.2), (IsNumber-decimal terminal (wide terminal p), tt))))))) (omega arith)
    (rw (number_of-decimal cuts (wide cuts h.1), number_of-decimal job (wide job h.0), number_of-decimal n (wide n q), number_of-decimal rest (wide rest h.2), number_of-decimal terminal (wide terminal p)) refl)
message_readable_by terminal n (Break job (Listed cuts None) None) p q h =
    let d = message_data (record { terminal = terminal; number = n; command = Break job (Listed cuts None) None }) in
    readable d (cuts_numbers cuts h.1.0, (tt, (IsNumber-decimal job (wide job h.0), (tt, (IsNumber-decimal n (wide n q), (IsNumber-decimal terminal (wide terminal p), tt)))))) (shallow_first _ (cuts_shallow cuts))
    (rw (cuts_json cuts h.1.0, number_of-decimal job (wide job h.0), number_of-decimal n (wide n q), number_of-decimal terminal (wide terminal p)) refl)
message_readable_by terminal n (Break job (Listed cuts None) (Some rest)) p q h =
    let d = message_data (record { terminal = terminal; number = n; command = Break job (Listed cuts None) (Some rest) }) in
    readable d (cuts_numbers cuts h.1.0, (tt, (IsNumber-decimal job (wide job h.0), (tt, (IsNumber-decimal n (wide n q), (IsNumber-decimal rest (wide rest h.2), (IsNumber-decimal terminal (wide terminal p), tt))))))) (shallow_first_more _ (cuts_shallow cuts))
    (rw (cuts_json cuts h.1.0, number_of-decimal job (wide job h.0), number_of-decimal n (wide n q), number_of-decimal rest (wide rest h.2), number_of-decimal terminal (wide terminal p)) refl)
message_readable_by terminal n (Break job (Listed cuts (Some cut)) None) p q h =
    let d = message_data (record { terminal = terminal; number = n; command = Break job (Listed cuts (Some cut)) None }) in
    readable d (cuts_numbers cuts h.1.0, (tt, (IsNumber-decimal job (wide job h.0), (IsNumber-decimal cut (wide cut h.1.1), (IsNumber-decimal n (wide n q), (IsNumber-decimal terminal (wide terminal p), tt)))))) (shallow_first _ (cuts_shallow cuts))
    (rw (cuts_json cuts h.1.0, number_of-decimal job (wide job h.0), number_of-decimal cut (wide cut h.1.1), number_of-decimal n (wide n q), number_of-decimal terminal (wide terminal p)) refl)
message_readable_by terminal n (Break job (Listed cuts (Some cut)) (Some rest)) p q h =
    let d = message_data (record { terminal = terminal; number = n; command = Break job (Listed cuts (Some cut)) (Some rest) }) in
    readable d (cuts_numbers cuts h.1.0, (tt, (IsNumber-decimal job (wide job h.0), (IsNumber-decimal cut (wide cut h.1.1), (IsNumber-decimal n (wide n q), (IsNumber-decimal rest (wide rest h.2), (IsNumber-decimal terminal (wide terminal p), tt))))))) (shallow_first_more _ (cuts_shallow cuts))
    (rw (cuts_json cuts h.1.0, number_of-decimal job (wide job h.0), number_of-decimal cut (wide cut h.1.1), number_of-decimal n (wide n q), number_of-decimal rest (wide rest h.2), number_of-decimal terminal (wide terminal p)) refl)
message_readable_by terminal n (Release job) p q h =
    let d = message_data (record { terminal = terminal; number = n; command = Release job }) in
    readable d (tt, (IsNumber-decimal job (wide job h), (IsNumber-decimal n (wide n q), (IsNumber-decimal terminal (wide terminal p), tt)))) (omega arith)
    (rw (number_of-decimal job (wide job h), number_of-decimal n (wide n q), number_of-decimal terminal (wide terminal p)) refl)
message_readable_by terminal n (Scrap part) p q h =
    let d = message_data (record { terminal = terminal; number = n; command = Scrap part }) in
    readable d (tt, (IsNumber-decimal n (wide n q), (tt, (IsNumber-decimal terminal (wide terminal p), tt)))) (omega arith)
    (rw (number_of-decimal n (wide n q), number_of-decimal terminal (wide terminal p)) refl)
message_readable_by terminal n (GiveBack part) p q h =
    let d = message_data (record { terminal = terminal; number = n; command = GiveBack part }) in
    readable d (tt, (IsNumber-decimal n (wide n q), (tt, (IsNumber-decimal terminal (wide terminal p), tt)))) (omega arith)
    (rw (number_of-decimal n (wide n q), number_of-decimal terminal (wide terminal p)) refl)
message_readable_by terminal n (Import order Csv text) p q h =
    let d = message_data (record { terminal = terminal; number = n; command = Import order Csv text }) in
    readable d (tt, (tt, (IsNumber-decimal n (wide n q), (tt, (IsNumber-decimal terminal (wide terminal p), (tt, tt)))))) (omega arith)
    (rw (number_of-decimal n (wide n q), number_of-decimal terminal (wide terminal p)) refl)
message_readable_by terminal n (Import order (Cgcut material) text) p q h =
    let d = message_data (record { terminal = terminal; number = n; command = Import order (Cgcut material) text }) in
    readable d (tt, (tt, (tt, (IsNumber-decimal n (wide n q), (tt, (IsNumber-decimal terminal (wide terminal p), (tt, tt))))))) (omega arith)
    (rw (number_of-decimal n (wide n q), number_of-decimal terminal (wide terminal p)) refl)
message_readable_by terminal n (Amend demand wanted) p q h =
    let d = message_data (record { terminal = terminal; number = n; command = Amend demand wanted }) in
    readable d (IsNumber-decimal demand (wide demand h.0), (tt, (IsNumber-decimal n (wide n q), (IsNumber-decimal terminal (wide terminal p), (IsNumber-decimal wanted (wide wanted h.1), tt))))) (omega arith)
    (rw (number_of-decimal demand (wide demand h.0), number_of-decimal n (wide n q), number_of-decimal terminal (wide terminal p), number_of-decimal wanted (wide wanted h.1)) refl)
message_readable_by terminal n (Undo job) p q h =
    let d = message_data (record { terminal = terminal; number = n; command = Undo job }) in
    readable d (tt, (IsNumber-decimal job (wide job h), (IsNumber-decimal n (wide n q), (IsNumber-decimal terminal (wide terminal p), tt)))) (omega arith)
    (rw (number_of-decimal job (wide job h), number_of-decimal n (wide n q), number_of-decimal terminal (wide terminal p)) refl)
message_readable_by terminal n (Note order due text) p q h =
    let d = message_data (record { terminal = terminal; number = n; command = Note order due text }) in
    readable d (tt, (IsNumber-decimal due (wide due h.1), (IsNumber-decimal n (wide n q), (tt, (IsNumber-decimal terminal (wide terminal p), (tt, tt)))))) (omega arith)
    (rw (number_of-decimal due (wide due h.1), number_of-decimal n (wide n q), number_of-decimal terminal (wide terminal p)) refl)
message_readable_by terminal n (Extend order lines) p q h =
    let d = message_data (record { terminal = terminal; number = n; command = Extend order lines }) in
    readable d (tt, (lines_numbers lines h.1, (IsNumber-decimal n (wide n q), (tt, (IsNumber-decimal terminal (wide terminal p), tt))))) (shallow _ (lines_shallow lines))
    (rw (lines_json lines h.1, number_of-decimal n (wide n q), number_of-decimal terminal (wide terminal p)) refl)
message_readable_by terminal n (Begin job) p q h =
    let d = message_data (record { terminal = terminal; number = n; command = Begin job }) in
    readable d (tt, (IsNumber-decimal job (wide job h), (IsNumber-decimal n (wide n q), (IsNumber-decimal terminal (wide terminal p), tt)))) (omega arith)
    (rw (number_of-decimal job (wide job h), number_of-decimal n (wide n q), number_of-decimal terminal (wide terminal p)) refl)

pub message_readable : (message : Message) → IsMessage message → IsReadable (message_data message)
message_readable message h = message_readable_by message.terminal message.number message.command h.terminal h.number h.command

pub made_readable : (answer : Reply) → HasWideMade answer → IsReadable (made_data answer)
made_readable (reply.AddMaterial material) wide_ones =
    readable (made_data (reply.AddMaterial material)) (tt, (tt, tt)) (omega arith) refl
made_readable (reply.Receive act count) wide_ones =
    readable (made_data (reply.Receive act count)) (IsNumber-decimal act wide_ones.0, (IsNumber-decimal count wide_ones.1, (tt, tt))) (omega arith) (rw (number_of-decimal act wide_ones.0, number_of-decimal count wide_ones.1) refl)
made_readable (reply.AddOrder count first order) wide_ones =
    readable (made_data (reply.AddOrder count first order)) (IsNumber-decimal count wide_ones.0, (IsNumber-decimal first wide_ones.1, (tt, (tt, tt)))) (omega arith) (rw (number_of-decimal count wide_ones.0, number_of-decimal first wide_ones.1) refl)
made_readable (reply.Reserve cuts job) wide_ones =
    readable (made_data (reply.Reserve cuts job)) (IsNumber-decimal cuts wide_ones.0, (IsNumber-decimal job wide_ones.1, (tt, tt))) (omega arith) (rw (number_of-decimal cuts wide_ones.0, number_of-decimal job wide_ones.1) refl)
made_readable (reply.Done job kerf pieces rack scrap) wide_ones =
    readable (made_data (reply.Done job kerf pieces rack scrap)) (IsNumber-decimal job wide_ones.0, (IsNumber-decimal kerf wide_ones.1, (tt, (IsNumber-decimal pieces wide_ones.2, (IsNumber-decimal rack wide_ones.3, (IsNumber-decimal scrap wide_ones.4, tt)))))) (omega arith) (rw (number_of-decimal job wide_ones.0, number_of-decimal kerf wide_ones.1, number_of-decimal pieces wide_ones.2, number_of-decimal rack wide_ones.3, number_of-decimal scrap wide_ones.4) refl)
made_readable (reply.Break job kerf pieces rack scrap) wide_ones =
    readable (made_data (reply.Break job kerf pieces rack scrap)) (IsNumber-decimal job wide_ones.0, (IsNumber-decimal kerf wide_ones.1, (tt, (IsNumber-decimal pieces wide_ones.2, (IsNumber-decimal rack wide_ones.3, (IsNumber-decimal scrap wide_ones.4, tt)))))) (omega arith) (rw (number_of-decimal job wide_ones.0, number_of-decimal kerf wide_ones.1, number_of-decimal pieces wide_ones.2, number_of-decimal rack wide_ones.3, number_of-decimal scrap wide_ones.4) refl)
made_readable (reply.Release job) wide_ones =
    readable (made_data (reply.Release job)) (IsNumber-decimal job wide_ones, (tt, tt)) (omega arith) (rw (number_of-decimal job wide_ones) refl)
made_readable (reply.Scrap part) wide_ones =
    readable (made_data (reply.Scrap part)) (tt, (tt, tt)) (omega arith) refl
made_readable (reply.GiveBack part) wide_ones =
    readable (made_data (reply.GiveBack part)) (tt, (tt, tt)) (omega arith) refl
made_readable (reply.Import act count first order) wide_ones =
    readable (made_data (reply.Import act count first order)) (IsNumber-decimal act wide_ones.0, (IsNumber-decimal count wide_ones.1, (IsNumber-decimal first wide_ones.2, (tt, (tt, tt))))) (omega arith) (rw (number_of-decimal act wide_ones.0, number_of-decimal count wide_ones.1, number_of-decimal first wide_ones.2) refl)
made_readable (reply.Amend demand wanted) wide_ones =
    readable (made_data (reply.Amend demand wanted)) (IsNumber-decimal demand wide_ones.0, (tt, (IsNumber-decimal wanted wide_ones.1, tt))) (omega arith) (rw (number_of-decimal demand wide_ones.0, number_of-decimal wanted wide_ones.1) refl)
made_readable (reply.Undo job part) wide_ones =
    readable (made_data (reply.Undo job part)) (IsNumber-decimal job wide_ones, (tt, (tt, tt))) (omega arith) (rw (number_of-decimal job wide_ones) refl)
made_readable (reply.Note order) wide_ones =
    readable (made_data (reply.Note order)) (tt, (tt, tt)) (omega arith) refl
made_readable (reply.Extend count first order) wide_ones =
    readable (made_data (reply.Extend count first order)) (IsNumber-decimal count wide_ones.0, (IsNumber-decimal first wide_ones.1, (tt, (tt, tt)))) (omega arith) (rw (number_of-decimal count wide_ones.0, number_of-decimal first wide_ones.1) refl)
made_readable (reply.Begin before job) wide_ones =
    readable (made_data (reply.Begin before job)) (IsNumber-decimal before wide_ones.0, (IsNumber-decimal job wide_ones.1, (tt, tt))) (omega arith) (rw (number_of-decimal before wide_ones.0, number_of-decimal job wide_ones.1) refl)
made_readable _ wide_ones = nothing_readable

pub message_reported_readable : (found : Option Message) → IfSome found IsMessage → IsReadable (message_reported found)
message_reported_readable None h = nothing_readable
message_reported_readable (Some message) h = message_readable message h

pub reply_reported_readable : (found : Option Reply) → IfSome found HasWideMade → IsReadable (reply_reported found)
reply_reported_readable None h = nothing_readable
reply_reported_readable (Some answer) h = made_readable answer h
