-- What is printed is read back.
use Rattle.std.proofs.Common.{◌≡◌, ℕ, suc, ◌≤◌, List, All, Bool, true, false, Option, Some, None, refl, sym, ap, ◌∙◌, arith, le-leb, codes}
use Rattle.std.specs.Prelude.{max, option_map, option_and_then, if◌then◌else◌, is_some}
use Rattle.cut_measure.specs.declared.sizes.Kind.{Kind}
use Rattle.cut_measure.specs.Names.{Name, name_text}
use Rattle.cut_tree.specs.declared.halts.Halt.{Halt}
use Rattle.cut_tree.specs.declared.halts.Halt.TheVariants.{First, Listed}
use Rattle.std.specs.Option.{option_or}
use Rattle.std.specs.Cmp.Derive.{both_true}
use Rattle.shop_records.specs.declared.messages.Command.{Command}
use Rattle.shop_records.specs.declared.messages.Command.TheVariants.{AddMaterial, Receive, AddOrder, Reserve, Done, Break, Release, Scrap, GiveBack, Import, Amend, Undo, Note, Extend, Begin}
use Rattle.shop_records.specs.declared.imports.Form.TheVariants.{Csv, Cgcut}
use Rattle.shop_records.specs.declared.messages.Message.{Message}
use Rattle.shop_files.specs.declared.orders.OrderLine.{OrderLine}
use Rattle.shop_records.specs.declared.messages.Query.{Query}
use Rattle.shop_records.specs.declared.messages.Reply.{Reply}
use Rattle.shop_records.specs.declared.messages.Reply.TheVariants as reply
use Rattle.shop_records.specs.Messages.{IsMessage, IsCommand, IsMade, IsNumber}
use Rattle.std.proofs.Math.Nat.{max-le}
use Rattle.json.proofs.Printed.Decimals.{IsNumber-decimal}
use Rattle.serde_json.specs.Data.{Data, boolean, number, string, unsigned}
use Rattle.serde_json.specs.Find.{get, as_number, as_str, as_u64}
use Rattle.serde_json.specs.Read.{read}
use Rattle.serde_json.specs.Written.{compact_text}
use Rattle.serde_json.proofs.Numbers.{number_of-decimal}
use Rattle.shop_forms.specs.Forms.{message_of, sent_head, sent_of, from_one, command_of, material_command, receive_command, order_command, reserve_command, import_in, problem_command, import_by, import_command, amend_command, query_of, asked_of, reply_of, made_of, order_made, reserve_made, ended_cells, first_cuts, listed_cuts, lost_cut, list_data, plain_break, saving_break, note_command, extend_command, extend_made, undo_made, begin_made, has_few_cuts, lines_data, message_data, reply_data, json_texts, HasWideNumbers}
use Rattle.shop_records.specs.Refusals.{refusal_number}
use Rattle.shop_forms.proofs.ListedRows.{cuts_there, lines_there, rack_numbers, rack_shallow, rack_json, materials_numbers, materials_shallow, materials_json, parts_numbers, parts_shallow, parts_json, demands_numbers, demands_shallow, demands_json, jobs_numbers, jobs_shallow, jobs_json, orders_numbers, orders_shallow, orders_json, pieces_numbers, pieces_shallow, pieces_json, steps_numbers, steps_shallow, steps_json, shallow_seventh, shallow_first_of_two, shallow_first_of_three, shallow_fourth}
use Rattle.shop_forms.proofs.Readable.{read-compact, wide, read_readable, message_readable, made_readable}
use Rattle.shop_forms.proofs.EntryRows.{entries_numbers, entries_deep, entries_json, entries_shallow}
use Rattle.shop_forms.specs.Fields.{kind_text, small, number_at}
use Rattle.shop_forms.proofs.FieldFacts.{number_there, wide_there, flag_there, code_there, kind_there, name_there, text_there}

-- ---- values

read_material : (d : Data) (material : List ℕ) (kind : Kind) (kerf min_long min_short : ℕ)
    → get (codes "material") d ≡ Some (string material) → get (codes "kind") d ≡ Some (string (kind_text kind)) → get (codes "kerf") d ≡ Some (number (unsigned kerf))
    → get (codes "min_long") d ≡ Some (number (unsigned min_long)) → get (codes "min_short") d ≡ Some (number (unsigned min_short))
    → IsCommand (AddMaterial material kind kerf min_long min_short) → material_command d ≡ Some (AddMaterial material kind kerf min_long min_short)
read_material d material kind kerf min_long min_short p q r s t h =
    rw (code_there (codes "material") d material p h.0, kind_there (codes "kind") d kind q, number_there (codes "kerf") d kerf r h.1, number_there (codes "min_long") d min_long s h.2, number_there (codes "min_short") d min_short t h.3) refl

read_receive : (d : Data) (material batch : List ℕ) (w h count : ℕ)
    → get (codes "material") d ≡ Some (string material) → get (codes "batch") d ≡ Some (string batch) → get (codes "w") d ≡ Some (number (unsigned w))
    → get (codes "h") d ≡ Some (number (unsigned h)) → get (codes "count") d ≡ Some (number (unsigned count))
    → IsCommand (Receive material batch w h count) → receive_command d ≡ Some (Receive material batch w h count)
read_receive d material batch w h count p q r s t c =
    rw (code_there (codes "material") d material p c.0, code_there (codes "batch") d batch q c.1, number_there (codes "w") d w r c.2, number_there (codes "h") d h s c.3, number_there (codes "count") d count t c.4) refl

read_order : (d : Data) (order : List ℕ) (lines : List OrderLine)
    → get (codes "order") d ≡ Some (string order) → get (codes "lines") d ≡ Some (lines_data lines)
    → IsCommand (AddOrder order lines) → order_command d ≡ Some (AddOrder order lines)
read_order d order lines p q h = rw (code_there (codes "order") d order p h.0, lines_there (codes "lines") d lines q h.1) refl

read_reserve : (d : Data) (part : Name) (tree : List ℕ)
    → get (codes "part") d ≡ Some (string (name_text part)) → get (codes "tree") d ≡ Some (string tree)
    → IsCommand (Reserve part tree) → reserve_command d ≡ Some (Reserve part tree)
read_reserve d part tree p q h = rw (name_there (codes "part") d part p h.0, text_there (codes "tree") d tree q) refl

-- the first cuts, and whether the next one went wrong
read_first : (d : Data) (cuts : ℕ) (lost : Bool) → get (codes "cuts") d ≡ Some (number (unsigned cuts)) → get (codes "lost") d ≡ Some (boolean lost) → IsNumber cuts
    → option_or (first_cuts d) (listed_cuts d) ≡ Some (First cuts lost)
read_first d cuts lost p q h = rw (number_there (codes "cuts") d cuts p h, flag_there (codes "lost") d lost q) refl

-- listed cuts are no number of cuts
read_listed : (d : Data) (cuts : List ℕ) (lost : Option ℕ) → get (codes "cuts") d ≡ Some (list_data cuts) → lost_cut (codes "lost") d ≡ Some lost → All IsNumber cuts
    → option_or (first_cuts d) (listed_cuts d) ≡ Some (Listed cuts lost)
read_listed d cuts lost p q h =
    let none : number_at (codes "cuts") d ≡ None = ap (λ o. option_and_then small (option_and_then as_u64 (option_and_then as_number o))) p in
    rw (none, cuts_there (codes "cuts") d cuts p h, q) refl

none_wrong : (d : Data) → get (codes "lost") d ≡ Some (boolean false) → lost_cut (codes "lost") d ≡ Some None
none_wrong d p =
    let none : number_at (codes "lost") d ≡ None = ap (λ o. option_and_then small (option_and_then as_u64 (option_and_then as_number o))) p in
    rw (none, flag_there (codes "lost") d false p) refl

one_wrong : (d : Data) (cut : ℕ) → get (codes "lost") d ≡ Some (number (unsigned cut)) → IsNumber cut → lost_cut (codes "lost") d ≡ Some (Some cut)
one_wrong d cut p h = rw (number_there (codes "lost") d cut p h) refl

read_break : (d : Data) (job : ℕ) (halt : Halt) → get (codes "job") d ≡ Some (number (unsigned job)) → IsNumber job → option_or (first_cuts d) (listed_cuts d) ≡ Some halt
    → plain_break d ≡ Some (Break job halt None)
read_break d job halt p h is = rw (number_there (codes "job") d job p h, is) refl

read_saving : (d : Data) (job : ℕ) (halt : Halt) (rest : ℕ) → get (codes "job") d ≡ Some (number (unsigned job)) → IsNumber job → option_or (first_cuts d) (listed_cuts d) ≡ Some halt
    → get (codes "rest") d ≡ Some (number (unsigned rest)) → IsNumber rest → saving_break d ≡ Some (Break job halt (Some rest))
read_saving d job halt rest p h is q k = rw (number_there (codes "job") d job p h, is, number_there (codes "rest") d rest q k) refl

read_sent : (d : Data) (word : List ℕ) (terminal n : ℕ) (command : Command)
    → get (codes "ask") d ≡ None → get (codes "do") d ≡ Some (string word) → get (codes "terminal") d ≡ Some (number (unsigned terminal)) → get (codes "number") d ≡ Some (number (unsigned n))
    → IsNumber terminal → IsNumber n → command_of word d ≡ Some command → sent_of d ≡ Some (record { terminal = terminal; number = n; command = command })
read_sent d word terminal n command none p q r small_terminal small_number is =
    rw (none, text_there (codes "do") d word p, number_there (codes "terminal") d terminal q small_terminal, number_there (codes "number") d n r small_number, is) refl

read_lines : (d : Data) (order text : List ℕ) → get (codes "order") d ≡ Some (string order) → get (codes "text") d ≡ Some (string text)
    → IsCommand (Import order Csv text) → import_in Csv d ≡ Some (Import order Csv text)
read_lines d order text p q h = rw (code_there (codes "order") d order p h.0, text_there (codes "text") d text q) refl

read_problem : (d : Data) (material order text : List ℕ) → get (codes "material") d ≡ Some (string material) → get (codes "order") d ≡ Some (string order)
    → get (codes "text") d ≡ Some (string text) → IsCommand (Import order (Cgcut material) text) → problem_command d ≡ Some (Import order (Cgcut material) text)
read_problem d material order text p q r h =
    rw (code_there (codes "material") d material p h.1, code_there (codes "order") d order q h.0, text_there (codes "text") d text r) refl

read_import : (d : Data) (word : List ℕ) (command : Command) → get (codes "form") d ≡ Some (string word) → import_by word d ≡ Some command → import_command d ≡ Some command
read_import d word command p is = rw (text_there (codes "form") d word p) is

read_amend : (d : Data) (demand wanted : ℕ) → get (codes "demand") d ≡ Some (number (unsigned demand)) → get (codes "wanted") d ≡ Some (number (unsigned wanted))
    → IsCommand (Amend demand wanted) → amend_command d ≡ Some (Amend demand wanted)
read_amend d demand wanted p q h = rw (number_there (codes "demand") d demand p h.0, number_there (codes "wanted") d wanted q h.1) refl

read_note : (d : Data) (order : List ℕ) (due : ℕ) (text : List ℕ)
    → get (codes "order") d ≡ Some (string order) → get (codes "due") d ≡ Some (number (unsigned due)) → get (codes "text") d ≡ Some (string text)
    → IsCommand (Note order due text) → note_command d ≡ Some (Note order due text)
read_note d order due text p q r h = rw (code_there (codes "order") d order p h.0, number_there (codes "due") d due q h.1, text_there (codes "text") d text r) refl

read_extend : (d : Data) (order : List ℕ) (lines : List OrderLine)
    → get (codes "order") d ≡ Some (string order) → get (codes "lines") d ≡ Some (lines_data lines)
    → IsCommand (Extend order lines) → extend_command d ≡ Some (Extend order lines)
read_extend d order lines p q h = rw (code_there (codes "order") d order p h.0, lines_there (codes "lines") d lines q h.1) refl

sent_back_by : (terminal n : ℕ) (command : Command) → IsNumber terminal → IsNumber n → IsCommand command
    → sent_of (message_data (record { terminal = terminal; number = n; command = command })) ≡ Some (record { terminal = terminal; number = n; command = command })
sent_back_by terminal n (AddMaterial material kind kerf min_long min_short) p q h =
    let d = message_data (record { terminal = terminal; number = n; command = AddMaterial material kind kerf min_long min_short }) in
    read_sent d (codes "material") terminal n (AddMaterial material kind kerf min_long min_short) refl refl refl refl p q
    (read_material d material kind kerf min_long min_short refl refl refl refl refl h)
sent_back_by terminal n (Receive material batch w h count) p q c =
    let d = message_data (record { terminal = terminal; number = n; command = Receive material batch w h count }) in
    read_sent d (codes "receive") terminal n (Receive material batch w h count) refl refl refl refl p q
    (read_receive d material batch w h count refl refl refl refl refl c)
sent_back_by terminal n (AddOrder order lines) p q h =
    let d = message_data (record { terminal = terminal; number = n; command = AddOrder order lines }) in
    read_sent d (codes "order") terminal n (AddOrder order lines) refl refl refl refl p q (read_order d order lines refl refl h)
sent_back_by terminal n (Reserve part tree) p q h =
    let d = message_data (record { terminal = terminal; number = n; command = Reserve part tree }) in
    read_sent d (codes "reserve") terminal n (Reserve part tree) refl refl refl refl p q (read_reserve d part tree refl refl h)
sent_back_by terminal n (Done job) p q h =
    let d = message_data (record { terminal = terminal; number = n; command = Done job }) in
    read_sent d (codes "done") terminal n (Done job) refl refl refl refl p q (ap (option_map Done) (number_there (codes "job") d job refl h))
sent_back_by terminal n (Break job (First cuts lost) None) p q h =
    let d = message_data (record { terminal = terminal; number = n; command = Break job (First cuts lost) None }) in
    read_sent d (codes "break") terminal n (Break job (First cuts lost) None) refl refl refl refl p q
    (read_break d job (First cuts lost) refl h.0 (read_first d cuts lost refl refl h.1))
sent_back_by terminal n (Break job (First cuts lost) (Some rest)) p q h =
    let d = message_data (record { terminal = terminal; number = n; command = Break job (First cuts lost) (Some rest) }) in
    read_sent d (codes "break") terminal n (Break job (First cuts lost) (Some rest)) refl refl refl refl p q
    (read_saving d job (First cuts lost) rest refl h.0 (read_first d cuts lost refl refl h.1) refl h.2)
sent_back_by terminal n (Break job (Listed cuts None) None) p q h =
    let d = message_data (record { terminal = terminal; number = n; command = Break job (Listed cuts None) None }) in
    read_sent d (codes "break") terminal n (Break job (Listed cuts None) None) refl refl refl refl p q
    (read_break d job (Listed cuts None) refl h.0 (read_listed d cuts None refl (none_wrong d refl) h.1.0))
sent_back_by terminal n (Break job (Listed cuts None) (Some rest)) p q h =
    let d = message_data (record { terminal = terminal; number = n; command = Break job (Listed cuts None) (Some rest) }) in
    read_sent d (codes "break") terminal n (Break job (Listed cuts None) (Some rest)) refl refl refl refl p q
    (read_saving d job (Listed cuts None) rest refl h.0 (read_listed d cuts None refl (none_wrong d refl) h.1.0) refl h.2)
sent_back_by terminal n (Break job (Listed cuts (Some cut)) None) p q h =
    let d = message_data (record { terminal = terminal; number = n; command = Break job (Listed cuts (Some cut)) None }) in
    read_sent d (codes "break") terminal n (Break job (Listed cuts (Some cut)) None) refl refl refl refl p q
    (read_break d job (Listed cuts (Some cut)) refl h.0 (read_listed d cuts (Some cut) refl (one_wrong d cut refl h.1.1) h.1.0))
sent_back_by terminal n (Break job (Listed cuts (Some cut)) (Some rest)) p q h =
    let d = message_data (record { terminal = terminal; number = n; command = Break job (Listed cuts (Some cut)) (Some rest) }) in
    read_sent d (codes "break") terminal n (Break job (Listed cuts (Some cut)) (Some rest)) refl refl refl refl p q
    (read_saving d job (Listed cuts (Some cut)) rest refl h.0 (read_listed d cuts (Some cut) refl (one_wrong d cut refl h.1.1) h.1.0) refl h.2)
sent_back_by terminal n (Release job) p q h =
    let d = message_data (record { terminal = terminal; number = n; command = Release job }) in
    read_sent d (codes "release") terminal n (Release job) refl refl refl refl p q (ap (option_map Release) (number_there (codes "job") d job refl h))
sent_back_by terminal n (Scrap part) p q h =
    let d = message_data (record { terminal = terminal; number = n; command = Scrap part }) in
    read_sent d (codes "scrap") terminal n (Scrap part) refl refl refl refl p q (ap (option_map Scrap) (name_there (codes "part") d part refl h))
sent_back_by terminal n (GiveBack part) p q h =
    let d = message_data (record { terminal = terminal; number = n; command = GiveBack part }) in
    read_sent d (codes "return") terminal n (GiveBack part) refl refl refl refl p q (ap (option_map GiveBack) (name_there (codes "part") d part refl h))
sent_back_by terminal n (Import order Csv text) p q h =
    let d = message_data (record { terminal = terminal; number = n; command = Import order Csv text }) in
    read_sent d (codes "import") terminal n (Import order Csv text) refl refl refl refl p q
    (read_import d (codes "csv") (Import order Csv text) refl (read_lines d order text refl refl h))
sent_back_by terminal n (Import order (Cgcut material) text) p q h =
    let d = message_data (record { terminal = terminal; number = n; command = Import order (Cgcut material) text }) in
    read_sent d (codes "import") terminal n (Import order (Cgcut material) text) refl refl refl refl p q
    (read_import d (codes "cgcut") (Import order (Cgcut material) text) refl (read_problem d material order text refl refl refl h))
sent_back_by terminal n (Amend demand wanted) p q h =
    let d = message_data (record { terminal = terminal; number = n; command = Amend demand wanted }) in
    read_sent d (codes "amend") terminal n (Amend demand wanted) refl refl refl refl p q (read_amend d demand wanted refl refl h)
sent_back_by terminal n (Undo job) p q h =
    let d = message_data (record { terminal = terminal; number = n; command = Undo job }) in
    read_sent d (codes "undo") terminal n (Undo job) refl refl refl refl p q (ap (option_map Undo) (number_there (codes "job") d job refl h))
sent_back_by terminal n (Note order due text) p q h =
    let d = message_data (record { terminal = terminal; number = n; command = Note order due text }) in
    read_sent d (codes "note") terminal n (Note order due text) refl refl refl refl p q (read_note d order due text refl refl refl h)
sent_back_by terminal n (Extend order lines) p q h =
    let d = message_data (record { terminal = terminal; number = n; command = Extend order lines }) in
    read_sent d (codes "extend") terminal n (Extend order lines) refl refl refl refl p q (read_extend d order lines refl refl h)
sent_back_by terminal n (Begin job) p q h =
    let d = message_data (record { terminal = terminal; number = n; command = Begin job }) in
    read_sent d (codes "begin") terminal n (Begin job) refl refl refl refl p q (ap (option_map Begin) (number_there (codes "job") d job refl h))

pub sent_back : (message : Message) → IsMessage message → sent_of (message_data message) ≡ Some message
sent_back message h = sent_back_by message.terminal message.number message.command h.terminal h.number h.command

pub message_back : (message : Message) → IsMessage message → 1 ≤ message.terminal → has_few_cuts message.command ≡ true → message_of (message_data message) ≡ Some message
message_back message h from few =
    ap (option_and_then from_one) (sent_back message h) ∙ ap (λ (b : Bool). if b then Some message else None) (both_true (le-leb 1 message.terminal from) few)

read_receipt : (d : Data) (act count : ℕ) → get (codes "ok") d ≡ Some (string (codes "receive")) → get (codes "act") d ≡ Some (number (unsigned act)) → get (codes "count") d ≡ Some (number (unsigned count))
    → made_of (codes "receive") d ≡ Some (reply.Receive act count) → reply_of d ≡ Some (reply.Receive act count)
read_receipt d act count p q r is = rw (text_there (codes "ok") d (codes "receive") p) is

read_order_reply : (d : Data) (count first : ℕ) (order : List ℕ)
    → get (codes "count") d ≡ Some (number (unsigned count)) → get (codes "first") d ≡ Some (number (unsigned first)) → get (codes "order") d ≡ Some (string order)
    → IsMade (reply.AddOrder count first order) → order_made d ≡ Some (reply.AddOrder count first order)
read_order_reply d count first order p q r h =
    rw (number_there (codes "count") d count p h.0, number_there (codes "first") d first q h.1, code_there (codes "order") d order r h.2) refl

read_reserve_reply : (d : Data) (cuts job : ℕ)
    → get (codes "cuts") d ≡ Some (number (unsigned cuts)) → get (codes "job") d ≡ Some (number (unsigned job))
    → IsMade (reply.Reserve cuts job) → reserve_made d ≡ Some (reply.Reserve cuts job)
read_reserve_reply d cuts job p q h = rw (number_there (codes "cuts") d cuts p h.0, number_there (codes "job") d job q h.1) refl

read_ended : (d : Data) (job kerf pieces rack scrap : ℕ)
    → get (codes "job") d ≡ Some (number (unsigned job)) → get (codes "kerf") d ≡ Some (number (unsigned kerf)) → get (codes "pieces") d ≡ Some (number (unsigned pieces))
    → get (codes "rack") d ≡ Some (number (unsigned rack)) → get (codes "scrap") d ≡ Some (number (unsigned scrap))
    → IsNumber job → ended_cells d ≡ Some (job, kerf, pieces, rack, scrap)
read_ended d job kerf pieces rack scrap p q r s t h =
    rw (number_there (codes "job") d job p h, wide_there (codes "kerf") d kerf q, wide_there (codes "pieces") d pieces r, wide_there (codes "rack") d rack s, wide_there (codes "scrap") d scrap t) refl

read_extend_reply : (d : Data) (count first : ℕ) (order : List ℕ)
    → get (codes "count") d ≡ Some (number (unsigned count)) → get (codes "first") d ≡ Some (number (unsigned first)) → get (codes "order") d ≡ Some (string order)
    → IsMade (reply.Extend count first order) → extend_made d ≡ Some (reply.Extend count first order)
read_extend_reply d count first order p q r h =
    rw (number_there (codes "count") d count p h.0, number_there (codes "first") d first q h.1, code_there (codes "order") d order r h.2) refl

read_undo_reply : (d : Data) (job : ℕ) (part : Name) → get (codes "job") d ≡ Some (number (unsigned job)) → get (codes "part") d ≡ Some (string (name_text part))
    → IsMade (reply.Undo job part) → undo_made d ≡ Some (reply.Undo job part)
read_undo_reply d job part p q h = rw (number_there (codes "job") d job p h.0, name_there (codes "part") d part q h.1) refl

read_begin_reply : (d : Data) (before job : ℕ) → get (codes "before") d ≡ Some (number (unsigned before)) → get (codes "job") d ≡ Some (number (unsigned job))
    → IsMade (reply.Begin before job) → begin_made d ≡ Some (reply.Begin before job)
read_begin_reply d before job p q h = rw (number_there (codes "before") d before p h.0, number_there (codes "job") d job q h.1) refl

pub reply_back : (answer : Reply) → IsMade answer → reply_of (reply_data answer) ≡ Some answer
reply_back (reply.AddMaterial material) h =
    ap (option_map reply.AddMaterial) (code_there (codes "material") (reply_data (reply.AddMaterial material)) material refl h)
reply_back (reply.Receive act count) h =
    let d = reply_data (reply.Receive act count) in
    rw (number_there (codes "act") d act refl h.0, number_there (codes "count") d count refl h.1) refl
reply_back (reply.AddOrder count first order) h =
    read_order_reply (reply_data (reply.AddOrder count first order)) count first order refl refl refl h
reply_back (reply.Reserve cuts job) h = read_reserve_reply (reply_data (reply.Reserve cuts job)) cuts job refl refl h
reply_back (reply.Done job kerf pieces rack scrap) h =
    ap (option_map (λ (c : ℕ × ℕ × ℕ × ℕ × ℕ). reply.Done c.0 c.1 c.2 c.3 c.4)) (read_ended (reply_data (reply.Done job kerf pieces rack scrap)) job kerf pieces rack scrap refl refl refl refl refl h.0)
reply_back (reply.Break job kerf pieces rack scrap) h =
    ap (option_map (λ (c : ℕ × ℕ × ℕ × ℕ × ℕ). reply.Break c.0 c.1 c.2 c.3 c.4)) (read_ended (reply_data (reply.Break job kerf pieces rack scrap)) job kerf pieces rack scrap refl refl refl refl refl h.0)
reply_back (reply.Release job) h = ap (option_map reply.Release) (number_there (codes "job") (reply_data (reply.Release job)) job refl h)
reply_back (reply.Scrap part) h = ap (option_map reply.Scrap) (name_there (codes "part") (reply_data (reply.Scrap part)) part refl h)
reply_back (reply.GiveBack part) h = ap (option_map reply.GiveBack) (name_there (codes "part") (reply_data (reply.GiveBack part)) part refl h)
reply_back (reply.Import act count first order) h =
    let d = reply_data (reply.Import act count first order) in
    rw (number_there (codes "act") d act refl h.0, number_there (codes "count") d count refl h.1, number_there (codes "first") d first refl h.2, code_there (codes "order") d order refl h.3) refl
reply_back (reply.Amend demand wanted) h =
    let d = reply_data (reply.Amend demand wanted) in
    rw (number_there (codes "demand") d demand refl h.0, number_there (codes "wanted") d wanted refl h.1) refl
reply_back (reply.Undo job part) h = read_undo_reply (reply_data (reply.Undo job part)) job part refl refl h
reply_back (reply.Note order) h = ap (option_map reply.Note) (code_there (codes "order") (reply_data (reply.Note order)) order refl h)
reply_back (reply.Extend count first order) h =
    read_extend_reply (reply_data (reply.Extend count first order)) count first order refl refl refl h
reply_back (reply.Begin before job) h = read_begin_reply (reply_data (reply.Begin before job)) before job refl refl h
reply_back _ made = absurd made

-- ---- texts

-- an object with a list of objects last
shallow_last : (n : ℕ) → n ≤ 1 → suc (max 0 (max 0 (max (suc n) 0))) ≤ 127
shallow_last n h = let e : max 0 (max 0 (max (suc n) 0)) ≤ 126 = max-le (omega arith) (max-le (omega arith) (omega (arith, h))) in omega (arith, e)

pub message_text_read : (message : Message) → IsMessage message → read (json_texts.of_message message) ≡ Some (message_data message)
unfolding json_texts
message_text_read message h = read_readable (message_data message) (message_readable message h)

-- a reply is read back from its text
pub reply_read : (answer : Reply) → HasWideNumbers answer → read (compact_text (reply_data answer)) ≡ Some (reply_data answer)
reply_read (reply.Totals material received stock rack pieces kerf scrap returned) wide_ones =
    read-compact (reply_data (reply.Totals material received stock rack pieces kerf scrap returned)) (IsNumber-decimal kerf wide_ones.0, (tt, (tt, (IsNumber-decimal pieces wide_ones.1, (IsNumber-decimal rack wide_ones.2, (IsNumber-decimal received wide_ones.3, (IsNumber-decimal returned wide_ones.4, (IsNumber-decimal scrap wide_ones.5, (IsNumber-decimal stock wide_ones.6, tt))))))))) (omega arith) (rw (number_of-decimal kerf wide_ones.0, number_of-decimal pieces wide_ones.1, number_of-decimal rack wide_ones.2, number_of-decimal received wide_ones.3, number_of-decimal returned wide_ones.4, number_of-decimal scrap wide_ones.5, number_of-decimal stock wide_ones.6) refl)
reply_read (reply.Rack material parts) wide_ones =
    read-compact (reply_data (reply.Rack material parts)) (tt, (tt, (rack_numbers parts wide_ones, tt))) (shallow_last _ (rack_shallow parts)) (rw (rack_json parts wide_ones) refl)
reply_read (reply.Trace batch h of part root state w x y) wide_ones =
    read-compact (reply_data (reply.Trace batch h of part root state w x y)) (tt, (IsNumber-decimal h wide_ones.0, (IsNumber-decimal of wide_ones.1, (tt, (tt, (tt, (tt, (IsNumber-decimal w wide_ones.2, (IsNumber-decimal x wide_ones.3, (IsNumber-decimal y wide_ones.4, tt)))))))))) (omega arith) (rw (number_of-decimal h wide_ones.0, number_of-decimal of wide_ones.1, number_of-decimal w wide_ones.2, number_of-decimal x wide_ones.3, number_of-decimal y wide_ones.4) refl)
reply_read (reply.Demand demand line made material order reserved wanted) wide_ones =
    read-compact (reply_data (reply.Demand demand line made material order reserved wanted)) (IsNumber-decimal demand wide_ones.0, (IsNumber-decimal line wide_ones.1, (IsNumber-decimal made wide_ones.2, (tt, (tt, (tt, (IsNumber-decimal reserved wide_ones.3, (IsNumber-decimal wanted wide_ones.4, tt)))))))) (omega arith) (rw (number_of-decimal demand wide_ones.0, number_of-decimal line wide_ones.1, number_of-decimal made wide_ones.2, number_of-decimal reserved wide_ones.3, number_of-decimal wanted wide_ones.4) refl)
reply_read (reply.Plan ceiling dropped tree worth) wide_ones =
    read-compact (reply_data (reply.Plan ceiling dropped tree worth)) (IsNumber-decimal ceiling wide_ones.0, (IsNumber-decimal dropped wide_ones.1, (tt, (tt, (IsNumber-decimal worth wide_ones.2, tt))))) (omega arith) (rw (number_of-decimal ceiling wide_ones.0, number_of-decimal dropped wide_ones.1, number_of-decimal worth wide_ones.2) refl)
reply_read (reply.Bound best units) wide_ones =
    read-compact (reply_data (reply.Bound best units)) (IsNumber-decimal best wide_ones.0, (tt, (IsNumber-decimal units wide_ones.1, tt))) (omega arith) (rw (number_of-decimal best wide_ones.0, number_of-decimal units wide_ones.1) refl)
reply_read (reply.Materials materials) wide_ones =
    read-compact (reply_data (reply.Materials materials)) (materials_numbers materials wide_ones, (tt, tt)) (shallow_first_of_two _ (materials_shallow materials)) (rw (materials_json materials wide_ones) refl)
reply_read (reply.Parts material more parts) wide_ones =
    read-compact (reply_data (reply.Parts material more parts)) (tt, (tt, (tt, (parts_numbers parts wide_ones, tt)))) (shallow_fourth _ (parts_shallow parts)) (rw (parts_json parts wide_ones) refl)
reply_read (reply.Demands demands more) wide_ones =
    read-compact (reply_data (reply.Demands demands more)) (demands_numbers demands wide_ones, (tt, (tt, tt))) (shallow_first_of_three _ (demands_shallow demands)) (rw (demands_json demands wide_ones) refl)
reply_read (reply.Jobs jobs more) wide_ones =
    read-compact (reply_data (reply.Jobs jobs more)) (jobs_numbers jobs wide_ones, (tt, (tt, tt))) (shallow_first_of_three _ (jobs_shallow jobs)) (rw (jobs_json jobs wide_ones) refl)
reply_read (reply.Job begun cuts h job kerf material part state tree w) wide_ones =
    read-compact (reply_data (reply.Job begun cuts h job kerf material part state tree w)) (IsNumber-decimal begun wide_ones.0, (IsNumber-decimal cuts wide_ones.1, (IsNumber-decimal h wide_ones.2, (IsNumber-decimal job wide_ones.3, (IsNumber-decimal kerf wide_ones.4, (tt, (tt, (tt, (tt, (tt, (IsNumber-decimal w wide_ones.5, tt))))))))))) (omega arith) (rw (number_of-decimal begun wide_ones.0, number_of-decimal cuts wide_ones.1, number_of-decimal h wide_ones.2, number_of-decimal job wide_ones.3, number_of-decimal kerf wide_ones.4, number_of-decimal w wide_ones.5) refl)
reply_read (reply.Terminal last terminal) wide_ones =
    read-compact (reply_data (reply.Terminal last terminal)) (IsNumber-decimal last wide_ones.0, (tt, (IsNumber-decimal terminal wide_ones.1, tt))) (omega arith) (rw (number_of-decimal last wide_ones.0, number_of-decimal terminal wide_ones.1) refl)
reply_read (reply.Orders more orders) wide_ones =
    read-compact (reply_data (reply.Orders more orders)) (tt, (tt, (orders_numbers orders wide_ones, tt))) (shallow_last _ (orders_shallow orders)) (rw (orders_json orders wide_ones) refl)
reply_read (reply.Lines lines order) wide_ones =
    read-compact (reply_data (reply.Lines lines order)) (demands_numbers lines wide_ones, (tt, (tt, tt))) (shallow_first_of_three _ (demands_shallow lines)) (rw (demands_json lines wide_ones) refl)
reply_read (reply.Shop began entries last) wide_ones =
    read-compact (reply_data (reply.Shop began entries last)) (IsNumber-decimal began wide_ones.0, (IsNumber-decimal entries wide_ones.1, (IsNumber-decimal last wide_ones.2, (tt, tt)))) (omega arith) (rw (number_of-decimal began wide_ones.0, number_of-decimal entries wide_ones.1, number_of-decimal last wide_ones.2) refl)
reply_read (reply.History entries more) wide_ones =
    read-compact (reply_data (reply.History entries more)) (entries_numbers entries wide_ones, (tt, (tt, tt))) (entries_shallow _ (entries_deep entries wide_ones)) (rw (entries_json entries wide_ones) refl)
reply_read (reply.Story entries more) wide_ones =
    read-compact (reply_data (reply.Story entries more)) (entries_numbers entries wide_ones, (tt, (tt, tt))) (entries_shallow _ (entries_deep entries wide_ones)) (rw (entries_json entries wide_ones) refl)
reply_read (reply.Pieces more pieces) wide_ones =
    read-compact (reply_data (reply.Pieces more pieces)) (tt, (tt, (pieces_numbers pieces wide_ones, tt))) (shallow_last _ (pieces_shallow pieces)) (rw (pieces_json pieces wide_ones) refl)
reply_read (reply.Steps job kerf material part state steps) wide_ones =
    read-compact (reply_data (reply.Steps job kerf material part state steps)) (IsNumber-decimal job wide_ones.0, (IsNumber-decimal kerf wide_ones.1, (tt, (tt, (tt, (tt, (steps_numbers steps wide_ones.2, tt))))))) (shallow_seventh _ (steps_shallow steps)) (rw (number_of-decimal job wide_ones.0, number_of-decimal kerf wide_ones.1, steps_json steps wide_ones.2) refl)
reply_read (reply.Refused refusal) wide_ones =
    read-compact (reply_data (reply.Refused refusal)) (tt, (IsNumber-decimal (refusal_number refusal) wide_ones, tt)) (omega arith) (rw (number_of-decimal (refusal_number refusal) wide_ones) refl)
reply_read answer wide_ones = read_readable _ (made_readable answer wide_ones)

-- a reply that an accepted message can get is one
made_wide : (answer : Reply) → IsMade answer → HasWideNumbers answer
made_wide (reply.AddMaterial material) h = tt
made_wide (reply.Receive act count) h = (wide act h.0, wide count h.1)
made_wide (reply.AddOrder count first order) h = (wide count h.0, wide first h.1)
made_wide (reply.Reserve cuts job) h = (wide cuts h.0, wide job h.1)
made_wide (reply.Done job kerf pieces rack scrap) h = (wide job h.0, h.1, h.2, h.3, h.4)
made_wide (reply.Break job kerf pieces rack scrap) h = (wide job h.0, h.1, h.2, h.3, h.4)
made_wide (reply.Release job) h = wide job h
made_wide (reply.Scrap part) h = tt
made_wide (reply.GiveBack part) h = tt
made_wide (reply.Import act count first order) h = (wide act h.0, wide count h.1, wide first h.2)
made_wide (reply.Amend demand wanted) h = (wide demand h.0, wide wanted h.1)
made_wide (reply.Undo job part) h = wide job h.0
made_wide (reply.Note order) h = tt
made_wide (reply.Extend count first order) h = (wide count h.0, wide first h.1)
made_wide (reply.Begin before job) h = (wide before h.0, wide job h.1)
made_wide _ made = absurd made

pub reported_text_read : (answer : Reply) → HasWideNumbers answer → read (json_texts.of_reply answer) ≡ Some (reply_data answer)
unfolding json_texts
reported_text_read answer wide_ones = reply_read answer wide_ones

pub reply_text_read : (answer : Reply) → IsMade answer → read (json_texts.of_reply answer) ≡ Some (reply_data answer)
reply_text_read answer h = reported_text_read answer (made_wide answer h)

pub same_some : {A : Type 0} (a b : A) → Some a ≡ Some b → a ≡ b
same_some a b e = cc

pub one_message : (m n : Message) → IsMessage m → IsMessage n → json_texts.of_message m ≡ json_texts.of_message n → m ≡ n
unfolding json_texts
one_message m n p q same =
    let read_m = message_text_read m p in
    let data_same : message_data m ≡ message_data n = same_some _ _ (sym read_m ∙ ap read same ∙ message_text_read n q) in
    same_some m n (sym (sent_back m p) ∙ ap sent_of data_same ∙ sent_back n q)

pub one_reply : (a b : Reply) → IsMade a → IsMade b → json_texts.of_reply a ≡ json_texts.of_reply b → a ≡ b
unfolding json_texts
one_reply a b p q same =
    let data_same : reply_data a ≡ reply_data b = same_some _ _ (sym (reply_text_read a p) ∙ ap read same ∙ reply_text_read b q) in
    same_some a b (sym (reply_back a p) ∙ ap reply_of data_same ∙ reply_back b q)

-- ---- no value is both

some_under : {A B : Type 0} (f : A → Option B) (o : Option A) (b : B) → option_and_then f o ≡ Some b → (a : A) × (o ≡ Some a) × (f a ≡ Some b)
some_under f None b e = absurd (cc e)
some_under f (Some a) b e = (a, refl, e)

one_word : (done asked : Option Data) (w v : List ℕ)
    → (if is_some asked then None else option_and_then as_str done) ≡ Some w → (if is_some done then None else option_and_then as_str asked) ≡ Some v → ⊥
one_word None None w v p q = cc p
one_word (Some a) None w v p q = cc q
one_word None (Some b) w v p q = cc p
one_word (Some a) (Some b) w v p q = cc p

pub never_both : (d : Data) (message : Message) (query : Query) → message_of d ≡ Some message → query_of d ≡ Some query → ⊥
never_both d message query p q =
    let sent = some_under from_one (sent_of d) message p in
    let head = some_under _ (sent_head d) sent.0 sent.1 in
    let done = some_under _ _ head.0 head.1 in
    let asked = some_under (λ word. asked_of word d) _ query q in
    one_word (get (codes "do") d) (get (codes "ask") d) done.0 asked.0 done.1 asked.1
