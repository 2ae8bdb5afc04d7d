-- The program's command line, in the words of `clap`: its commands, and what they ask for.
use Rattle.std.specs.Prelude.{◌≡◌, ◌≤◌, ◌==◌, ℕ, List, ◌∷◌, [], Option, Some, None, codes, false, true, pos, ⊤, option_map, is_some, ◌||◌, ◌&&◌, not, ◌⊎◌, ◌↔◌, IsTrue, Bool, MatchOption, drop, find, length, map, nat_lt, slice_index, take, unwrap_or}
use Rattle.std.specs.Borrow.{Bor}
use Rattle.std.specs.Char.{is_ascii_alphanumeric}
use Rattle.std.specs.List.{list_all}
use Rattle.std.specs.Str.{bytes_eq}
use Rattle.std.specs.Str.Parse.{IsNumeral, digits_value, without_leading_plus}
use Rattle.clap.specs.Words.{App, Row, Rule, Text, app_of, new_app, new_rule, rule_of, with_rule, with_subcommand, all_of, first_of, one_of}
use Rattle.clap.specs.declared.builder.arg.Arg.{Arg}
use Rattle.clap.specs.declared.builder.command.Command.{Command}
use Rattle.clap.specs.declared.builder.command.Command.TheViews.{out-Command as fields_of}
use Rattle.clap.specs.Simple.{on_top}
use Rattle.clap.specs.declared.builder.action.ArgAction.TheVariants.{Append, Set, SetTrue}
use Rattle.clap.specs.declared.builder.value_parser.ValueParser.{ValueParser}
use Rattle.clap.specs.declared.builder.value_parser.ValueParser.TheVariants.{Signed}
use Rattle.cut_measure.specs.Codes.{code_of}
use Rattle.cut_measure.specs.declared.ranges.TheConstants.{MAX_KERF, MAX_NUMBERS}
use Rattle.shop_words.specs.declared.words.TheConstants.{MIN_STAGES, MAX_STEP_LENGTH, MAX_CALLS, MAX_STAGES, LAST_PORT, MAX_AFTER, MAX_CONNECTIONS, MAX_KEPT, MAX_NAMES, MAX_PAIR, MAX_SIZES}
use Rattle.shop_words.specs.declared.words.ImportAs.{ImportAs}
use Rattle.shop_words.specs.declared.words.OrderPlan.{OrderPlan}
use Rattle.shop_words.specs.declared.words.Serving.{Serving}
use Rattle.shop_words.specs.declared.words.Request.{Request}
use Rattle.shop_words.specs.declared.words.Request.TheVariants.{Replay, Plan, PlanOrder, PlanLines, Orders, Serve, Ticket, Yield, History, Audit, Restore}
use Rattle.shop_words.specs.declared.words.Word.{Word}
use Rattle.shop_words.specs.declared.words.Word.TheVariants as word
use Rattle.shop_words.specs.declared.words.Argument.{Argument}
use Rattle.shop_words.specs.declared.words.Argument.TheVariants as argument

-- a word or an option with one value
abbrev pub value_rule : Text → Rule
value_rule name = record (new_rule name) { action = Some Set }

-- an option with one value
abbrev pub option_rule : Text → Rule
option_rule name = record (value_rule name) { long = Some name; value_names = 1 }

-- one that is required, with a number
abbrev pub number_rule : Text → ValueParser → Rule
number_rule name range = record (option_rule name) { parser = Some range; required = true }

-- one that is required, with a path
abbrev pub path_rule : Text → Rule
path_rule name = record (option_rule name) { required = true }

-- a word that is required
abbrev pub word_rule : Text → Rule
word_rule name = record (value_rule name) { required = true }

-- an option that may be given several times
abbrev pub several_rule : Text → Rule
several_rule name = record (option_rule name) { action = Some Append }

-- the file that a command reads
abbrev pub file_rule : Rule
file_rule = word_rule (codes "FILE")

-- the shop file of a command that may do without one
abbrev pub known_shop_rule : Rule
known_shop_rule = option_rule (codes "shop")

abbrev pub plan_material_rule : Rule
plan_material_rule = option_rule (codes "material")

abbrev pub size_rule : Rule
size_rule = several_rule (codes "size")

abbrev pub host_rule : Rule
host_rule = several_rule (codes "host")

abbrev pub origin_rule : Rule
origin_rule = several_rule (codes "origin")

abbrev pub shop_rule : Rule
shop_rule = path_rule (codes "shop")

abbrev pub from_rule : Rule
from_rule = path_rule (codes "from")

abbrev pub store_rule : Rule
store_rule = path_rule (codes "store")

abbrev pub port_rule : Rule
port_rule = number_rule (codes "port") (Signed (pos 1) (pos 65535))

abbrev pub limit_rule : Rule
limit_rule = record (option_rule (codes "limit")) { parser = Some (Signed (pos 1) (pos 1000000)) }

abbrev pub page_rule : Rule
page_rule = option_rule (codes "page")

abbrev pub backup_rule : Rule
backup_rule = option_rule (codes "backup")

abbrev pub order_rule : Rule
order_rule = option_rule (codes "order")

abbrev pub terminal_rule : Rule
terminal_rule = record (option_rule (codes "terminal")) { parser = Some (Signed (pos 1) (pos 4294967295)) }

abbrev pub message_number_rule : Rule
message_number_rule = record (option_rule (codes "number")) { parser = Some (Signed (pos 0) (pos 4294967295)) }

abbrev pub job_rule : Rule
job_rule = record (word_rule (codes "JOB")) { parser = Some (Signed (pos 1) (pos 2147483647)) }

abbrev pub kerf_rule : Rule
kerf_rule = record (option_rule (codes "kerf")) { parser = Some (Signed (pos 0) (pos 200)) }

abbrev pub step_rule : Rule
step_rule = record (option_rule (codes "step")) { parser = Some (Signed (pos 0) (pos 200000)) }

-- a flag
abbrev pub flag_rule : Text → Rule
flag_rule name = record (new_rule name) { action = Some SetTrue; long = Some name }

abbrev pub whole_rule : Rule
whole_rule = flag_rule (codes "whole")

abbrev pub existing_rule : Rule
existing_rule = flag_rule (codes "existing")

abbrev pub read_only_rule : Rule
read_only_rule = flag_rule (codes "read-only")

abbrev pub keep_rule : Rule
keep_rule = record (option_rule (codes "keep")) { parser = Some (Signed (pos 1) (pos 10000)) }

abbrev pub after_rule : Rule
after_rule = record (option_rule (codes "after")) { parser = Some (Signed (pos 0) (pos 4294967295)) }

abbrev pub calls_rule : Rule
calls_rule = record (option_rule (codes "calls")) { parser = Some (Signed (pos 1) (pos 5000)) }

abbrev pub stages_rule : Rule
stages_rule = record (option_rule (codes "stages")) { parser = Some (Signed (pos 2) (pos 255)) }

-- a form to which each of these was added in turn
abbrev pub added_in_turn : {X : Type 0} → (App → X → App) → App → List X → App
added_in_turn add app [] = app
added_in_turn add app (x ∷ rest) = added_in_turn add (add app x) rest

-- a command of this name with arguments of these rules
abbrev pub app_with : Text → List Rule → App
app_with name rules = added_in_turn with_rule (new_app name) rules

-- `plan FILE [--kerf N] [--step N] [--whole] [--calls N] [--stages N] [--shop FILE] [--material CODE] [--size WxH]..`
abbrev pub plan_app : App
plan_app =
    app_with (codes "plan")
    (file_rule ∷ kerf_rule ∷ step_rule ∷ whole_rule ∷ calls_rule ∷ stages_rule ∷ known_shop_rule ∷ plan_material_rule ∷ size_rule ∷ [])

abbrev pub replay_app : App
replay_app = new_app (codes "replay")

-- `orders FILE [--shop FILE] [--order CODE] [--terminal N] [--number N]`
abbrev pub orders_app : App
orders_app = app_with (codes "orders") (file_rule ∷ known_shop_rule ∷ order_rule ∷ terminal_rule ∷ message_number_rule ∷ [])

-- `serve --port N --store FILE --shop FILE [--limit N] [--page FILE] [--backup FOLDER] [--existing] [--keep N] [--host NAME].. [--origin ORIGIN]..`
abbrev pub serve_app : App
serve_app =
    app_with (codes "serve")
    (port_rule ∷ store_rule ∷ shop_rule ∷ limit_rule ∷ page_rule ∷ backup_rule ∷ existing_rule ∷ keep_rule ∷ host_rule ∷ origin_rule ∷ [])

-- `ticket --store FILE JOB [--read-only]`
abbrev pub ticket_app : App
ticket_app = app_with (codes "ticket") (store_rule ∷ job_rule ∷ read_only_rule ∷ [])

-- `yield --store FILE MATERIAL [--read-only]`
abbrev pub yield_app : App
yield_app = app_with (codes "yield") (store_rule ∷ word_rule (codes "MATERIAL") ∷ read_only_rule ∷ [])

-- `history --store FILE [--after N] [--read-only]`
abbrev pub history_app : App
history_app = app_with (codes "history") (store_rule ∷ after_rule ∷ read_only_rule ∷ [])

-- `audit --store FILE [--read-only]`
abbrev pub audit_app : App
audit_app = app_with (codes "audit") (store_rule ∷ read_only_rule ∷ [])

-- `restore --store FILE --from FOLDER/N`
abbrev pub restore_app : App
restore_app = app_with (codes "restore") (store_rule ∷ from_rule ∷ [])

-- the program without its commands: one is required, and a version is reported
abbrev pub program_app : App
program_app = on_top (λ s. record s { subcommand_required = true; has_version = true }) (new_app (codes "cutshop"))

-- the rule of an argument
abbrev pub argument_rule : Argument → Rule
argument_rule argument.File = file_rule
argument_rule argument.Kerf = kerf_rule
argument_rule argument.Step = step_rule
argument_rule argument.Whole = whole_rule
argument_rule argument.Calls = calls_rule
argument_rule argument.Stages = stages_rule
argument_rule argument.PlanShop = known_shop_rule
argument_rule argument.PlanMaterial = plan_material_rule
argument_rule argument.Size = size_rule
argument_rule argument.OrderFile = file_rule
argument_rule argument.OrdersShop = known_shop_rule
argument_rule argument.Order = order_rule
argument_rule argument.Terminal = terminal_rule
argument_rule argument.Number = message_number_rule
argument_rule argument.Port = port_rule
argument_rule argument.Store = store_rule
argument_rule argument.Shop = shop_rule
argument_rule argument.Limit = limit_rule
argument_rule argument.Page = page_rule
argument_rule argument.Backup = backup_rule
argument_rule argument.Existing = existing_rule
argument_rule argument.Keep = keep_rule
argument_rule argument.Host = host_rule
argument_rule argument.Origin = origin_rule
argument_rule argument.Job = job_rule
argument_rule argument.Material = word_rule (codes "MATERIAL")
argument_rule argument.PrintedStore = store_rule
argument_rule argument.KeptStore = store_rule
argument_rule argument.ReplacedStore = store_rule
argument_rule argument.After = after_rule
argument_rule argument.ReadOnly = read_only_rule
argument_rule argument.From = from_rule

-- a command with an argument more
abbrev pub with_argument : App → Argument → App
with_argument app a = with_rule app (argument_rule a)

-- a command of this name with these arguments
abbrev pub command_app : Text → List Argument → App
command_app name arguments = added_in_turn with_argument (new_app name) arguments

-- the command of a word
abbrev pub word_app : Word → App
word_app word.Replay = replay_app
word_app word.Plan = plan_app
word_app word.Orders = orders_app
word_app word.Serve = serve_app
word_app word.Ticket = ticket_app
word_app word.Yield = yield_app
word_app word.History = history_app
word_app word.Audit = audit_app
word_app word.Restore = restore_app

-- a program with the command of a word more
abbrev pub with_word : App → Word → App
with_word app w = with_subcommand app (word_app w).top

-- one of the nine commands
abbrev pub shop_app : App
shop_app = added_in_turn with_word program_app (word.Replay ∷ word.Plan ∷ word.Orders ∷ word.Serve ∷ word.Ticket ∷ word.Yield ∷ word.History ∷ word.Audit ∷ word.Restore ∷ [])

-- an argument of this rule that isn't global
abbrev pub IsArg : Rule → Arg → Type 0
IsArg rule arg = (rule_of arg ≡ rule) × (arg.global ≡ false)

-- a command of this form, without global arguments
abbrev pub IsAppCommand : App → Command → Type 0
IsAppCommand app command = (app_of command ≡ app) × ((fields_of command).has_globals ≡ false)

-- the number that an option's value stands for
abbrev pub IsNumber : Option Text → ℕ → Type 0
IsNumber None n = ⊥
IsNumber (Some text) n = IsNumeral 10 (without_leading_plus text) × (digits_value 10 (without_leading_plus text) ≡ n)

-- the value under a name is a number in a range
abbrev pub HasNumber : Text → List Row → (least most n : ℕ) → Type 0
HasNumber name rows least most n = IsNumber (one_of name rows) n × (least ≤ n) × (n ≤ most)

-- the value under a name is a code
abbrev pub IsCode : Option Text → List ℕ → Type 0
IsCode None code = ⊥
IsCode (Some text) code = code_of text ≡ Some code

-- this is asked for, or nothing is
abbrev pub AsAsked : {X : Type 0} → Option X → (X → Type 0) → Type 0
AsAsked {X} found asked = MatchOption found ((x : X) → asked x → ⊥) asked

-- the value under a name is a number in a range, or there is none
abbrev pub MayHaveNumber : Text → List Row → (least most : ℕ) → Option ℕ → Type 0
MayHaveNumber name rows least most None = is_some (first_of name rows) ≡ false
MayHaveNumber name rows least most (Some n) = HasNumber name rows least most n

-- the flag of this name is there
abbrev pub HasFlag : Text → List Row → Type 0
HasFlag name rows = first_of name rows ≡ Some (codes "true")

-- the texts behind an option, one for each time that it is given
abbrev pub texts_under : Text → List Row → List Text
texts_under name rows = unwrap_or (all_of name rows) []

-- how often it is given
abbrev pub times_given : Text → List Row → ℕ
times_given name rows = length (texts_under name rows)

-- these are the texts behind an option
abbrev pub AreTexts : Text → List Row → List (Bor Text) → Type 0
AreTexts name rows texts = map (λ text. text.now) texts ≡ texts_under name rows

-- the flag of a whole plan is there
abbrev pub IsWhole : List Row → Type 0
IsWhole rows = HasFlag (codes "whole") rows

-- a plan of one rectangle has a step, and says nothing of the search or of stages
abbrev pub IsSingleAsked : Text → (kerf : ℕ) → List Row → Request → Type 0
IsSingleAsked path k rows (Plan file kerf step) =
    (file.now ≡ path) × (kerf ≡ k) × HasNumber (codes "step") rows 0 MAX_STEP_LENGTH step × (is_some (first_of (codes "calls") rows) ≡ false)
    × (is_some (first_of (codes "stages") rows) ≡ false)
IsSingleAsked path k rows _ = ⊥

-- one of all pieces may have each of them
abbrev pub IsWholeAsked : Text → (kerf : ℕ) → List Row → Request → Type 0
IsWholeAsked path k rows (PlanOrder file kerf step calls stages) =
    (file.now ≡ path) × (kerf ≡ k) × MayHaveNumber (codes "step") rows 0 MAX_STEP_LENGTH step × MayHaveNumber (codes "calls") rows 1 MAX_CALLS calls
    × MayHaveNumber (codes "stages") rows MIN_STAGES MAX_STAGES stages
IsWholeAsked path k rows _ = ⊥

-- the values of the words that plan a problem file: the file and the kerf, and what else is asked for with the flag, or without
abbrev pub IsProblemAsked : List Row → Request → Type 0
IsProblemAsked rows request =
    (path : Text) × (kerf : ℕ) × (first_of (codes "FILE") rows ≡ Some path) × HasNumber (codes "kerf") rows 0 MAX_KERF kerf
    × ((IsWhole rows × IsWholeAsked path kerf rows request) ⊎ ((IsWhole rows → ⊥) × IsSingleAsked path kerf rows request))

-- one of the options is there that only the plan of an order file has
abbrev pub names_stock : List Row → Bool
names_stock rows =
    is_some (first_of (codes "shop") rows) || is_some (first_of (codes "material") rows) || is_some (first_of (codes "size") rows)

-- kerf or step is there, which the plan of an order file hasn't
abbrev pub has_measures : List Row → Bool
has_measures rows = is_some (first_of (codes "kerf") rows) || is_some (first_of (codes "step") rows)

-- the values of the words that plan an order file: all that only such a plan has, with the flag, from 1 to 10 sizes
abbrev pub IsOrderPlan : List Row → OrderPlan → Type 0
IsOrderPlan rows plan =
    (first_of (codes "FILE") rows ≡ Some plan.file.now) × (first_of (codes "shop") rows ≡ Some plan.shop.now)
    × (first_of (codes "material") rows ≡ Some plan.material.now) × MayHaveNumber (codes "calls") rows 1 MAX_CALLS plan.calls
    × MayHaveNumber (codes "stages") rows MIN_STAGES MAX_STAGES plan.stages
    × IsWhole rows × (has_measures rows ≡ false) × (is_some (first_of (codes "size") rows) ≡ true)
    × (times_given (codes "size") rows ≤ MAX_SIZES) × AreTexts (codes "size") rows plan.sizes.items

abbrev pub IsLinesAsked : List Row → Request → Type 0
IsLinesAsked rows (PlanLines plan) = IsOrderPlan rows plan
IsLinesAsked rows _ = ⊥

-- a plan is one of an order file where its options are there, and else one of a problem file
abbrev pub IsPlanAsked : List Row → Request → Type 0
IsPlanAsked rows request =
    ((names_stock rows ≡ true) × IsLinesAsked rows request) ⊎ ((names_stock rows ≡ false) × IsProblemAsked rows request)

-- the values of the options that make a message of an order file
abbrev pub IsImportAs : List Row → ImportAs → Type 0
IsImportAs rows reported =
    IsCode (first_of (codes "order") rows) reported.order × HasNumber (codes "terminal") rows 1 MAX_PAIR reported.terminal
    × HasNumber (codes "number") rows 0 MAX_PAIR reported.number

-- one of these options is there
abbrev pub names_message : List Row → Bool
names_message rows =
    is_some (first_of (codes "order") rows) || is_some (first_of (codes "terminal") rows) || is_some (first_of (codes "number") rows)

-- the options come together, or not at all; a shop file may be there with either
abbrev pub IsOrdersAsked : List Row → Request → Type 0
IsOrdersAsked rows (Orders file shop None) =
    (first_of (codes "FILE") rows ≡ Some file.now) × (first_of (codes "shop") rows ≡ option_map (λ p. p.now) shop) × (names_message rows ≡ false)
IsOrdersAsked rows (Orders file shop (Some reported)) =
    (first_of (codes "FILE") rows ≡ Some file.now) × (first_of (codes "shop") rows ≡ option_map (λ p. p.now) shop) × IsImportAs rows reported
IsOrdersAsked rows _ = ⊥

-- as many connections as the option says; without it no number of them ends a page's serving, and else 1000000 are served
abbrev pub IsLimit : List Row → Option ℕ → Type 0
IsLimit rows None = (is_some (first_of (codes "limit") rows) ≡ false) × (is_some (first_of (codes "page") rows) ≡ true)
IsLimit rows (Some n) =
    HasNumber (codes "limit") rows 1 MAX_CONNECTIONS n
    ⊎ ((is_some (first_of (codes "limit") rows) ≡ false) × (is_some (first_of (codes "page") rows) ≡ false) × (n ≡ MAX_CONNECTIONS))

-- as many backups stay as the option says, where there is a folder for them
abbrev pub IsKeep : List Row → Option ℕ → Type 0
IsKeep rows None = is_some (first_of (codes "keep") rows) ≡ false
IsKeep rows (Some n) = HasNumber (codes "keep") rows 1 MAX_KEPT n × (is_some (first_of (codes "backup") rows) ≡ true)

-- a byte of a host or a port: a letter, a digit, or one of `-._:[]`
abbrev pub is_host_byte : ℕ → Bool
is_host_byte b = is_ascii_alphanumeric b || b == 45 || b == 46 || b == 95 || b == 58 || b == 91 || b == 93

-- a host, or one with a port: it begins with no colon
abbrev pub is_host : Text → Bool
is_host text = nat_lt 0 (length text) && (not (slice_index text 0 == 58) && list_all is_host_byte text)

-- a text that begins with this, and behind it is a host
abbrev pub is_host_behind : (scheme text : Text) → Bool
is_host_behind scheme text = bytes_eq (take (length scheme) text) scheme && is_host (drop (length scheme) text)

-- an origin: `http://` or `https://`, a host and maybe a port, and nothing behind it
abbrev pub is_origin : Text → Bool
is_origin text = is_host_behind (codes "http://") text || is_host_behind (codes "https://") text

-- the first of these that is none
abbrev pub bad_origin : List Text → Option Text
bad_origin texts = find (λ text. not (is_origin text)) texts

-- a server has at most ten names and ten origins, and each of these is one
abbrev pub HasGoodNames : List Row → Type 0
HasGoodNames rows =
    (times_given (codes "host") rows ≤ MAX_NAMES) × (times_given (codes "origin") rows ≤ MAX_NAMES)
    × (bad_origin (texts_under (codes "origin") rows) ≡ None)

abbrev pub IsServing : List Row → Serving → Type 0
IsServing rows s =
    HasNumber (codes "port") rows 1 LAST_PORT s.port × (first_of (codes "store") rows ≡ Some s.store.now)
    × (first_of (codes "shop") rows ≡ Some s.shop.now) × IsLimit rows s.limit
    × (first_of (codes "page") rows ≡ option_map (λ p. p.now) s.page)
    × (first_of (codes "backup") rows ≡ option_map (λ p. p.now) s.backup)
    × (IsTrue s.existing ↔ HasFlag (codes "existing") rows) × IsKeep rows s.keep × HasGoodNames rows
    × AreTexts (codes "host") rows s.hosts.items × AreTexts (codes "origin") rows s.origins.items

abbrev pub IsServeAsked : List Row → Request → Type 0
IsServeAsked rows (Serve serving) = IsServing rows serving
IsServeAsked rows _ = ⊥

abbrev pub IsTicketAsked : List Row → Request → Type 0
IsTicketAsked rows (Ticket store job read_only) =
    (first_of (codes "store") rows ≡ Some store.now) × HasNumber (codes "JOB") rows 1 MAX_NUMBERS job × (IsTrue read_only ↔ HasFlag (codes "read-only") rows)
IsTicketAsked rows _ = ⊥

abbrev pub IsYieldAsked : List Row → Request → Type 0
IsYieldAsked rows (Yield store material read_only) =
    (first_of (codes "store") rows ≡ Some store.now) × IsCode (first_of (codes "MATERIAL") rows) material × (IsTrue read_only ↔ HasFlag (codes "read-only") rows)
IsYieldAsked rows _ = ⊥

abbrev pub IsHistoryAsked : List Row → Request → Type 0
IsHistoryAsked rows (History store after read_only) =
    (first_of (codes "store") rows ≡ Some store.now) × MayHaveNumber (codes "after") rows 0 MAX_AFTER after
    × (IsTrue read_only ↔ HasFlag (codes "read-only") rows)
IsHistoryAsked rows _ = ⊥

abbrev pub IsAuditAsked : List Row → Request → Type 0
IsAuditAsked rows (Audit store read_only) =
    (first_of (codes "store") rows ≡ Some store.now) × (IsTrue read_only ↔ HasFlag (codes "read-only") rows)
IsAuditAsked rows _ = ⊥

abbrev pub IsRestoreAsked : List Row → Request → Type 0
IsRestoreAsked rows (Restore store from) = (first_of (codes "store") rows ≡ Some store.now) × (first_of (codes "from") rows ≡ Some from.now)
IsRestoreAsked rows _ = ⊥

-- the words of the commands
abbrev pub word_text : Word → Text
word_text word.Replay = codes "replay"
word_text word.Plan = codes "plan"
word_text word.Orders = codes "orders"
word_text word.Serve = codes "serve"
word_text word.Ticket = codes "ticket"
word_text word.Yield = codes "yield"
word_text word.History = codes "history"
word_text word.Audit = codes "audit"
word_text word.Restore = codes "restore"

-- a command with these values asks for this
abbrev pub IsAsked : Word → List Row → Request → Type 0
IsAsked word.Replay rows request = request ≡ Replay
IsAsked word.Plan rows request = IsPlanAsked rows request
IsAsked word.Orders rows request = IsOrdersAsked rows request
IsAsked word.Serve rows request = IsServeAsked rows request
IsAsked word.Ticket rows request = IsTicketAsked rows request
IsAsked word.Yield rows request = IsYieldAsked rows request
IsAsked word.History rows request = IsHistoryAsked rows request
IsAsked word.Audit rows request = IsAuditAsked rows request
IsAsked word.Restore rows request = IsRestoreAsked rows request

-- a limit of stages, if there is one, is in range
abbrev pub HasStages : Option ℕ → Type 0
HasStages None = ⊤
HasStages (Some n) = (MIN_STAGES ≤ n) × (n ≤ MAX_STAGES)

-- the kerf and the stages of a plan are in range
abbrev pub HasMeasures : Request → Type 0
HasMeasures (Plan file kerf step) = kerf ≤ MAX_KERF
HasMeasures (PlanOrder file kerf step calls stages) = (kerf ≤ MAX_KERF) × HasStages stages
HasMeasures (PlanLines plan) = HasStages plan.stages
HasMeasures _ = ⊤

-- the command that was read, with its values, asks for this
abbrev pub AsksFor : Option (Text × List Row) → Request → Type 0
AsksFor None request = ⊥
AsksFor (Some (name, rows)) request = (w : Word) × (name ≡ word_text w) × IsAsked w rows request

-- it asks for nothing
abbrev pub AsksNothing : Option (Text × List Row) → Type 0
AsksNothing found = (request : Request) → AsksFor found request → ⊥
