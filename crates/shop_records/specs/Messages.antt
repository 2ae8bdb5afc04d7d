-- Messages: what holds of each, what they are known by, and how they are written down.
use Rattle.std.specs.Prelude.{ℕ, ◌<◌, ◌^◌, List, IsTrue, Bool, not, Option, Some, None, is_some, All, IfSome}
use Rattle.std.specs.Str.{is_utf8}
use Rattle.cut_measure.specs.Codes.{is_code}
use Rattle.cut_measure.specs.Names.{IsName}
use Rattle.shop_records.specs.declared.texts.MessageId.{MessageId}
use Rattle.cut_tree.specs.declared.halts.Halt.{Halt}
use Rattle.cut_tree.specs.declared.halts.Halt.TheVariants.{First, Listed}
use Rattle.shop_records.specs.declared.messages.Command.{Command}
use Rattle.shop_records.specs.declared.messages.Command.TheVariants.{AddMaterial, Receive, AddOrder, Reserve, Done, Break, Release, Scrap, GiveBack, Import, Amend, Undo, Note, Extend, Begin}
use Rattle.shop_records.specs.declared.imports.Form.{Form}
use Rattle.shop_records.specs.declared.imports.Form.TheVariants.{Csv, Cgcut}
use Rattle.shop_files.specs.declared.orders.OrderLine.{OrderLine}
use Rattle.shop_records.specs.declared.messages.Message.{Message}
use Rattle.shop_records.specs.declared.messages.Reply.{Reply}
use Rattle.shop_records.specs.declared.messages.Reply.TheVariants as reply
use Rattle.shop_records.specs.declared.refusals.Refusal.{Refusal}

-- a number of 32 bits
abbrev pub IsNumber : ℕ → Type 0
IsNumber n = n < 2 ^ 32

-- a number of 64 bits
abbrev pub IsWide : ℕ → Type 0
IsWide n = n < 2 ^ 64

-- what holds of every order line
pub record IsLine (l : OrderLine) : Type 0 where
  pub line : IsNumber l.line
  pub material : IsTrue (is_code l.material)
  pub w : IsNumber l.w
  pub h : IsNumber l.h
  pub count : IsNumber l.count
  pub worth : IsNumber l.worth

-- what holds of every halt
abbrev pub IsHalt : Halt → Type 0
IsHalt (First cuts lost) = IsNumber cuts
IsHalt (Listed cuts lost) = All IsNumber cuts × IfSome lost IsNumber

-- what holds of every form
abbrev pub IsForm : Form → Type 0
IsForm Csv = Unit {0}
IsForm (Cgcut material) = IsTrue (is_code material)

-- what holds of every command: its codes are codes, its texts are UTF-8, and its numbers have 32 bits
abbrev pub IsCommand : Command → Type 0
IsCommand (AddMaterial material kind kerf min_long min_short) =
    IsTrue (is_code material) × IsNumber kerf × IsNumber min_long × IsNumber min_short
IsCommand (Receive material batch w h count) =
    IsTrue (is_code material) × IsTrue (is_code batch) × IsNumber w × IsNumber h × IsNumber count
IsCommand (AddOrder order lines) = IsTrue (is_code order) × All IsLine lines
IsCommand (Reserve part tree) = IsName part × IsTrue (is_utf8 tree)
IsCommand (Done job) = IsNumber job
IsCommand (Break job halt rest) = IsNumber job × IsHalt halt × IfSome rest IsNumber
IsCommand (Release job) = IsNumber job
IsCommand (Scrap part) = IsName part
IsCommand (GiveBack part) = IsName part
IsCommand (Import order form text) = IsTrue (is_code order) × IsForm form × IsTrue (is_utf8 text)
IsCommand (Amend demand wanted) = IsNumber demand × IsNumber wanted
IsCommand (Undo job) = IsNumber job
IsCommand (Note order due text) = IsTrue (is_code order) × IsNumber due × IsTrue (is_utf8 text)
IsCommand (Extend order lines) = IsTrue (is_code order) × All IsLine lines
IsCommand (Begin job) = IsNumber job

-- what holds of every message
pub record IsMessage (message : Message) : Type 0 where
  pub terminal : IsNumber message.terminal
  pub number : IsNumber message.number
  pub command : IsCommand message.command

-- a reply that an accepted message can get
abbrev pub IsMade : Reply → Type 0
IsMade (reply.AddMaterial material) = IsTrue (is_code material)
IsMade (reply.Receive act count) = IsNumber act × IsNumber count
IsMade (reply.AddOrder count first order) = IsNumber count × IsNumber first × IsTrue (is_code order)
IsMade (reply.Reserve cuts job) = IsNumber cuts × IsNumber job
IsMade (reply.Done job kerf pieces rack scrap) = IsNumber job × IsWide kerf × IsWide pieces × IsWide rack × IsWide scrap
IsMade (reply.Break job kerf pieces rack scrap) = IsNumber job × IsWide kerf × IsWide pieces × IsWide rack × IsWide scrap
IsMade (reply.Release job) = IsNumber job
IsMade (reply.Scrap part) = IsName part
IsMade (reply.GiveBack part) = IsName part
IsMade (reply.Import act count first order) = IsNumber act × IsNumber count × IsNumber first × IsTrue (is_code order)
IsMade (reply.Amend demand wanted) = IsNumber demand × IsNumber wanted
IsMade (reply.Undo job part) = IsNumber job × IsName part
IsMade (reply.Note order) = IsTrue (is_code order)
IsMade (reply.Extend count first order) = IsNumber count × IsNumber first × IsTrue (is_code order)
IsMade (reply.Begin before job) = IsNumber before × IsNumber job
IsMade _ = ⊥

-- the refusal that a reply gives
abbrev pub refusal_in : Reply → Option Refusal
refusal_in (reply.Refused refusal) = Some refusal
refusal_in _ = None

abbrev pub is_accepted : Reply → Bool
is_accepted answer = not (is_some (refusal_in answer))

-- the terminal and the number of a message
abbrev pub message_id_of : Message → MessageId
message_id_of message = record { terminal = message.terminal; number = message.number }

-- How messages and replies are written down: a message's canonical text, and a reply's. The machine is the same for each.
pub record Texts : Type 0 where
  pub of_message : Message → List ℕ
  pub of_reply : Reply → List ℕ
