-- Importing an order from a file.
use Rattle.std.specs.Prelude.{◌≡◌, ℕ, suc, List, [], ◌∷◌, Bool, false, if◌then◌else◌, not, length, Option, Some, None, IfSome, MatchOption}
use Rattle.std.specs.Option.{option_or}
use Rattle.cut_measure.specs.Measures.{Size, is_size}
use Rattle.shop_files.specs.declared.orders.OrderLine.{OrderLine}
use Rattle.shop_files.specs.declared.problems.Piece.{Piece}
use Rattle.shop_files.specs.Orders.{IsOrders}
use Rattle.shop_files.specs.Problems.{IsProblem}
use Rattle.shop_records.specs.declared.records.Material.{Material}
use Rattle.shop_records.specs.declared.records.Totals.{Totals}
use Rattle.shop_records.specs.declared.imports.Form.{Form}
use Rattle.shop_records.specs.declared.imports.Form.TheVariants.{Csv, Cgcut}
use Rattle.shop_records.specs.declared.imports.ImportRow.{ImportRow}
use Rattle.shop_records.specs.declared.changes.Change.{Change}
use Rattle.shop_records.specs.declared.messages.Reply.{Reply}
use Rattle.shop_records.specs.declared.messages.Reply.TheVariants as reply
use Rattle.shop_records.specs.declared.refusals.Refusal.{Refusal}
use Rattle.shop_records.specs.declared.refusals.Refusal.TheVariants.{NoMaterial, BadSize, OrderExists, BadText, StoreFault}
use Rattle.shop_records.specs.Messages.{Texts}
use Rattle.shop_records.specs.Readings.{Reading, unread, Lines, Problem, Again}
use Rattle.shop_records.specs.Keeping.{StoresReply}
use Rattle.shop_machine.specs.Decisions.{first_of, no_change}
use Rattle.shop_machine.specs.Ordering.{lines_refusal, order_refusal, order_change}
use Rattle.shop_machine.specs.Receiving.{receive_refusal, receive_change}

-- ---- what a text stands for

-- the kept import is of this form, material and text
abbrev pub IsRepeat : Form → List ℕ → ImportRow → Type 0
IsRepeat form text row = (row.form ≡ form) × (row.text ≡ text)

-- a text of this form spells the lines of an order file, or a problem, or nothing
abbrev pub Spells : Form → List ℕ → Reading → Type 0
Spells Csv text (Lines lines) = IsOrders text lines
Spells Csv text unread = (lines : List OrderLine) → IsOrders text lines → ⊥
Spells (Cgcut material) text (Problem size pieces) = IsProblem text size pieces
Spells (Cgcut material) text unread = (size : Size) (pieces : List Piece) → IsProblem text size pieces → ⊥
Spells form text _ = ⊥

-- what an import stands for, from the row that is kept of its order: the same again, or what its text spells
abbrev pub IsImportReading : Texts → Option ImportRow → Form → List ℕ → Reading → Type 0
IsImportReading texts found form text (Again answer) = MatchOption found ⊥ (λ row. IsRepeat form text row × StoresReply texts row answer)
IsImportReading texts found form text read = IfSome found (λ row. IsRepeat form text row → ⊥) × Spells form text read

-- ---- a problem as an order

-- the line of a piece: it isn't turned
abbrev pub piece_line : List ℕ → ℕ → Piece → OrderLine
piece_line material number p =
    record { line = number; material = material; w = p.w; h = p.h; turn = false; count = p.most; worth = p.worth }

abbrev pub lines_from : List ℕ → ℕ → List Piece → List OrderLine
lines_from material number [] = []
lines_from material number (p ∷ pieces) = piece_line material number p ∷ lines_from material (suc number) pieces

-- the pieces of a problem as the lines of an order, from line 1 on
abbrev pub problem_lines : List ℕ → List Piece → List OrderLine
problem_lines material pieces = lines_from material 1 pieces

-- ---- refusals

-- of a text that spells nothing
abbrev pub unread_refusal : Bool → Refusal
unread_refusal used = if used then OrderExists else BadText

-- the material is known, and the rectangle is one of its sizes
abbrev pub unit_refusal : Option Material → Size → Option Refusal
unit_refusal None size = Some NoMaterial
unit_refusal (Some m) size = first_of ((not (is_size m.kind size.w size.h), BadSize) ∷ [])

-- of a problem: its rectangle is judged as a receipt of one unit, and its lines as an order
abbrev pub problem_refusal : Bool → (List ℕ → Option Material) → Option Material → Totals → (act first : ℕ) → Size → List OrderLine → Option Refusal
problem_refusal used at known totals act first size lines =
    option_or (first_of ((used, OrderExists) ∷ []))
    (option_or (unit_refusal known size)
    (option_or (lines_refusal at 0 lines)
    (option_or (receive_refusal known totals act size.w size.h 1) (order_refusal used at lines first))))

-- the same again is refused only where the row that is kept of it stores no reply
abbrev pub again_refusal : Option Reply → Option Refusal
again_refusal None = Some StoreFault
again_refusal (Some answer) = None

-- of an import: whether its order's code is used, where materials and their totals are found, and the next numbers
abbrev pub import_refusal : Bool → (List ℕ → Option Material) → (List ℕ → Totals) → (act first : ℕ) → Form → Reading → Option Refusal
import_refusal used at totals act first form (Again answer) = again_refusal answer
import_refusal used at totals act first form (Lines lines) = order_refusal used at lines first
import_refusal used at totals act first (Cgcut material) (Problem size pieces) =
    problem_refusal used at (at material) (totals material) act first size (problem_lines material pieces)
import_refusal used at totals act first form _ = Some (unread_refusal used)

-- ---- changes

-- what is kept of an import, before the text of its reply is known
abbrev pub import_row : List ℕ → Form → List ℕ → ImportRow
import_row order form text = record { order = order; form = form; text = text; reply = [] }

-- an order file makes an order
abbrev pub lines_change : List ℕ → List ℕ → List OrderLine → ℕ → Change
lines_change order text lines first =
    record (order_change order lines first) {
      import = Some (import_row order Csv text);
      reply = reply.Import 0 (length lines) first order;
    }

-- a problem makes an order, and receives a unit of its rectangle, the order's code being its batch
abbrev pub problem_change : List ℕ → List ℕ → List ℕ → Size → List OrderLine → Totals → (act first : ℕ) → Change
problem_change order material text size lines totals act first =
    let receipt : Change = receive_change material order size act 1 totals in
    record (order_change order lines first) {
      parts = receipt.parts;
      totals = receipt.totals;
      act = receipt.act;
      import = Some (import_row order (Cgcut material) text);
      reply = reply.Import act (length lines) first order;
    }

-- what an import changes, what its text stands for being read; the same again changes nothing
abbrev pub ImportMakes : List ℕ → Form → List ℕ → (List ℕ → Totals) → (act first : ℕ) → Reading → Change → Type 0
ImportMakes order form text totals act first (Again answer) change = MatchOption answer ⊥ (λ earlier. change ≡ no_change earlier)
ImportMakes order Csv text totals act first (Lines lines) change = change ≡ lines_change order text lines first
ImportMakes order (Cgcut material) text totals act first (Problem size pieces) change =
    change ≡ problem_change order material text size (problem_lines material pieces) (totals material) act first
ImportMakes order form text totals act first _ change = ⊥
