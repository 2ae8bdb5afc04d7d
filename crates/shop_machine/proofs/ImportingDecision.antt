-- What is decided on an import: a problem's pieces as lines, one after another, and the change.
use Rattle.std.proofs.Common.{◌≡◌, ℕ, suc, ◌+◌, ◌<◌, List, [], ◌∷◌, ◌++◌, length, take, get_or, Bool, false, sym, ap, subst, ◌∙◌, arith}
use Rattle.std.specs.Prelude.{Option, Some, None}
use Rattle.std.specs.Option.{option_or}
use Rattle.std.proofs.lemmas.List.{take_more, length-take-le}
use Rattle.cut_measure.specs.Measures.{Size}
use Rattle.shop_files.specs.declared.orders.OrderLine.{OrderLine}
use Rattle.shop_files.specs.declared.problems.Piece.{Piece}
use Rattle.shop_records.specs.declared.imports.Form.{Form}
use Rattle.shop_records.specs.declared.imports.ImportRow.{ImportRow}
use Rattle.shop_records.specs.declared.changes.Change.{Change}
use Rattle.shop_records.specs.declared.messages.Reply.TheVariants as reply
use Rattle.shop_records.specs.declared.refusals.Refusal.{Refusal}
use Rattle.shop_records.specs.declared.records.Material.{Material}
use Rattle.shop_records.specs.declared.records.Totals.{Totals}
use Rattle.shop_records.specs.declared.refusals.Refusal.TheVariants.{OrderExists}
use Rattle.shop_machine.specs.Decisions.{first_of}
use Rattle.shop_machine.specs.Receiving.{receive_refusal, receive_change}
use Rattle.shop_machine.specs.Importing.{piece_line, lines_from, problem_lines, import_row}

lines_from-push : (material : List ℕ) (first : ℕ) (pieces : List Piece) (piece : Piece)
    → lines_from material first (pieces ++ piece ∷ []) ≡ lines_from material first pieces ++ piece_line material (first + length pieces) piece ∷ []
lines_from-push material first [] piece = ap (λ n. piece_line material n piece ∷ []) (omega arith)
lines_from-push material first (p ∷ pieces) piece =
    ap (λ lines. piece_line material first p ∷ lines) (lines_from-push material (suc first) pieces piece
    ∙ ap (λ n. lines_from material (suc first) pieces ++ piece_line material n piece ∷ []) (omega arith))

lines_from_more : (material : List ℕ) (first : ℕ) (pieces : List Piece) (i : ℕ) (d : Piece) → i < length pieces
    → lines_from material first (take (i + 1) pieces) ≡ lines_from material first (take i pieces) ++ piece_line material (first + i) (get_or pieces i d) ∷ []
lines_from_more material first pieces i d within =
    ap (lines_from material first) (take_more pieces i d within) ∙ lines_from-push material first (take i pieces) (get_or pieces i d)
    ∙ ap (λ n. lines_from material first (take i pieces) ++ piece_line material (first + n) (get_or pieces i d) ∷ []) (length-take-le i pieces (omega arith))

pub line_pushed : (material : List ℕ) (pieces : List Piece) (i number : ℕ) (d : Piece) (line : OrderLine) → number ≡ i + 1 → i < length pieces
    → line ≡ piece_line material number (get_or pieces i d) → problem_lines material (take i pieces) ++ line ∷ [] ≡ problem_lines material (take (i + 1) pieces)
line_pushed material pieces i number d line counted within is =
    ap (λ l. problem_lines material (take i pieces) ++ l ∷ []) (is ∙ ap (λ n. piece_line material n (get_or pieces i d)) (counted ∙ swap))
    ∙ sym (lines_from_more material 1 pieces i d within)
  where
    swap : i + 1 ≡ 1 + i
    swap = omega arith

-- ---- the change of an import

pub none_both : (o p : Option Refusal) → o ≡ None → p ≡ None → option_or o p ≡ None
none_both o p e f = ap (λ x. option_or x p) e ∙ f

abbrev row_with : List ℕ → Form → List ℕ → List ℕ → ImportRow
row_with order form text reported = record { order = order; form = form; text = text; reply = reported }

abbrev pub as_import : Change → ImportRow → (act count first : ℕ) → List ℕ → Change
as_import change row act count first order = record change { import = Some row; reply = reply.Import act count first order }

pub imported_as : (change base : Change) (order text reported : List ℕ) (form : Form) (act count lines first : ℕ) → change ≡ base → reported ≡ [] → count ≡ lines
    → as_import change (row_with order form text reported) act count first order ≡ as_import base (import_row order form text) act lines first order
imported_as change base order text reported form act count lines first same none counted =
    ap (λ c. as_import c (row_with order form text reported) act count first order) same
    ∙ ap (λ t. as_import base (row_with order form text t) act count first order) none
    ∙ ap (λ n. as_import base (import_row order form text) act n first order) counted

-- the rows of a receipt beside those of an order
abbrev pub beside : Change → Change → Change
beside change receipt = record change { parts = receipt.parts; totals = receipt.totals; act = receipt.act }

pub both_as : (change order receipt unit : Change) → change ≡ order → receipt ≡ unit → beside change receipt ≡ beside order unit
both_as change order receipt unit e f = ap (λ c. beside c receipt) e ∙ ap (beside order) f

-- ---- a problem that isn't refused

pub unused : (used : Bool) → used ≡ false → first_of ((used, OrderExists) ∷ []) ≡ None
unused used e = ap (λ b. first_of ((b, OrderExists) ∷ [])) e

-- the receipt of a rectangle, by its sides
pub received_as : (known : Option Material) (totals : Totals) (act w h : ℕ) (size : Size) (material batch : List ℕ) (change : Change) → w ≡ size.w → h ≡ size.h
    → (receive_refusal known totals act w h 1 ≡ None) × (change ≡ receive_change material batch (record { w = w; h = h }) act 1 totals)
    → (receive_refusal known totals act size.w size.h 1 ≡ None) × (change ≡ receive_change material batch size act 1 totals)
received_as known totals act w h size material batch change e f made =
    subst (λ n. (receive_refusal known totals act size.w n 1 ≡ None) × (change ≡ receive_change material batch (record { w = size.w; h = n }) act 1 totals)) f
    (subst (λ n. (receive_refusal known totals act n h 1 ≡ None) × (change ≡ receive_change material batch (record { w = n; h = h }) act 1 totals)) e made)
