use Rattle.std.proofs.Common.{◌≡◌, ◌∙◌, [], ◌∷◌, List, ℕ, pos, refl, sym, ap}
use Rattle.sqlite.specs.Held.{state}
use Rattle.sqlite_value.specs.declared.value.Value.TheVariants.{Int, Text}
use Rattle.sqlite_value.specs.Order.{Row, column}
use Rattle.shop_records.specs.Content.{halt_at}
use Rattle.shop_records.specs.declared.records.JobHalt.{JobHalt}
use Rattle.shop_statements.specs.Halts.{IsOwnHalt, halt_text}
use Rattle.shop_statements.specs.Rows.{halt_columns}
use Rattle.shop_statements.proofs.Reading.{none_as, read_as}
use Rattle.shop_statements.proofs.UnderKeys.{read_under}
use Rattle.shop_statements.proofs.halts.find_halt.Goals as goal

same_text : (s t : List ℕ) → Text s ≡ Text t → s ≡ t
same_text s t h = cc

text_is : (row : Row) (text : List ℕ) (y : JobHalt) → column row 0 ≡ Text text → row ≡ halt_columns y → text ≡ halt_text y
text_is row text y read is = same_text text (halt_text y) (sym read ∙ ap (λ (r : Row). column r 0) is)

pub returns-in_default-clause-row : goal.returns-in_default-clause-row
returns-in_default-clause-row g c clean b was = none_as (IsOwnHalt c.args.job) halt_columns (halt_at b.content c.args.job) (rw c.in_default.is at (c.in_ok-row.ensures.row clean b was))

pub returns-clause-row : goal.returns-clause-row
returns-clause-row g c clean b was =
    read_as (IsOwnHalt c.args.job) halt_columns (halt_at b.content c.args.job) c.in-Some.row c.in_ok-halt.halt (rw c.in-Some.is at (c.in_ok-row.ensures.row clean b was))
    (λ y own is. c.in_ok-halt.ensures.halt y own.0 own.1 (c.as_str.ensures.value ∙ text_is c.in-Some.row c.in_ok-text.text y c.in_ok-text.ensures is))

pub returns-in_default-clause-stands : goal.returns-in_default-clause-stands
returns-in_default-clause-stands g c clean h = rw c.in_default.is at (c.in_ok-row.ensures.stands clean h)

pub returns-clause-stands : goal.returns-clause-stands
returns-clause-stands g c clean h =
    read_under ((state g.S.Store c.args.conn.now).now.trees 25) 0 (Int (pos c.args.job) ∷ []) 1 2 c.in-Some.row (halt_columns c.in_ok-halt.halt) (rw c.in-Some.is at (c.in_ok-row.ensures.stands clean h)) (λ r. refl)
    (ap (λ v. v ∷ []) (c.in_ok-text.ensures ∙ ap Text (sym c.as_str.ensures.value ∙ sym c.in_ok-halt.ensures.exact)))
