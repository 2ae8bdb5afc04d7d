use Rattle.std.proofs.Common.{◌≡◌, append-nil, refl, [], ◌∷◌, sym, ◌∙◌}
use Rattle.shop_records.specs.Content.{note_at}
use Rattle.shop_records.specs.declared.notes.OrderNote.{OrderNote}
use Rattle.shop_statements.specs.Rows.{note_columns}
use Rattle.shop_statements.proofs.Reading.{read_as, none_as}
use Rattle.shop_statements.proofs.UnderKeys.{read_under}
use Rattle.sqlite.specs.Held.{state}
use Rattle.sqlite_value.specs.declared.value.Value.TheVariants.{Text}
use Rattle.shop_statements.proofs.notes.find_note.Goals as goal

pub returns-in_default-clause-row : goal.returns-in_default-clause-row
returns-in_default-clause-row g c clean b was = none_as (λ (row : OrderNote). row.order ≡ c.args.order) note_columns (note_at b.content c.args.order) (rw c.in_default.is at (c.in_ok-row.ensures.row clean b was))

pub returns-clause-row : goal.returns-clause-row
returns-clause-row g c clean b was =
    read_as (λ (row : OrderNote). row.order ≡ c.args.order) note_columns (note_at b.content c.args.order) c.in-Some.row c.in_ok-note.note (rw c.in-Some.is at (c.in_ok-row.ensures.row clean b was))
    (λ y own is. c.in_ok-note.ensures.row y [] own (is ∙ sym (append-nil (note_columns y))))

pub returns-in_default-clause-stands : goal.returns-in_default-clause-stands
returns-in_default-clause-stands g c clean h = rw c.in_default.is at (c.in_ok-row.ensures.stands clean h)

pub returns-clause-stands : goal.returns-clause-stands
returns-clause-stands g c clean h =
    read_under ((state g.S.Store c.args.conn.now).now.trees 22) 1 (Text c.args.order ∷ []) 2 2 c.in-Some.row (note_columns c.in_ok-note.note) (rw c.in-Some.is at (c.in_ok-row.ensures.stands clean h)) (λ r. refl) c.in_ok-note.ensures.exact
