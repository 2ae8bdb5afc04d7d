use Rattle.std.proofs.Common.{refl, [], ◌∷◌, pos}
use Rattle.shop_records.specs.Content.{kept_at}
use Rattle.shop_records.specs.declared.texts.Kept.{Kept}
use Rattle.shop_statements.specs.Rows.{kept_columns}
use Rattle.shop_statements.proofs.Reading.{read_as, none_as}
use Rattle.shop_statements.proofs.UnderKeys.{read_under}
use Rattle.sqlite.specs.Held.{state}
use Rattle.sqlite_value.specs.declared.value.Value.TheVariants.{Int}
use Rattle.shop_statements.proofs.kept_messages.find_kept.Goals as goal

pub returns-in_default-clause-row : goal.returns-in_default-clause-row
returns-in_default-clause-row g c clean b was = none_as (λ (kept : Kept). Unit {0}) kept_columns (kept_at b.content c.args.message_id) (rw c.in_default.is at (c.in_ok-row.ensures.row clean b was))

pub returns-clause-row : goal.returns-clause-row
returns-clause-row g c clean b was =
    read_as (λ (kept : Kept). Unit {0}) kept_columns (kept_at b.content c.args.message_id) c.in-Some.row c.in_ok-kept.kept (rw c.in-Some.is at (c.in_ok-row.ensures.row clean b was))
    (λ y _. c.in_ok-kept.ensures.row y)

pub returns-in_default-clause-stands : goal.returns-in_default-clause-stands
returns-in_default-clause-stands g c clean h = rw c.in_default.is at (c.in_ok-row.ensures.stands clean h)

pub returns-clause-stands : goal.returns-clause-stands
returns-clause-stands g c clean h =
    read_under ((state g.S.Store c.args.conn.now).now.trees 11) 1 (Int (pos c.args.message_id.terminal) ∷ Int (pos c.args.message_id.number) ∷ []) 2 3 c.in-Some.row (kept_columns c.in_ok-kept.kept) (rw c.in-Some.is at (c.in_ok-row.ensures.stands clean h)) (λ r. refl) c.in_ok-kept.ensures.exact
