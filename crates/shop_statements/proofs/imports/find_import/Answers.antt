use Rattle.std.proofs.Common.{◌≡◌, refl, [], ◌∷◌}
use Rattle.shop_records.specs.Content.{import_at}
use Rattle.shop_records.specs.declared.imports.ImportRow.{ImportRow}
use Rattle.shop_statements.specs.Rows.{import_columns}
use Rattle.shop_statements.proofs.Reading.{read_as, none_as}
use Rattle.shop_statements.proofs.UnderKeys.{read_under}
use Rattle.sqlite.specs.Held.{state}
use Rattle.sqlite_value.specs.declared.value.Value.TheVariants.{Text}
use Rattle.shop_statements.proofs.imports.find_import.Goals as goal

pub returns-in_default-clause-row : goal.returns-in_default-clause-row
returns-in_default-clause-row g c clean b was = none_as (λ (row : ImportRow). row.order ≡ c.args.order) import_columns (import_at b.content c.args.order) (rw c.in_default.is at (c.in_ok-row.ensures.row clean b was))

pub returns-clause-row : goal.returns-clause-row
returns-clause-row g c clean b was =
    read_as (λ (row : ImportRow). row.order ≡ c.args.order) import_columns (import_at b.content c.args.order) c.in-Some.row c.in_ok-import.import (rw c.in-Some.is at (c.in_ok-row.ensures.row clean b was))
    c.in_ok-import.ensures.row

pub returns-in_default-clause-stands : goal.returns-in_default-clause-stands
returns-in_default-clause-stands g c clean h = rw c.in_default.is at (c.in_ok-row.ensures.stands clean h)

pub returns-clause-stands : goal.returns-clause-stands
returns-clause-stands g c clean h =
    read_under ((state g.S.Store c.args.conn.now).now.trees 13) 1 (Text c.args.order ∷ []) 4 2 c.in-Some.row (import_columns c.in_ok-import.import) (rw c.in-Some.is at (c.in_ok-row.ensures.stands clean h)) (λ r. refl) c.in_ok-import.ensures.exact
