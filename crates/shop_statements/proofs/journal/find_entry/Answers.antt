use Rattle.std.proofs.Common.{refl}
use Rattle.shop_records.specs.Content.{entry_at}
use Rattle.shop_statements.specs.Found.{columns_of}
use Rattle.shop_statements.proofs.EntryValues.{found_entry, no_entry}
use Rattle.shop_statements.proofs.journal.find_entry.Goals as goal

pub returns-in_default-clause-row : goal.returns-in_default-clause-row
returns-in_default-clause-row g c clean b was = no_entry c.args.number (entry_at b.content c.args.number) (rw c.in_default.is at (c.in_ok-row.ensures.row clean b was))

pub returns-clause-row : goal.returns-clause-row
returns-clause-row g c clean b was =
    found_entry c.args.number (entry_at b.content c.args.number) c.in-Some.row c.in_ok-entry.entry (columns_of 9 0) (rw c.in-Some.is at (c.in_ok-row.ensures.row clean b was)) (λ y. refl) c.in_ok-entry.ensures.exact c.in_ok-entry.ensures.number c.in_ok-entry.ensures.value
