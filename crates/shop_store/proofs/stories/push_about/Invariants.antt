use Rattle.std.proofs.Common.{◌≡◌, ◌≤◌, ◌++◌, filter, length, take}
use Rattle.shop_records.specs.Lists.{is_about}
use Rattle.shop_book.specs.Ledgers.{content_in}
use Rattle.shop_store.proofs.stories.push_about.Given as goal

abbrev pub invariant-loop-entry : goal.invariant-loop-entry
invariant-loop-entry l = (l.rows ≡ l.fn.rows ++ filter (is_about (content_in l.fn.ledger) l.fn.about) (take l.entry-index l.entries)) × (length l.rows ≤ l.fn.most)
