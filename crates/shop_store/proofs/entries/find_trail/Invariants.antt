use Rattle.std.proofs.Common.{◌≡◌, ℕ, false}
use Rattle.sqlite.specs.Held.{state}
use Rattle.shop_records.specs.Lists.{entries_behind}
use Rattle.shop_statements.specs.Shown.{Leaves, OnBooks}
use Rattle.shop_book.specs.Ends.{end_time}
use Rattle.shop_store.specs.Entries.{time_from, FiledTo}
use Rattle.shop_store.proofs.entries.find_trail.Given as goal

abbrev pub invariant-steps : goal.invariant-steps
invariant-steps g l =
    record {
      leaves : Leaves (state g.S.Store l.fn.conn) (state g.S.Store l.conn);
      mode : l.fn.conn.in_transaction ≡ false → l.conn.in_transaction ≡ false;
      found : OnBooks (state g.S.Store l.fn.conn) (state g.S.Store l.conn) (λ b. (job : ℕ) → end_time job (entries_behind b.content 0) ≡ time_from b.content l.ends l.at job);
      filed : OnBooks (state g.S.Store l.fn.conn) (state g.S.Store l.conn) (λ b. FiledTo b.content l.at l.index);
    }
