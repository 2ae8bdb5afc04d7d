use Rattle.std.proofs.Common.{◌≡◌, false}
use Rattle.sqlite.specs.Held.{state}
use Rattle.shop_statements.specs.Shown.{Leaves}
use Rattle.shop_tables.proofs.entries.invalid_entry.Given as goal

abbrev pub invariant-chunks : goal.invariant-chunks
invariant-chunks g l =
    record {
      leaves : Leaves (state g.S.Store l.fn.conn) (state g.S.Store l.conn);
      mode : l.fn.conn.in_transaction ≡ false → l.conn.in_transaction ≡ false;
    }
