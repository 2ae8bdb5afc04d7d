use Rattle.std.proofs.Common.{◌≡◌, false}
use Rattle.sqlite.specs.Held.{state}
use Rattle.shop_statements.specs.Shown.{Leaves}
use Rattle.shop_store.proofs.uses.list_uses.Given as goal

abbrev pub invariant-steps : goal.invariant-steps
invariant-steps g l =
    record {
      leaves : Leaves (state g.S.Store l.fn.conn) (state g.S.Store l.conn);
      mode : l.fn.conn.in_transaction ≡ false → l.conn.in_transaction ≡ false;
    }
