use Rattle.std.proofs.Common.{◌≡◌, false}
use Rattle.sqlite.specs.Values.{bound}
use Rattle.shop_tables.proofs.Going.{Going}
use Rattle.shop_tables.proofs.visiting.visit_rows.Given as goal

abbrev pub invariant-rows : goal.invariant-rows
invariant-rows g l =
    (l.rows.conn.ghost_name ≡ l.initial.rows.conn.ghost_name) × (l.fn.conn.in_transaction ≡ false → l.rows.conn.now.in_transaction ≡ false)
    × Going g.S.Store g.V.PartVisitor.looks l.sql (bound l.params) l.fn.conn l.fn.visitor l.rows.conn.now l.visitor
