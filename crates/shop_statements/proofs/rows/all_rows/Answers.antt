use Rattle.std.proofs.Common.{arith}
use Rattle.sqlite.specs.Held.{state}
use Rattle.shop_statements.proofs.Kept.{query_as_was, query_keeps, query_survives}
use Rattle.shop_statements.proofs.rows.all_rows.Goals as goal

pub returns-in_err-rows-clause-leaves : goal.returns-in_err-rows-clause-leaves
returns-in_err-rows-clause-leaves g c is = record {
  stays = λ b was. query_keeps c.args.sql.now _ (state g.S.Store c.args.conn.now) (state g.S.Store c.query_all.new.self) b c.query_all.result is (λ clean. omega (arith, c.query_all.ensures.survives.clean)) c.query_all.ensures.ok c.query_all.ensures.err was;
  as_was = query_as_was c.args.sql.now _ (state g.S.Store c.args.conn.now) (state g.S.Store c.query_all.new.self) c.query_all.result is c.query_all.ensures.ok c.query_all.ensures.err;
  survives = query_survives c.args.sql.now _ _ _ is c.query_all.ensures.survives;
}

pub returns-clause-leaves : goal.returns-clause-leaves
returns-clause-leaves g c is = record {
  stays = λ b was. query_keeps c.args.sql.now _ (state g.S.Store c.args.conn.now) (state g.S.Store c.query_all.new.self) b c.query_all.result is (λ clean. omega (arith, c.query_all.ensures.survives.clean)) c.query_all.ensures.ok c.query_all.ensures.err was;
  as_was = query_as_was c.args.sql.now _ (state g.S.Store c.args.conn.now) (state g.S.Store c.query_all.new.self) c.query_all.result is c.query_all.ensures.ok c.query_all.ensures.err;
  survives = query_survives c.args.sql.now _ _ _ is c.query_all.ensures.survives;
}
