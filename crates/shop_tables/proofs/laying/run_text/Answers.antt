use Rattle.std.proofs.Common.{inl, inr}
use Rattle.std.proofs.lemmas.Bool.{cases_Bool}
use Rattle.sqlite.specs.Held.{state}
use Rattle.shop_tables.proofs.laying.run_text.Goals as goal

pub returns-clause-run : goal.returns-clause-run
returns-clause-run g c clean = elim (cases_Bool (state g.S.Store c.args.tx.now.conn.now).in_transaction) [
  | inl inside ↦
      let ran = c.in_ok-execute.ensures.runs clean inside in record { count = _; executes = ran.0; was_open = ran.1.was_open; is_open = ran.1.is_open; inside = ran.1.mode }
  | inr out ↦ absurd (let e = (c.in_ok-execute.ensures.ended out).0 in cc)
]
