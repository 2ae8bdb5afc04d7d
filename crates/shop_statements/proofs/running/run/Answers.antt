use Rattle.std.proofs.Common.{arith}
use Rattle.shop_statements.proofs.running.run.Goals as goal

pub returns-clause-ran : goal.returns-clause-ran
returns-clause-ran g c = record {
  earlier = λ clean. omega (arith, c.execute.ensures.survives.clean);
  on = λ clean inside. let ran = c.in_ok-execute.ensures.runs clean inside in (ran.1.was_open, ran.1.is_open, ran.1.mode);
}
