use Rattle.sqlite.specs.Held.{state}
use Rattle.shop_statements.proofs.Reading.{leaves_then}
use Rattle.shop_store.proofs.Checked.{leaves_itself}
use Rattle.shop_store.proofs.uses.list_uses.Goals as goal

pub steps-init : goal.steps-init
steps-init g c = record {
  leaves = leaves_itself (state g.S.Store c.args.conn.now);
  mode = λ out. out;
}

pub steps-preserved : goal.steps-preserved
steps-preserved g c = record {
  leaves = leaves_then _ _ _ c.steps.invariant.leaves c.step.ensures.leaves;
  mode = λ out. c.step.ensures.mode (c.steps.invariant.mode out);
}
