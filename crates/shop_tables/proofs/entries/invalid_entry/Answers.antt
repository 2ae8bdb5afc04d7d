use Rattle.sqlite.specs.Held.{state}
use Rattle.shop_statements.proofs.Reading.{leaves_itself, leaves_then}
use Rattle.shop_tables.proofs.entries.invalid_entry.Goals as goal

pub chunks-init : goal.chunks-init
chunks-init g c = record { leaves = leaves_itself (state g.S.Store c.args.conn.now); mode = λ out. out }

pub chunks-preserved : goal.chunks-preserved
chunks-preserved g c = record {
  leaves = leaves_then _ _ _ c.chunks.invariant.leaves c.invalid_row_from.ensures.leaves;
  mode = λ out. c.invalid_row_from.ensures.mode (c.chunks.invariant.mode out);
}

pub returns-in-Some-default-clause-none : goal.returns-in-Some-default-clause-none
returns-in-Some-default-clause-none g c clean b was =
    let none = c.in_ok-row.ensures.none clean b (c.chunks.invariant.leaves.stays b was) in
    absurd (let is = c.in-Some-default.is-0 in cc)
