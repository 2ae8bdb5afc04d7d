use Rattle.std.specs.Prelude.{string_bytes}
use Rattle.shop_commands.proofs.PlannedFiles.{from_shop_fault}
use Rattle.shop_commands.proofs.plans.plan_good_lines.Goals as goal

pub returns-clause-err : goal.returns-clause-err
returns-clause-err g c =
    from_shop_fault (g.R.Reads.holds c.args.rt.now) string_bytes c.args.asked.now c.plan_from.result c.args.lines.now _ c.as_slice.result.now
    c.in_ok-entries.ensures.ok.0 c.as_slice.ensures c.plan_from.ensures.err
