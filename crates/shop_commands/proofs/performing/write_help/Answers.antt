use Rattle.std.proofs.Common.{inr, subst}
use Rattle.shop_commands.specs.Performs.{ReportsFault}
use Rattle.shop_commands.specs.Sinks.{change_of}
use Rattle.shop_commands.proofs.performing.write_help.Goals as goal

pub returns-in-Err : goal.returns-in-Err
returns-in-Err g c =
    let err = change_of g.E.Sink c.args.errors.now c.report_fault.new.errors in
    let reported = subst (λ fault. ReportsFault fault err) c.in-Err.ensures.err.0 c.report_fault.ensures.reported in
    let prefix = c.write_text.ensures.prefix in
    inr (c.report_fault.ensures.status, (prefix.0, prefix.3), c.in-Err.ensures.err.1, reported)
