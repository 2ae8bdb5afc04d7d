use Rattle.std.proofs.Common.{inl, inr, refl, subst, ◌∙◌}
use Rattle.shop_commands.specs.Performs.{ReportsFault}
use Rattle.shop_commands.specs.Sinks.{change_of, AddsPrefix}
use Rattle.shop_commands.proofs.performing.write_version.Goals as goal

pub returns : goal.returns
returns g c =
    let out = change_of g.W.Sink c.args.sink.now c.write_text.new.sink in
    let err = change_of g.E.Sink c.args.errors.now c.report_fault-in-Err.new.errors in
    let prefix = subst (λ text. AddsPrefix out text) (c.as_str.ensures.value ∙ c.in-Ok.ensures) c.write_text.ensures.prefix in
    let reported = subst (λ fault. ReportsFault fault err) c.in-Err.ensures.err.0 c.report_fault-in-Err.ensures.reported in
    inr (inl (refl, inr (c.report_fault-in-Err.ensures.status, prefix, c.in-Err.ensures.err.1, reported)))
