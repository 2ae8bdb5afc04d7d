use Rattle.std.proofs.Common.{subst, sym}
use Rattle.shop_files.specs.declared.limits.TheConstants.{MAX_TEXT_LEN}
use Rattle.shop_commands.specs.Sinks.{AddsPrefix, change_of}
use Rattle.shop_commands.proofs.OrderFiles.{unwritten}
use Rattle.shop_commands.proofs.orders.check_orders.Goals as goal

pub returns-clause-err : goal.returns-clause-err
returns-clause-err g c =
    let out = change_of g.W.Sink c.args.sink.now c.write_text.new.sink in
    let holds = g.R.Reads.holds c.args.rt.now in
    unwritten holds c.args.file.now _ c.args.reported _ _ out (subst (holds c.args.file.now MAX_TEXT_LEN) (sym c.deref.ensures.value) c.in_ok-bytes.ensures.ok) c.in_ok-line.ensures.ok
    (subst (AddsPrefix out) c.as_str.ensures.value c.write_text.ensures.prefix) c.write_text.result c.write_text.ensures.err
