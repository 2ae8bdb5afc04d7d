use Rattle.std.proofs.Common.{subst, sym}
use Rattle.shop_commands.specs.Sinks.{change_of}
use Rattle.shop_commands.specs.Restoring.{IsRestoredText}
use Rattle.shop_commands.proofs.Restored.{printed, unprinted}
use Rattle.shop_commands.proofs.restoring.restore.Goals as goal

pub returns-clause-ok : goal.returns-clause-ok
returns-clause-ok g c =
    let out = change_of g.W.Sink c.args.sink.now c.write_text.new.sink in
    printed c.args.store.now c.args.from.now _ out (subst (IsRestoredText c.args.store.now c.args.from.now) (sym c.as_str.ensures.value) c.in_ok-lines.ensures) c.write_text.result c.write_text.ensures.ok

pub returns-clause-err : goal.returns-clause-err
returns-clause-err g c =
    let out = change_of g.W.Sink c.args.sink.now c.write_text.new.sink in
    unprinted c.args.store.now c.args.from.now _ out (subst (IsRestoredText c.args.store.now c.args.from.now) (sym c.as_str.ensures.value) c.in_ok-lines.ensures) c.write_text.ensures.prefix c.write_text.result c.write_text.ensures.err
