use Rattle.std.proofs.Common.{subst, sym}
use Rattle.std.proofs.lemmas.Result.{IfOk-weaker}
use Rattle.shop_commands.specs.Restoring.{IsUntilLine}
use Rattle.shop_commands.proofs.restoring.reported_lines.Goals as goal

pub returns : goal.returns
returns c =
    let until = subst (IsUntilLine c.args.entries.last_time) (sym c.as_str.ensures.value) c.in_ok-until.ensures in
    IfOk-weaker c.restored_lines.result _ _ (λ text is. (c.args.entries.count, c.args.entries.last_time, c.as_str.result.now, until, is)) c.restored_lines.ensures
