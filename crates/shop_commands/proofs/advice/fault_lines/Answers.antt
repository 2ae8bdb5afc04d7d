use Rattle.std.proofs.Common.{◌∙◌, subst, sym}
use Rattle.std.specs.Prelude.{IfSome, string_bytes}
use Rattle.shop_commands.specs.Advice.{IsAdviceOf}
use Rattle.shop_commands.proofs.Advised.{advised}
use Rattle.shop_commands.proofs.advice.fault_lines.Goals as goal

pub returns-in-Some : goal.returns-in-Some
returns-in-Some c =
    let of = subst (λ found. IfSome found (IsAdviceOf c.args.fault)) c.in-Some.is c.requires in
    advised string_bytes c.args.fault c.in-Some.advice c.both_lines.result (sym c.is_order.ensures ∙ c.if-is_order.false) of c.both_lines.ensures
