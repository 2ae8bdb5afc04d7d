use Rattle.std.proofs.Common.{rules, inr, subst}
use Rattle.std.specs.Prelude.{◌≡◌, ◌++◌, IfOk, IfSome, codes, string_bytes}
use Rattle.std.proofs.lemmas.Result.{IfOk-weaker}
use Rattle.shop_times.specs.Times.{IsTimeText}
use Rattle.shop_commands.proofs.restoring.until_line.Goals as goal

pub returns-in-Some : goal.returns-in-Some
returns-in-Some c =
    let reported : IsTimeText c.args.last_time c.in-Some.text = subst (λ o. IfSome o (IsTimeText c.args.last_time)) c.in-Some.is c.in_ok-text.ensures in
    let written : IfOk c.format.result (λ line. string_bytes line ≡ codes "until " ++ string_bytes c.in-Some.text ++ codes "\n") = search rules in
    IfOk-weaker c.format.result _ _ (λ line is. inr (c.if-last_time-eq0.false, (c.in-Some.text, reported, is))) written
