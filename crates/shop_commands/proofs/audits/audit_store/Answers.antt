use Rattle.std.proofs.Common.{inr}
use Rattle.std.proofs.lemmas.Result.{IfErr-weaker, on_ok_weaker}
use Rattle.shop_commands.proofs.audits.audit_store.Goals as goal

pub returns-clause-ok : goal.returns-clause-ok
returns-clause-ok g c = on_ok_weaker c.judge-judged.result (λ judged. (c.in_ok-book.book, c.judge-judged.new.book, c.in_ok-book.ensures.ok, judged)) c.judge-judged.ensures.ok

pub returns-clause-err : goal.returns-clause-err
returns-clause-err g c = IfErr-weaker c.judge-judged.result _ _ (λ f unjudged. inr unjudged) c.judge-judged.ensures.err
