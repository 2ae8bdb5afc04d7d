use Rattle.std.proofs.lemmas.Result.{IfOk-weaker}
use Rattle.shop_forms.specs.Forms.{json_texts}
use Rattle.shop_desk.proofs.Handling.{handled_untimed}
use Rattle.shop_desk.proofs.desk_calls.run.Goals as goal

pub returns-clause-handled : goal.returns-clause-handled
returns-clause-handled g c =
    IfOk-weaker c.run_at.result _ _ (λ replies handled. handled_untimed json_texts 0 g.B.Book c.args.book.now c.run_at.new.book c.args.messages.now replies.items handled) c.run_at.ensures.handled
