use Rattle.std.proofs.Common.{◌∙◌, ℕ, ap, sym, subst}
use Rattle.std.specs.declared.alloc.Global.{Global}
use Rattle.std.specs.Prelude.{Vec}
use Rattle.shop_serve.specs.Times.{Copies}
use Rattle.shop_serve.proofs.answers.copied_answer.Goals as goal

pub returns-in-Ok : goal.returns-in-Ok
returns-in-Ok g c = (
  c.back_up-outcome.result,
  subst (λ t. Copies (g.K.ServerClock.times c.args.clock.now) t c.back_up-outcome.result) (sym c.note_want.ensures) c.back_up-outcome.ensures,
  ap (λ (v : Vec ℕ Global). v.items) c.into_bytes.ensures.value ∙ c.in-Ok.ensures,
)
