use Rattle.std.proofs.Common.{◌∙◌, ℕ, ap, subst}
use Rattle.std.specs.declared.alloc.Global.{Global}
use Rattle.std.specs.Prelude.{Vec}
use Rattle.shop_serve.specs.Times.{Reports}
use Rattle.shop_serve.proofs.searching.refuse.Goals as goal

pub returns-in-Ok-clause-answered : goal.returns-in-Ok-clause-answered
returns-in-Ok-clause-answered g c reported =
    record {
      answer = c.into_bytes.result;
      now = c.now.result;
      read = subst (λ t. Reports t (g.K.ServerClock.times c.now.new.self) c.now.result) c.note.ensures c.now.ensures;
      reported = ap (λ (v : Vec ℕ Global). v.items) c.into_bytes.ensures.value ∙ c.in-Ok.ensures;
      kept = c.put_answer.ensures;
    }
