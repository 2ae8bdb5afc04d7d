use Rattle.std.proofs.Common.{◌≡◌, ◌∙◌, ℕ, Some, inr, refl, sym, ap, subst, rules}
use Rattle.std.specs.declared.alloc.Global.{Global}
use Rattle.std.specs.Prelude.{Vec, IfSome, string_bytes}
use Rattle.shop_planning.specs.PlanTasks.{instance_in}
use Rattle.shop_serve.specs.declared.clients.Client.{Client}
use Rattle.shop_serve.specs.Making.{IsPlansAnswer, put_answer}
use Rattle.shop_serve.proofs.searching.step_search_once.Goals as goal

pub returns-in-Ok-None-clause-goes_on : goal.returns-in-Ok-None-clause-goes_on
returns-in-Ok-None-clause-goes_on g c done = (
  record {
    searching = c.in-Some.searching;
    next = record { task = c.advance.new.task; last = Some c.args.now; left = c.saturating_sub.result };
    asks = sym c.in-Some.ensures.value;
    same = c.advance.ensures.asks;
    last = refl;
    left = c.saturating_sub.ensures;
    fair = search rules;
    there = search rules;
    took = c.is_there.ensures.kept;
    kept = ap (λ t. record c.args.client.now { stream = c.is_there.new.stream; task = t }) c.replace.ensures.after;
  },
  refl,
)

pub returns-in-Ok-Some-clause-answered : goal.returns-in-Ok-Some-clause-answered
returns-in-Ok-Some-clause-answered g c done =
    let same = ap (λ (client : Client g.row.C.Denot). client.stream) c.put_answer.ensures in
    record {
      searching = c.in-Some.searching;
      asks = sym c.in-Some.ensures.value;
      answer = c.into_bytes.result;
      now = c.now.result;
      read = c.now.ensures;
      took = ap g.C.Connection.contents same ∙ c.is_there.ensures.kept;
      reported = subst (IsPlansAnswer (instance_in c.in-Some.searching.task)) (sym (ap (λ (v : Vec ℕ Global). v.items) c.into_bytes.ensures.value))
          (subst (λ answer. IsPlansAnswer (instance_in c.in-Some.searching.task) (string_bytes answer)) (sym c.in-Ok-Some.answer-is)
          (subst (λ o. IfSome o (λ answer. IsPlansAnswer (instance_in c.in-Some.searching.task) (string_bytes answer))) c.in-Ok-Some.field-0-is c.in-Ok-Some.ensures.reported));
      kept = subst (λ stream. c.put_answer.new.client ≡ put_answer (record c.args.client.now { stream = stream }) c.into_bytes.result c.now.result) (sym same) c.put_answer.ensures;
    }

pub returns-in-Err-clause-answered : goal.returns-in-Err-clause-answered
returns-in-Err-clause-answered g c done =
    let refused = c.refuse.ensures.answered done in
    let same = ap (λ (client : Client g.row.C.Denot). client.stream) refused.kept in
    record {
      searching = c.in-Some.searching;
      asks = sym c.in-Some.ensures.value;
      answer = refused.answer;
      now = refused.now;
      read = refused.read;
      took = ap g.C.Connection.contents same ∙ c.is_there.ensures.kept;
      reported = inr refused.reported;
      kept = subst (λ stream. c.refuse.new.client ≡ put_answer (record c.args.client.now { stream = stream }) refused.answer refused.now) (sym same) refused.kept;
    }
