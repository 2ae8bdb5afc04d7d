use Rattle.std.proofs.Common.{◌∙◌, ap, map, refl, subst}
use Rattle.shop_planning.specs.Answers.{AreReportedMissing, reported_price}
use Rattle.shop_planning.specs.Entries.{AreReportedPlans}
use Rattle.shop_planning.specs.Rests.{IsLargestRest}
use Rattle.shop_planning.proofs.response.reported_reply.Goals as goal

pub returns : goal.returns
returns c =
    record {
      plan = c.args.plan.now;
      answers = c.requires;
      plans = subst (λ us. AreReportedPlans c.args.instance.now us c.in_ok-plans.plans.items) c.deref-4.ensures.value c.in_ok-plans.ensures;
      missing = subst (λ ws. AreReportedMissing ws c.args.plan.now.missing.items c.in_ok-missing.missing) c.deref.ensures.value
          (subst (λ ns. AreReportedMissing c.deref.result.now ns c.in_ok-missing.missing) c.deref-2.ensures.value c.in_ok-missing.ensures);
      prices = c.in_ok-prices.ensures ∙ ap (map reported_price) c.deref-3.ensures.value;
      cost = refl;
      bound = refl;
      proved = refl;
      rest = subst (λ us. IsLargestRest c.args.instance.now.limits us c.in_ok-rest.rest) c.deref-5.ensures.value c.in_ok-rest.ensures;
      short = refl;
      step = c.unwrap_or.ensures;
    }
