use Rattle.std.proofs.Common.{arith, subst}
use Rattle.cut_measure.specs.declared.sizes.Kind.TheVariants.{Sheet}
use Rattle.cut_plan.specs.Sheets.{IsSheetPlan}
use Rattle.cut_plan.proofs.Faultless as facts
use Rattle.cut_plan.proofs.SheetPlans.{whole_best}
use Rattle.cut_plan.proofs.laws.whole_plans_are_best.Goals as goal

pub returns-clause-ceiling : goal.returns-clause-ceiling
returns-clause-ceiling c = λ size k wants p faultless is none.
    let f = facts.faultless Sheet size k 1 wants faultless in
    let laid = subst (IsSheetPlan size k 1 wants p.plan.tree p.worth) none is.laid in
    whole_best size k wants p.plan.tree p.worth p.ceiling (facts.own _ Sheet wants f.in_range) laid is.ceiling

pub returns-clause-best : goal.returns-clause-best
returns-clause-best c = λ size k wants p faultless is none t legal.
    omega (arith, returns-clause-ceiling c size k wants p faultless is none, is.ceiling.most t legal)
