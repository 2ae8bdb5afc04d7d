use Rattle.shop_answers.proofs.PlanningReply.{reserve_refused}
use Rattle.shop_answers.proofs.laws.reported_plans_can_be_reserved.Goals as goal

pub returns : goal.returns
returns c =
    λ texts m part demands step ceiling dropped worth tree message refusal next well_formed answered command none it n s.
    reserve_refused ceiling dropped tree worth texts m part demands step well_formed answered message next refusal command none it n s
