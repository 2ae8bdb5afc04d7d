-- What is answered to a query.
use Rattle.std.specs.Prelude.{◌≡◌, ℕ, ◌==◌, List, [], ◌∷◌, map, if◌then◌else◌, unwrap_or}
use Rattle.std.specs.List.Sorted.{IsPermutation, IsNonDecreasingBy}
use Rattle.cut_wants.specs.declared.wants.Want.{Want}
use Rattle.cut_bound.specs.declared.prices.Price.{Price}
use Rattle.cut_order.specs.declared.answer.OrderPlan.{OrderPlan}
use Rattle.cut_order.specs.Answers.{IsAnswerOf}
use Rattle.shop_plans.specs.declared.answers.DemandPrice.{DemandPrice}
use Rattle.shop_plans.specs.declared.answers.MissingPieces.{MissingPieces}
use Rattle.shop_plans.specs.declared.answers.PlansReply.{PlansReply}
use Rattle.shop_plans.specs.Reported.{plans_text}
use Rattle.shop_planning.specs.declared.instance.PlanInstance.{PlanInstance}
use Rattle.shop_planning.specs.Entries.{AreReportedPlans}
use Rattle.shop_planning.specs.Rests.{IsLargestRest}

-- a plan of the order that is asked for
abbrev pub IsPlanOf : PlanInstance → OrderPlan → Type 0
IsPlanOf instance plan = IsAnswerOf instance.kind instance.kerf instance.step instance.stages instance.sizes.items instance.wants.items plan

-- how many pieces are missing, of each want of which any is
abbrev pub missing_rows : List Want → (missing : List ℕ) → List MissingPieces
missing_rows [] numbers = []
missing_rows (x ∷ xs) [] = []
missing_rows (x ∷ xs) (n ∷ ns) = if n == 0 then missing_rows xs ns else record { demand = x.demand; pieces = n } ∷ missing_rows xs ns

-- these, by rising demand
pub record AreReportedMissing (wants : List Want) (missing : List ℕ) (reported : List MissingPieces) : Type 0 where
  pub all : IsPermutation (missing_rows wants missing) reported
  pub rising : IsNonDecreasingBy (λ (row : MissingPieces). row.demand) reported

abbrev pub reported_price : Price → DemandPrice
reported_price p = record { demand = p.demand; worth = p.worth }

-- The answer reports a plan of the order: its units with the parts that are cut, what is missing, its cost and its bound with
-- the prices, whether it is proved best, the largest rest that is kept, and whether all parts fall short.
pub record IsPlansReply (instance : PlanInstance) (reply : PlansReply) : Type 0 where
  pub plan : OrderPlan
  pub answers : IsPlanOf instance plan
  pub plans : AreReportedPlans instance plan.units.items reply.plans.items
  pub missing : AreReportedMissing instance.wants.items plan.missing.items reply.missing
  pub prices : reply.prices ≡ map reported_price plan.prices.items
  pub cost : reply.cost ≡ plan.cost
  pub bound : reply.bound ≡ plan.bound
  pub proved : reply.proved ≡ plan.proved
  pub rest : IsLargestRest instance.limits plan.units.items reply.rest
  pub short : reply.short ≡ plan.short
  pub step : reply.step ≡ unwrap_or instance.step 0

-- the text of an answer
pub record IsPlansText (instance : PlanInstance) (text : List ℕ) : Type 0 where
  pub reply : PlansReply
  pub answer : IsPlansReply instance reply
  pub says : text ≡ plans_text reply
