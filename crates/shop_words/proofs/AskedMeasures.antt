-- Kerf and stages of what the words ask for are in range.
use Rattle.std.proofs.Common.{◌≤◌, ℕ, List, Option, Some, None, Bor, codes, inl, inr, subst, sym}
use Rattle.clap.specs.Words.{Row, Text}
use Rattle.cut_measure.specs.declared.ranges.TheConstants.{MAX_KERF}
use Rattle.shop_words.specs.declared.words.TheConstants.{MIN_STAGES, MAX_STAGES}
use Rattle.shop_words.specs.declared.words.OrderPlan.{OrderPlan}
use Rattle.shop_words.specs.declared.words.Request.{Request}
use Rattle.shop_words.specs.declared.words.Request.TheVariants.{Replay, Plan, PlanOrder, PlanLines}
use Rattle.shop_words.specs.declared.words.Word.{Word}
use Rattle.shop_words.specs.declared.words.Word.TheVariants as word
use Rattle.shop_words.specs.CommandLine.{AsksFor, HasMeasures, HasStages, IsAsked, IsProblemAsked, MayHaveNumber}

stages_of : (rows : List Row) (stages : Option ℕ) → MayHaveNumber (codes "stages") rows MIN_STAGES MAX_STAGES stages → HasStages stages
stages_of rows None has = tt
stages_of rows (Some n) has = (has.1, has.2)

of_one : (rows : List Row) (file : Bor Text) (kerf step : ℕ) → IsProblemAsked rows (Plan file kerf step) → kerf ≤ MAX_KERF
of_one rows file kerf step (path, k, there, number, inl whole) = absurd whole.1
of_one rows file kerf step (path, k, there, number, inr single) = subst (λ n. n ≤ MAX_KERF) (sym single.1.1) number.2

of_all : (rows : List Row) (file : Bor Text) (kerf : ℕ) (step calls stages : Option ℕ) → IsProblemAsked rows (PlanOrder file kerf step calls stages) → (kerf ≤ MAX_KERF) × HasStages stages
of_all rows file kerf step calls stages (path, k, there, number, inl whole) =
    (subst (λ n. n ≤ MAX_KERF) (sym whole.1.1) number.2, stages_of rows stages whole.1.4)
of_all rows file kerf step calls stages (path, k, there, number, inr single) = absurd single.1

one_asked : (w : Word) (rows : List Row) (file : Bor Text) (kerf step : ℕ) → IsAsked w rows (Plan file kerf step) → kerf ≤ MAX_KERF
one_asked word.Replay rows file kerf step asked = cc
one_asked word.Plan rows file kerf step (inl lines) = absurd lines.1
one_asked word.Plan rows file kerf step (inr problem) = of_one rows file kerf step problem.1
one_asked _ rows file kerf step asked = absurd asked

all_asked : (w : Word) (rows : List Row) (file : Bor Text) (kerf : ℕ) (step calls stages : Option ℕ) → IsAsked w rows (PlanOrder file kerf step calls stages) → (kerf ≤ MAX_KERF) × HasStages stages
all_asked word.Replay rows file kerf step calls stages asked = cc
all_asked word.Plan rows file kerf step calls stages (inl lines) = absurd lines.1
all_asked word.Plan rows file kerf step calls stages (inr problem) = of_all rows file kerf step calls stages problem.1
all_asked _ rows file kerf step calls stages asked = absurd asked

no_problem : {A : Type 0} (rows : List Row) (plan : OrderPlan) → IsProblemAsked rows (PlanLines plan) → A
no_problem rows plan (path, k, there, number, inl whole) = absurd whole.1
no_problem rows plan (path, k, there, number, inr single) = absurd single.1

lines_asked : (w : Word) (rows : List Row) (plan : OrderPlan) → IsAsked w rows (PlanLines plan) → HasStages plan.stages
lines_asked word.Replay rows plan asked = cc
lines_asked word.Plan rows plan (inl lines) = stages_of rows plan.stages lines.1.4
lines_asked word.Plan rows plan (inr problem) = no_problem rows plan problem.1
lines_asked _ rows plan asked = absurd asked

pub measured : (found : Option (Text × List Row)) (request : Request) → AsksFor found request → HasMeasures request
measured None request asked = absurd asked
measured (Some (name, rows)) (Plan file kerf step) asked = one_asked asked.0 rows file kerf step asked.2
measured (Some (name, rows)) (PlanOrder file kerf step calls stages) asked = all_asked asked.0 rows file kerf step calls stages asked.2
measured (Some (name, rows)) (PlanLines plan) asked = lines_asked asked.0 rows plan asked.2
measured (Some (name, rows)) _ asked = tt
