-- How often a part is named.
use Rattle.std.specs.Prelude.{ℕ, List, count_by, sum_by}
use Rattle.cut_measure.specs.Names.{Name}
use Rattle.shop_records.specs.Same.{same_name}
use Rattle.shop_plans.specs.declared.answers.ReportedPlan.{ReportedPlan}
use Rattle.shop_planning.specs.declared.instance.StockPart.{StockPart}

-- how often plans name a part
abbrev pub times_named : List ReportedPlan → Name → ℕ
times_named reported name = sum_by (λ (t : ReportedPlan). count_by (λ n. same_name n name) t.parts) reported

-- how many parts of a stock have a name
abbrev pub parts_named : List StockPart → Name → ℕ
parts_named parts name = count_by (λ (part : StockPart). same_name part.name name) parts
