-- What faults are printed as.
use Rattle.std.specs.Prelude.{ℕ, List, codes}
use Rattle.cut_plan.specs.declared.faults.PlanFault.{PlanFault}
use Rattle.cut_plan.specs.declared.faults.PlanFault.TheVariants.{BadWant, BadStep, TableTooLarge, NothingFits, NoMemory}

abbrev pub plan_fault_text : PlanFault → List ℕ
plan_fault_text BadWant = codes "a want is out of range or stands twice, or there are none or too many"
plan_fault_text BadStep = codes "the step is 0, or longer than a piece and a kerf"
plan_fault_text TableTooLarge = codes "the unit is too large to be planned, or its plan takes too many cuts"
plan_fault_text NothingFits = codes "no piece fits the unit"
plan_fault_text NoMemory = codes "memory ran out"
