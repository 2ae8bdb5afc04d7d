use Rattle.cut_measure.proofs.NameTexts.{name_of_is}
use Rattle.cut_measure.proofs.part_names.PartName.read.Goals as goal

pub returns-clause-value : goal.returns-clause-value
returns-clause-value c = name_of_is c.args.text.now c.named.result c.named.ensures
