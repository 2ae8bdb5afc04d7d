-- What faults are printed as.
use Rattle.std.specs.Prelude.{ℕ, List, ◌++◌, codes}
use Rattle.std.specs.Fmt.{decimal}
use Rattle.cut_tree.specs.declared.token.Cause.{Cause}
use Rattle.cut_tree.specs.declared.token.Cause.TheVariants.{BadToken, TooManyCuts, OffUnit, Missing, Extra, NoMemory}
use Rattle.cut_tree.specs.declared.read.SpellFault.{SpellFault}
use Rattle.cut_tree.specs.declared.bars.BarFault.{BarFault}
use Rattle.cut_tree.specs.declared.bars.BarFault.TheVariants as bar

abbrev pub cause_text : Cause → List ℕ
cause_text BadToken = codes "this is no token"
cause_text TooManyCuts = codes "this is one cut too many"
cause_text OffUnit = codes "this cut is not inside its rectangle"
cause_text Missing = codes "the text ends before the tree"
cause_text Extra = codes "the text goes on behind the tree"
cause_text NoMemory = codes "memory ran out"

abbrev pub spell_fault_text : SpellFault → List ℕ
spell_fault_text fault = codes "token " ++ decimal fault.token ++ codes ": " ++ cause_text fault.cause

abbrev pub bar_fault_text : BarFault → List ℕ
bar_fault_text bar.TooLong = codes "the pieces are longer than the bar"
bar_fault_text bar.TooManyCuts = codes "the pieces take too many cuts"
bar_fault_text bar.NoMemory = codes "memory ran out"
