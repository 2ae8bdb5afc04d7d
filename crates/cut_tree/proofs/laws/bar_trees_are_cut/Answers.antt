use Rattle.std.proofs.Common.{IsTrue}
use Rattle.cut_tree.proofs.BarTrees.{fits_spent, CutsInto-bar_tree}
use Rattle.cut_tree.proofs.laws.bar_trees_are_cut.Goals as goal

pub returns : goal.returns
returns c = λ pieces w h k legal long is fits.
    CutsInto-bar_tree (λ d turned a b. IsTrue (legal d turned a b)) pieces w h k long is (fits_spent pieces w k fits)
