-- What a reader of plans answers on a text that spells a tree.
use Rattle.std.proofs.Common.{◌≡◌, ℕ, ◌≤◌, List}
use Rattle.std.specs.Prelude.{Result, Ok, Err, IfOk, IfErr, MatchResult}
use Rattle.cut_tree.specs.declared.token.TheConstants.{MAX_CUTS}
use Rattle.cut_tree.specs.declared.read.SpellFault.{SpellFault}
use Rattle.cut_tree.specs.declared.token.Cause.TheVariants.{NoMemory}
use Rattle.cut_tree.specs.Tree.{Tree, cut_count}
use Rattle.cut_tree.specs.Patterns.{Pattern}
use Rattle.cut_tree.specs.Spelling.{IsSpelling, IsFirstFault}
use Rattle.cut_tree.proofs.SpelledTexts.{faultless, one_spelled}

pub only_this : (text : List ℕ) (w h k : ℕ) (r : Result Pattern SpellFault) →
    IfOk r (λ p. IsSpelling text p.tree w h k) → IfErr r (λ f. IsFirstFault text w h k f.token f.cause) →
    (t : Tree) → IsSpelling text t w h k → cut_count t ≤ MAX_CUTS → MatchResult r (λ p. p.tree ≡ t) (λ f. f.cause ≡ NoMemory)
only_this text w h k (Ok p) spelled fault t s few = one_spelled text p.tree t w h k spelled s
only_this text w h k (Err f) spelled fault t s few = faultless text t w h k f.token f.cause s few fault
