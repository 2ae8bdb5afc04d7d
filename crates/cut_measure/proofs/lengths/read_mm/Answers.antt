use Rattle.std.proofs.Common.{◌≡◌, ℕ, List, ap}
use Rattle.std.specs.Prelude.{Option, Some, None, MatchOption}
use Rattle.cut_measure.specs.Lengths.{IsLengthText}
use Rattle.cut_measure.proofs.LengthTexts.{one_length}
use Rattle.cut_measure.proofs.lengths.read_mm.Goals as goal

only : (text : List ℕ) (r : Option ℕ) → MatchOption r ((n : ℕ) → IsLengthText text n → ⊥) (λ n. IsLengthText text n) → (n : ℕ) → IsLengthText text n → r ≡ Some n
only text None none n h = absurd (none n h)
only text (Some m) said n h = ap Some (one_length text m n said h)

pub returns-clause-only : goal.returns-clause-only
returns-clause-only c = only c.args.text.now c.tenths_of.result c.tenths_of.ensures
