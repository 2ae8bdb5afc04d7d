-- Which steps a rectangle and its pieces take, and what helps where a step is refused.
use Rattle.std.specs.Prelude.{ℕ, ◌+◌, ◌==◌, ◌&&◌, ◌||◌, List, [], ◌∷◌, if◌then◌else◌, min, nat_le, nat_lt, Option, Some, None}
use Rattle.cut_measure.specs.Measures.{Size}
use Rattle.cut_measure.specs.declared.sizes.Kind.{Kind}
use Rattle.cut_measure.specs.declared.sizes.Kind.TheVariants.{Bar, Sheet}
use Rattle.shop_files.specs.declared.problems.Piece.{Piece}
use Rattle.shop_problems.specs.declared.steps.TheConstants.{MAX_GIVEN_STEP}
use Rattle.shop_problems.specs.declared.steps.StepHelp.{StepHelp}
use Rattle.shop_problems.specs.declared.steps.StepHelp.TheVariants as help
use Rattle.shop_problems.specs.declared.steps.Steps.{Steps}
use Rattle.shop_problems.specs.Wholes.{kind_of, least_for}

-- the shortest side of pieces, at most the longest step
abbrev pub shortest : List Piece → ℕ
shortest [] = MAX_GIVEN_STEP
shortest (p ∷ ps) = min (min p.w p.h) (shortest ps)

-- From the least step by which no side has over 500 steps to the longest that is over no piece's side and a kerf, and may be given.
abbrev pub steps_of : Size → List Piece → (kerf : ℕ) → Steps
steps_of size pieces k = record { least = least_for size k; most = min (shortest pieces + k) MAX_GIVEN_STEP }

-- this step serves, or none does
abbrev pub help_beside : Steps → Option ℕ → StepHelp
help_beside steps None = help.Whole
help_beside steps (Some step) =
    if nat_lt steps.most steps.least || nat_le steps.least step && nat_le step steps.most then help.Whole else help.Steps steps

-- of one rectangle
abbrev pub help_of_one : Size → List Piece → (kerf step : ℕ) → StepHelp
help_of_one size pieces k step = if size.h == 1 then help.Whole else help_beside (steps_of size pieces k) (Some step)

abbrev pub help_of_kind : Kind → Steps → Option ℕ → StepHelp
help_of_kind Bar steps step = help.ShorterBar
help_of_kind Sheet steps step = help_beside steps step

-- of as many rectangles as all pieces take
abbrev pub help_of_all : Size → List Piece → (kerf : ℕ) → Option ℕ → StepHelp
help_of_all size pieces k step = help_of_kind (kind_of size pieces) (steps_of size pieces k) step
