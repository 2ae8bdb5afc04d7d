-- What is added in turn.
use Rattle.std.proofs.Common.{◌≡◌, ◌<◌, ◌+◌, ◌∙◌, ℕ, suc, List, length, drop, get_or, ap, ap₂, sym, arith}
use Rattle.std.proofs.Math.Seq.{drop-cons}
use Rattle.clap.specs.Words.{App}
use Rattle.shop_words.specs.CommandLine.{added_in_turn}

-- the next one goes after those before it
pub next_added : {X : Type 0} (add : App → X → App) (app later : App) (xs : List X) (i : ℕ) (d : X) → i < length xs → later ≡ add app (get_or xs i d)
    → added_in_turn add later (drop (i + 1) xs) ≡ added_in_turn add app (drop i xs)
next_added add app later xs i d within is =
    let after : i + 1 ≡ suc i = omega arith in
    ap₂ (λ a k. added_in_turn add a (drop k xs)) is after ∙ ap (added_in_turn add app) (sym (drop-cons xs i d within))
