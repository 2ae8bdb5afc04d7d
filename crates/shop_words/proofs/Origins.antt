-- The first text that is no origin, text by text.
use Rattle.std.proofs.Common.{◌≡◌, ◌<◌, ◌+◌, ◌∙◌, ℕ, suc, List, ◌∷◌, Option, Some, true, false, length, drop, get_or, map, ap, sym, arith}
use Rattle.std.specs.Prelude.{Bool, not, if◌then◌else◌}
use Rattle.std.specs.Borrow.{Bor}
use Rattle.std.proofs.Math.Seq.{drop-cons}
use Rattle.clap.specs.Words.{Text}
use Rattle.shop_words.specs.CommandLine.{bad_origin, is_origin}

module _ (xs : List (Bor Text)) (i : ℕ) (d : Bor Text) (within : i < length xs) where
  texts : List (Bor Text) → List Text
  texts = map (λ t. t.now)

  from_here : bad_origin (texts (drop i xs)) ≡ bad_origin ((get_or xs i d).now ∷ texts (drop (suc i) xs))
  unfolding texts
  from_here = ap (λ l. bad_origin (texts l)) (drop-cons xs i d within)

  judged : (b : Bool) → Option Text
  judged b = if not b then Some (get_or xs i d).now else bad_origin (texts (drop (suc i) xs))

  -- the text here is none
  pub bad_here : is_origin (get_or xs i d).now ≡ false → bad_origin (map (λ t. t.now) (drop i xs)) ≡ Some (get_or xs i d).now
  unfolding texts judged
  bad_here e = from_here ∙ ap judged e

  -- the text here is one
  pub good_here : is_origin (get_or xs i d).now ≡ true → bad_origin (map (λ t. t.now) (drop (i + 1) xs)) ≡ bad_origin (map (λ t. t.now) (drop i xs))
  unfolding texts judged
  good_here e =
      let next : i + 1 ≡ suc i = omega arith in
      ap (λ k. bad_origin (texts (drop k xs))) next ∙ sym (from_here ∙ ap judged e)
