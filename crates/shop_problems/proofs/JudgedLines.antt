-- The judgement of lines, one after another.
use Rattle.std.proofs.Common.{◌≡◌, ◌∙◌, ◌+◌, ◌++◌, ◌<◌, ◌≤◌, ℕ, suc, List, [], ◌∷◌, ap, arith, drop, get_or, length, refl, subst, sym, take}
use Rattle.std.specs.Prelude.{IsTrue, Option, None}
use Rattle.std.proofs.Math.Seq.{drop-cons, take-suc}
use Rattle.std.proofs.lemmas.List.Elements.{All-append, All-cons, All-nil}
use Rattle.cut_measure.specs.Measures.{is_size}
use Rattle.cut_measure.specs.declared.sizes.Kind.TheVariants.{Sheet}
use Rattle.shop_files.specs.declared.orders.OrderLine.{OrderLine}
use Rattle.shop_files.specs.declared.shops.MaterialEntry.{MaterialEntry}
use Rattle.shop_problems.specs.Judged.{AreSized, bad_field, bad_from, bad_row, first_bad_field}

-- the lines from one on
pub from_line : (lines : List OrderLine) (i : ℕ) (line : OrderLine) → i < length lines → line ≡ get_or lines i line
    → drop i lines ≡ line ∷ drop (i + 1) lines
from_line lines i line within is =
    let after : suc i ≡ i + 1 = omega arith in
    drop-cons lines i line within ∙ ap (λ l. l ∷ drop (suc i) lines) (sym is) ∙ ap (λ k. line ∷ drop k lines) after

-- behind a good line the next ones are judged
pub behind_good : (shop : Option (List MaterialEntry)) (row last : ℕ) (lines : List OrderLine) (i : ℕ) (line : OrderLine) → i < length lines
    → line ≡ get_or lines i line → bad_field shop last line ≡ None
    → bad_from shop row last (drop i lines) ≡ bad_from shop (row + 1) line.line (drop (i + 1) lines)
behind_good shop row last lines i line within is none =
    let after : suc row ≡ row + 1 = omega arith in
    let behind = drop (i + 1) lines in
    ap (bad_from shop row last) (from_line lines i line within is)
    ∙ ap (λ f. bad_row row f (bad_from shop (suc row) line.line behind)) none ∙ ap (λ r. bad_from shop r line.line behind) after

-- a line more that has such sides
pub more_sized : (lines : List OrderLine) (i : ℕ) (line : OrderLine) → i < length lines → line ≡ get_or lines i line → AreSized (take i lines)
    → IsTrue (is_size Sheet line.w line.h) → AreSized (take (i + 1) lines)
more_sized lines i line within is all one =
    let sized = λ (l : OrderLine). IsTrue (is_size Sheet l.w l.h) in
    let after : suc i ≡ i + 1 = omega arith in
    let taken : take (i + 1) lines ≡ take i lines ++ line ∷ [] =
    ap (λ k. take k lines) (sym after) ∙ take-suc lines i line within ∙ ap (λ l. take i lines ++ l ∷ []) (sym is) in
    subst AreSized (sym taken) (All-append sized (take i lines) (line ∷ []) all (All-cons sized line [] one (All-nil sized)))

-- of lines that there are
pub of_some : (shop : Option (List MaterialEntry)) (lines : List OrderLine) → 1 ≤ length lines → first_bad_field shop lines ≡ bad_from shop 1 0 lines
of_some shop [] some = absurd (omega (arith, some))
of_some shop (line ∷ lines) some = refl
