-- The sizes of bars are flat.
use Rattle.std.proofs.Common.{◌≡◌, ℕ, Bool, true, false, List, [], ◌∷◌, ap, subst, sym, Some, None}
use Rattle.std.specs.Prelude.{All, if◌then◌else◌, unwrap_or}
use Rattle.std.proofs.lemmas.List.Elements.{All-cons, All-nil}
use Rattle.std.proofs.lemmas.Option.{none-some}
use Rattle.cut_measure.specs.Measures.{Size, is_size}
use Rattle.cut_measure.specs.declared.sizes.Kind.{Kind}
use Rattle.cut_measure.specs.declared.sizes.Kind.TheVariants.{Bar}
use Rattle.shop_problems.specs.Stock.{AreSizes, IsBarText}

abbrev IsFlat : Size → Type 0
IsFlat size = size.h ≡ 1

flat_if : (is_one : Bool) (w : ℕ) (size : Size) → (if is_one then Some (record { w = w; h = 1 }) else None) ≡ Some size → IsFlat size
flat_if true w size is = ap (λ found. (unwrap_or found size).h) (sym is)
flat_if false w size is = absurd (none-some size is)

flat_bar : (text : List ℕ) (size : Size) → IsBarText text size → IsFlat size
flat_bar text size (w, said, is) = flat_if (is_size Bar w 1) w size is

flat_bars : (texts : List (List ℕ)) (sizes : List Size) → AreSizes Bar texts sizes → All IsFlat sizes
flat_bars [] [] are = All-nil IsFlat
flat_bars [] (size ∷ sizes) are = absurd are
flat_bars (text ∷ texts) [] are = absurd are
flat_bars (text ∷ texts) (size ∷ sizes) (one, others) = All-cons IsFlat size sizes (flat_bar text size one) (flat_bars texts sizes others)

pub flat_sizes : (kind : Kind) (texts : List (List ℕ)) (sizes : List Size) → AreSizes kind texts sizes → kind ≡ Bar
    → All (λ (size : Size). size.h ≡ 1) sizes
flat_sizes kind texts sizes are bar = flat_bars texts sizes (subst (λ k. AreSizes k texts sizes) bar are)
