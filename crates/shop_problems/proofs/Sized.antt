-- The sizes that texts say.
use Rattle.std.proofs.Common.{◌≡◌, ◌∙◌, ◌-◌, ◌++◌, ◌<◌, ◌≤◌, ℕ, List, [], ◌∷◌, ap, arith, drop, get_or, length, map, subst, sym, take, Option, Some, None}
use Rattle.std.specs.Prelude.{◌||◌, MatchOption, unwrap_or}
use Rattle.std.specs.List.{after_first, before_first, list_any, position_or_len}
use Rattle.std.proofs.lemmas.List.{append-nil, drop_all, take_all}
use Rattle.std.proofs.lemmas.Option.{none-some}
use Rattle.cut_measure.specs.Lengths.{IsLengthText}
use Rattle.cut_measure.specs.Measures.{Size, size_of}
use Rattle.cut_measure.specs.declared.sizes.Kind.{Kind}
use Rattle.cut_measure.specs.declared.sizes.Kind.TheVariants.{Bar, Sheet}
use Rattle.shop_problems.specs.Stock.{AreSides, AreSizes, IsBarText, IsSheetText, has_twice, is_x, same_size}

-- a text says one length at most
one_length : (text : List ℕ) (w n : ℕ) → ((m : ℕ) → IsLengthText text m → Some w ≡ Some m) → IsLengthText text n → w ≡ n
one_length text w n only is = ap (λ found. unwrap_or found 0) (only n is)

-- the size of a bar, where a text says this length
pub bar_by : (text : List ℕ) (w : ℕ) (found : Option Size) → found ≡ size_of Bar w 1 → IsLengthText text w
    → ((n : ℕ) → IsLengthText text n → Some w ≡ Some n) → MatchOption found ((size : Size) → IsBarText text size → ⊥) (IsBarText text)
bar_by text w None is said only =
    λ size (n, length, sized). none-some size (is ∙ ap (λ m. size_of Bar m 1) (one_length text w n only length) ∙ sized)
bar_by text w (Some size) is said only = (w, said, sym is)

-- the size of a sheet, where two texts say these lengths
pub sheet_by : (first second : List ℕ) (w h : ℕ) (found : Option Size) → found ≡ size_of Sheet w h
    → IsLengthText first w → ((n : ℕ) → IsLengthText first n → Some w ≡ Some n)
    → IsLengthText second h → ((n : ℕ) → IsLengthText second n → Some h ≡ Some n)
    → MatchOption found ((size : Size) → AreSides first second size → ⊥) (AreSides first second)
sheet_by first second w h None is said_w only_w said_h only_h =
    λ size (m, n, wide, high, sized).
    none-some size
    (is ∙ ap (λ k. size_of Sheet k h) (one_length first w m only_w wide) ∙ ap (size_of Sheet m) (one_length second h n only_h high) ∙ sized)
sheet_by first second w h (Some size) is said_w only_w said_h only_h = (w, h, said_w, said_h, sym is)

-- the size of a sheet, where two texts are what stands before a text's `x`, and behind it
pub sheet_from : (text first second : List ℕ) (found : Option Size) → position_or_len is_x text < length text
    → first ≡ before_first is_x text → second ≡ after_first is_x text
    → MatchOption found ((size : Size) → AreSides first second size → ⊥) (AreSides first second)
    → MatchOption found ((size : Size) → IsSheetText text size → ⊥) (IsSheetText text)
sheet_from text first second None has before behind none =
    λ size is.
    none size (subst (λ t. AreSides first t size) (sym behind) (subst (λ t. AreSides t (after_first is_x text) size) (sym before) is.1))
sheet_from text first second (Some size) has before behind are =
    (has, subst (λ t. AreSides t (after_first is_x text) size) before (subst (λ t. AreSides first t size) behind are))

-- behind the last text
pub all_read : {X : Type 0} (text_of : X → List ℕ) (kind : Kind) (texts : List X) (i : ℕ) (sizes : List Size) → length texts ≤ i
    → ((more : List Size) → AreSizes kind (map text_of (drop i texts)) more → AreSizes kind (map text_of texts) (sizes ++ more))
    → AreSizes kind (map text_of texts) sizes
all_read text_of kind texts i sizes past read =
    subst (AreSizes kind (map text_of texts)) (append-nil sizes)
    (read [] (subst (λ ts. AreSizes kind (map text_of ts) []) (sym (drop_all i texts past)) tt))

-- whether one of several sizes stands twice
pub twice_in : (sizes : List Size) (size : Size) → 1 ≤ length sizes → size ≡ get_or sizes 0 size
    → has_twice sizes
    ≡ (list_any (λ (other : Size). same_size other size) (take (length sizes - 1) (drop 1 sizes)) || has_twice (take (length sizes - 1) (drop 1 sizes)))
twice_in [] size some is = absurd (omega (arith, some))
twice_in (first ∷ sizes) size some is =
    let more : take (length (first ∷ sizes) - 1) sizes ≡ sizes = take_all _ sizes (omega arith) in
    ap (λ s. list_any (λ (other : Size). same_size other s) sizes || has_twice sizes) (sym is)
    ∙ ap (λ ss. list_any (λ (other : Size). same_size other size) ss || has_twice ss) (sym more)
