-- The first rows that pass a test, of so many rows and of more.
use Rattle.std.proofs.Common.{◌≡◌, ◌∙◌, ℕ, ◌≤◌, List, Bool, ap, sym, length, take, drop, arith}
use Rattle.std.specs.Prelude.{filter, map, Option, Some}
use Rattle.std.proofs.lemmas.List.{length-map, length-take, take-append-drop, take-append-le, take-take}
use Rattle.std.proofs.lemmas.List.Elements.{filter-append}
use Rattle.cut_measure.specs.declared.ranges.TheConstants.{MAX_NUMBERS}
use Rattle.cut_measure.specs.declared.sizes.Kind.{Kind}
use Rattle.cut_bound.specs.declared.limits.TheConstants.{MAX_PARTS}
use Rattle.shop_records.specs.declared.records.Part.{Part}
use Rattle.shop_planning.specs.declared.asking.TheConstants.{FIRST_ROWS}
use Rattle.shop_planning.specs.Asked.{can_be_planned, first_planned}

-- where as many as are wanted stand among the first k rows, more rows don't matter
pub first_of_more : {A : Type 0} (p : A → Bool) (n k m : ℕ) (xs : List A) → k ≤ m → length (take n (filter p (take k xs))) ≡ n → take n (filter p (take k xs)) ≡ take n (filter p (take m xs))
first_of_more p n k m xs le full =
    let prefix = filter p (take k (take m xs)) in
    let same : take k (take m xs) ≡ take k xs = take-take k m xs le in
    let enough : n ≤ length prefix = omega (arith, full, length-take n (filter p (take k xs)), ap (λ l. length (filter p l)) same) in
    ap (λ l. take n (filter p l)) (sym same)
    ∙ sym (take-append-le n prefix (filter p (drop k (take m xs))) enough)
    ∙ ap (take n) (sym (filter-append p (take k (take m xs)) (drop k (take m xs))))
    ∙ ap (λ l. take n (filter p l)) (take-append-drop k (take m xs))

pub planned_enough : (kind : Kind) (rows : List Part) (found : List (Option Part)) → found ≡ first_planned kind (take FIRST_ROWS rows) → length found ≡ MAX_PARTS
    → found ≡ first_planned kind (take MAX_NUMBERS rows)
planned_enough kind rows found is full =
    let few = take MAX_PARTS (filter (can_be_planned kind) (take FIRST_ROWS rows)) in
    let enough : length few ≡ MAX_PARTS = sym (length-map few Some) ∙ ap length (sym is) ∙ full in
    is ∙ ap (map Some) (first_of_more (can_be_planned kind) MAX_PARTS FIRST_ROWS MAX_NUMBERS rows (omega arith) enough)
