-- A table whose rows are filled one after the other is the least ceiling.
use Rattle.std.proofs.Common.{◌≡◌, ℕ, ◌+◌, ◌-◌, ◌*◌, ◌<◌, ◌≤◌, Bool, true, false, List, [], ◌∷◌, ◌++◌, length, map, sym, subst, ap, inl, inr, arith}
use Rattle.std.specs.Prelude.{Contains, Vec, slice_index, slice_index_or}
use Rattle.std.specs.declared.alloc.Global.{Global}
use Rattle.std.proofs.lemmas.Bool.{cases_lt}
use Rattle.std.proofs.lemmas.List.{get_or_append_left, get_or_push, length_push, length-map, map-append}
use Rattle.cut_measure.specs.declared.ranges.TheConstants.{MAX_WORTH}
use Rattle.cut_wants.specs.declared.wants.Want.{Want}
use Rattle.cut_classes.specs.Classes.{ArePartsOf, Classes, FitsIn, IsCeiling, IsInClass, IsLeastCeiling, count, high_of, low_of}
use Rattle.cut_classes.specs.Grids.{AreCounted, AreUsable}
use Rattle.cut_classes.specs.Filling.{AreFilledRows, DontFall, HasAt, IsFilledRow, IsOverParts, rows_of, worth_at}
use Rattle.cut_classes.specs.Rates.{width}
use Rattle.cut_classes.proofs.LegalTrees.{class_of}
use Rattle.cut_classes.proofs.Points.{high_most, not_above, own_part, with_first}
use Rattle.cut_classes.proofs.ScaledAreas.{no_width, scaled, scaled_ceiling, worths_small}

-- ---- worths don't fall

pub along_row : (cs : Classes) (row : List ℕ) (n : ℕ) → AreUsable cs → n ≤ count cs → IsOverParts cs row n → DontFall (slice_index row) n
along_row cs row n u within over a b le lt = elim (cases_lt a b) [
  | inr ge ↦ let e : a ≡ b = omega (arith, le, ge) in subst (λ m. slice_index row a ≤ slice_index row m) e (omega arith)
  | inl less ↦
      let sum = over b a 0 lt less (omega (arith, less)) (with_first cs u a b less (omega (arith, lt, within))) in
      omega (arith, sum)
]

pub up_rows : (wants : List Want) (k : ℕ) (xs ys : Classes) (rows : List (List ℕ)) (i : ℕ) → AreUsable ys → length rows ≤ count ys → i < count xs → AreFilledRows wants k xs ys rows
    → DontFall (worth_at rows i) (length rows)
up_rows wants k xs ys rows i u within il r a b le lt = elim (cases_lt a b) [
  | inr ge ↦ let e : a ≡ b = omega (arith, le, ge) in subst (λ m. worth_at rows i a ≤ worth_at rows i m) e (omega arith)
  | inl less ↦
      let sum = (r b lt).sums i a 0 il less (omega (arith, less)) (with_first ys u a b less (omega (arith, lt, within))) in
      omega (arith, sum)
]

-- ---- one row more

pub next_row : (wants : List Want) (k : ℕ) (xs ys : Classes) (rows : List (List ℕ)) (row : List ℕ) → IsFilledRow wants k xs ys rows row (length rows) → AreFilledRows wants k xs ys rows
    → AreFilledRows wants k xs ys (rows ++ row ∷ [])
next_row wants k xs ys rows row here before j lt = elim (cases_lt j (length rows)) [
  | inl old ↦ still j (slice_index_or rows j []) (slice_index_or (rows ++ row ∷ []) j []) (sym (get_or_append_left rows (row ∷ []) [] j old)) (omega (arith, old)) (before j old)
  | inr new ↦
      let e : length rows ≡ j = omega (arith, length_push rows row, lt, new) in
      still j row (slice_index_or (rows ++ row ∷ []) j []) (sym (get_or_push rows row [] j e)) (omega (arith, e)) (subst (λ m. IsFilledRow wants k xs ys rows row m) e here)
]
  where
    same : (i a j : ℕ) → a < j → j ≤ length rows → worth_at rows i a ≡ worth_at (rows ++ row ∷ []) i a
    same i a j al le = ap (λ l. slice_index l i) (sym (get_or_append_left rows (row ∷ []) [] a (omega (arith, al, le))))

    still : (j : ℕ) (r r' : List ℕ) → r ≡ r' → j ≤ length rows → IsFilledRow wants k xs ys rows r j → IsFilledRow wants k xs ys (rows ++ row ∷ []) r' j
    still j r r' e le is = subst (λ l. IsFilledRow wants k xs ys (rows ++ row ∷ []) l j) e (record {
      pieces = is.pieces;
      sums = λ i a b il al bl parts.
          let sum = is.sums i a b il al bl parts in
          omega (arith, sum, same i a j al le, same i b j bl le);
      parts = is.parts;
    })

pub next_vec : {T : Type 0} (value : T → ℕ) (wants : List Want) (k : ℕ) (xs ys : Classes) (rows pushed : List (Vec T Global)) (row : Vec T Global)
    → IsFilledRow wants k xs ys (rows_of value rows) (map value row.items) (length rows) → pushed ≡ rows ++ row ∷ [] → AreFilledRows wants k xs ys (rows_of value rows)
    → AreFilledRows wants k xs ys (rows_of value pushed)
next_vec {T} value wants k xs ys rows pushed row here push before =
    let e : length rows ≡ length (rows_of value rows) = sym (length-map rows (λ (v : Vec T Global). map value v.items)) in
    rw push (subst (AreFilledRows wants k xs ys) (sym (map-append (λ (v : Vec T Global). map value v.items) rows (row ∷ [])))
    (next_row wants k xs ys (rows_of value rows) (map value row.items) (subst (λ n. IsFilledRow wants k xs ys (rows_of value rows) (map value row.items) n) e here) before))

-- ---- all rows

module _ (wants : List Want) (k : ℕ) (xs ys : Classes) (rows : List (List ℕ)) (ux : AreUsable xs) (uy : AreUsable ys) (counted : AreCounted wants k ys xs) (len : length rows ≡ count ys)
    (r : AreFilledRows wants k xs ys rows) where
  bound : IsCeiling wants k ys xs (scaled MAX_WORTH ys xs)
  bound = scaled_ceiling wants k ys xs uy ux counted MAX_WORTH (worths_small wants k ys xs counted)

  none_left : (j : ℕ) → j < count ys → worth_at rows 0 j ≡ 0
  none_left j jl =
      let most = (r j (omega (arith, len, jl))).pieces.below (scaled MAX_WORTH ys xs) bound 0 (omega (arith, ux.some)) in
      none (worth_at rows 0 j) MAX_WORTH (width (low_of ys 1 - 1) ys j) (width (low_of xs 1 - 1) xs 0) (no_width (low_of xs 1 - 1) xs ux) most
    where
      none : (v c n m : ℕ) → m ≡ 0 → v ≤ c * (n * m) → v ≡ 0
      none v c n m z le = let le' : v ≤ c * (n * 0) = subst (λ o. v ≤ c * (n * o)) z le in omega (arith, le')

  none_below : (i : ℕ) → i < count xs → worth_at rows i 0 ≡ 0
  none_below i il =
      let most = (r 0 (omega (arith, len, uy.some))).pieces.below (scaled MAX_WORTH ys xs) bound i il in
      none (worth_at rows i 0) MAX_WORTH (width (low_of ys 1 - 1) ys 0) (width (low_of xs 1 - 1) xs i) (no_width (low_of ys 1 - 1) ys uy) most
    where
      none : (v c n m : ℕ) → n ≡ 0 → v ≤ c * (n * m) → v ≡ 0
      none v c n m z le = let le' : v ≤ c * (0 * m) = subst (λ o. v ≤ c * (o * m)) z le in omega (arith, le')

  -- what the row of its side across has at the class of its side down, a higher place has
  raised_place : (w h i j n : ℕ) → w ≤ high_of xs i → h ≤ high_of ys j → i < count xs → j < count ys
      → ((j' : ℕ) → j' < count ys → IsInClass ys h j' → w ≤ xs.most → HasAt xs w n (slice_index_or rows j' [])) → n ≤ worth_at rows i j
  raised_place w h i j n wide high il jl offered =
      let most = high_most ys uy j jl in
      let (j', in_down) = class_of ys h (record { some = omega (arith, uy.some); none = uy.none }) (omega (arith, high, most)) in
      let most' = high_most xs ux i il in
      let (i', in_across, le) = offered j' in_down.there in_down (omega (arith, wide, most')) in
      let left = not_above xs ux i' i il in_across.there (omega (arith, in_across.low, wide)) in
      let below = not_above ys uy j' j jl in_down.there (omega (arith, in_down.low, high)) in
      let along = along_row xs (slice_index_or rows j' []) (count xs) ux (omega arith) (r j' (omega (arith, len, in_down.there))).parts i' i left il in
      let up = up_rows wants k xs ys rows i uy (omega (arith, len)) il r j' j below (omega (arith, len, jl)) in
      omega (arith, le, along, up)

  piece : (j i : ℕ) (x : Want) (turned : Bool) → j < count ys → i < count xs → Contains wants x → FitsIn k x turned (high_of ys j) (high_of xs i) → x.worth ≤ worth_at rows i j
  piece j i x false jl il has span =
      raised_place (x.size.h + k) (x.size.w + k) i j x.worth span.1 span.0 il jl (λ j' jl' in_row wide. (r j' (omega (arith, len, jl'))).pieces.offered x false has in_row wide)
  piece j i x true jl il has span =
      raised_place (x.size.w + k) (x.size.h + k) i j x.worth span.2 span.1 il jl (λ j' jl' in_row wide. (r j' (omega (arith, len, jl'))).pieces.offered x true has span.0 in_row wide)

  swapped : (a b n : ℕ) → a + b ≤ n → b + a ≤ n
  swapped a b n le = omega arith

  across : (i j a b : ℕ) → i < count xs → j < count ys → a < count xs → b < count xs → ArePartsOf xs a b i → worth_at rows a j + worth_at rows b j ≤ worth_at rows i j
  across i j a b il jl al bl parts = elim (cases_lt a i) [
    | inr ge ↦
        let own = own_part xs ux a b i il al bl ge parts in
        let e = ap (λ n. worth_at rows n j) own.0 in
        let z = ap (λ n. worth_at rows n j) own.1 in
        omega (arith, e, z, none_left j jl)
    | inl less ↦ elim (cases_lt b i) [
      | inr ge ↦
          let own = own_part xs ux b a i il bl al ge (swapped _ _ _ parts) in
          let e = ap (λ n. worth_at rows n j) own.0 in
          let z = ap (λ n. worth_at rows n j) own.1 in
          omega (arith, e, z, none_left j jl)
      | inl less' ↦ (r j (omega (arith, len, jl))).parts i a b il less less' parts
    ]
  ]

  down : (i j a b : ℕ) → i < count xs → j < count ys → a < count ys → b < count ys → ArePartsOf ys a b j → worth_at rows i a + worth_at rows i b ≤ worth_at rows i j
  down i j a b il jl al bl parts = elim (cases_lt a j) [
    | inr ge ↦
        let own = own_part ys uy a b j jl al bl ge parts in
        let e = ap (λ n. worth_at rows i n) own.0 in
        let z = ap (λ n. worth_at rows i n) own.1 in
        omega (arith, e, z, none_below i il)
    | inl less ↦ elim (cases_lt b j) [
      | inr ge ↦
          let own = own_part ys uy b a j jl bl al ge (swapped _ _ _ parts) in
          let e = ap (λ n. worth_at rows i n) own.0 in
          let z = ap (λ n. worth_at rows i n) own.1 in
          omega (arith, e, z, none_below i il)
      | inl less' ↦ (r j (omega (arith, len, jl))).sums i a b il less less' parts
    ]
  ]

  pub filled_least : IsLeastCeiling wants k ys xs (λ j i. worth_at rows i j)
  filled_least = record {
    ceiling = record {
      pieces = piece;
      across_cuts = λ j i a b jl il al bl parts. down i j a b il jl al bl parts;
      down_cuts = λ j i a b jl il al bl parts. across i j a b il jl al bl parts;
    };
    least = λ other is j i jl il. (r j (omega (arith, len, jl))).pieces.below other is i il;
  }
