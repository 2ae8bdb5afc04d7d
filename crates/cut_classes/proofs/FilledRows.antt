-- What a row has after each step of its filling.
use Rattle.std.proofs.Common.{◌≡◌, ◌≢◌, ℕ, ◌+◌, ◌<◌, ◌≤◌, Bool, true, false, List, length, max, sym, subst, inl, inr, arith}
use Rattle.std.specs.Prelude.{Contains, slice_index}
use Rattle.std.proofs.lemmas.Bool.{cases_eq, cases_lt}
use Rattle.cut_wants.specs.declared.wants.Want.{Want}
use Rattle.cut_classes.specs.declared.pairs.Pair.{Pair}
use Rattle.cut_classes.specs.Classes.{ArePartsOf, Classes, IsInClass, count, high_of}
use Rattle.cut_classes.specs.Grids.{AreUsable}
use Rattle.cut_classes.specs.Filling.{AreFilledRows, CoversParts, HasAt, HasCeilingBelow, IsBelowAll, IsOffered, IsOfferedTo, IsOverParts, IsOverSums, IsPieceRow, IsRaised, worth_at}
use Rattle.cut_classes.proofs.FilledTables.{along_row, up_rows}

-- ---- pieces

-- the worth of a want stands at the class of its side
pub offered_at : (xs ys : Classes) (k : ℕ) (x : Want) (j at w h : ℕ) (old new : List ℕ) → IsInClass xs w at → h ≤ high_of ys j → slice_index new at ≡ max (slice_index old at) x.worth
    → ((p : ℕ) → p ≢ at → slice_index new p ≡ slice_index old p)
    → IsRaised old new × HasAt xs w x.worth new × ((p : ℕ) → slice_index old p < slice_index new p → (p < count xs) × (w ≤ high_of xs p) × (h ≤ high_of ys j) × (slice_index new p ≡ x.worth))
offered_at xs ys k x j at w h old new is high here others = (
  λ p. elim (cases_eq p at) [
    | inl e ↦ subst (λ n. slice_index old n ≤ slice_index new n) (sym e) (omega (arith, here))
    | inr ne ↦ omega (arith, others p ne)
  ],
  (at, is, omega (arith, here)),
  λ p more. elim (cases_eq p at) [
    | inl e ↦
        let more' : slice_index old at < slice_index new at = subst (λ n. slice_index old n < slice_index new n) e more in (
          subst (λ n. n < count xs) (sym e) is.there,
          subst (λ n. w ≤ high_of xs n) (sym e) is.high,
          high,
          subst (λ n. slice_index new n ≡ x.worth) (sym e) (omega (arith, here, more')),
        )
    | inr ne ↦ absurd (omega (arith, others p ne, more))
  ],
)

pub none_offered : (xs ys : Classes) (k : ℕ) (x : Want) (turned : Bool) (j : ℕ) (row : List ℕ) → IsOffered xs ys k x turned row j → IsOfferedTo xs ys k x turned j row row
none_offered xs ys k x turned j row is = record { kept = λ p. omega arith; offered = is; found = λ p more. absurd (omega (arith, more)) }

pub has_still : (xs : Classes) (l n : ℕ) (old new : List ℕ) → IsRaised old new → HasAt xs l n old → HasAt xs l n new
has_still xs l n old new raised (i, is, le) = (i, is, omega (arith, le, raised i))

pub offered_still : (xs ys : Classes) (k : ℕ) (x : Want) (turned : Bool) (old new : List ℕ) (j : ℕ) → IsRaised old new → IsOffered xs ys k x turned old j → IsOffered xs ys k x turned new j
offered_still xs ys k x false old new j raised is = λ in_row wide. has_still xs (x.size.h + k) x.worth old new raised (is in_row wide)
offered_still xs ys k x true old new j raised is = λ turns in_row wide. has_still xs (x.size.w + k) x.worth old new raised (is turns in_row wide)

pub below_offered : (wants : List Want) (xs ys : Classes) (k : ℕ) (x : Want) (turned : Bool) (j : ℕ) (old new : List ℕ) → Contains wants x → j < count ys → IsOfferedTo xs ys k x turned j old new
    → IsBelowAll wants k xs ys old j → IsBelowAll wants k xs ys new j
below_offered wants xs ys k x turned j old new has jl is before other ceiling i il = elim (cases_lt (slice_index old i) (slice_index new i)) [
  | inr same ↦ omega (arith, same, before other ceiling i il)
  | inl more ↦
      let f = is.found i more in
      let most = ceiling.pieces j i x turned jl f.0 has f.1 in
      omega (arith, most, f.2)
]

-- ---- rows of parts

-- each place is no less than the sums of these pairs
abbrev pub IsOverPairs : Classes → List (List ℕ) → List Pair → List ℕ → Type 0
IsOverPairs xs rows pairs row = (p : Pair) → Contains pairs p → (i : ℕ) → i < count xs → worth_at rows i p.first + worth_at rows i p.second ≤ slice_index row i

pub sum_below : (limit : ℕ) (wants : List Want) (k : ℕ) (xs ys : Classes) (rows : List (List ℕ)) (n a b : ℕ) → length rows ≡ n → HasCeilingBelow limit wants k xs ys → AreFilledRows wants k xs ys rows
    → n < count ys → a < n → b < n → ArePartsOf ys a b n → (i : ℕ) → i < count xs → worth_at rows i a + worth_at rows i b < limit
sum_below limit wants k xs ys rows n a b len bound r jl al bl parts i il =
    let one = (r a (omega (arith, len, al))).pieces.below bound.worth bound.ceiling i il in
    let two = (r b (omega (arith, len, bl))).pieces.below bound.worth bound.ceiling i il in
    let sum = bound.ceiling.across_cuts n i a b jl il (omega (arith, al, jl)) (omega (arith, bl, jl)) parts in
    omega (arith, one, two, sum, bound.below i n il jl)

-- a row that is raised to the sums of a pair
pub stacked_row : (wants : List Want) (k : ℕ) (xs ys : Classes) (rows : List (List ℕ)) (n a b : ℕ) (old new : List ℕ) → length rows ≡ n → AreFilledRows wants k xs ys rows → n < count ys → a < n → b < n
    → ArePartsOf ys a b n → length new ≡ count xs
    → ((i : ℕ) → i < count xs → slice_index new i ≡ max (slice_index old i) (worth_at rows i a + worth_at rows i b)) → IsPieceRow wants k xs ys old n → IsPieceRow wants k xs ys new n
stacked_row wants k xs ys rows n a b old new count_is r jl al bl parts len is before = record {
  len = len;
  offered = λ x turned has. moved x turned (before.offered x turned has);
  below = λ other ceiling i il.
      let one = (r a (omega (arith, count_is, al))).pieces.below other ceiling i il in
      let two = (r b (omega (arith, count_is, bl))).pieces.below other ceiling i il in
      let sum = ceiling.across_cuts n i a b jl il (omega (arith, al, jl)) (omega (arith, bl, jl)) parts in
      omega (arith, one, two, sum, is i il, before.below other ceiling i il);
}
  where
    at_place : (l m : ℕ) → HasAt xs l m old → HasAt xs l m new
    at_place l m (i, in_class, le) = (i, in_class, omega (arith, le, is i in_class.there))

    moved : (x : Want) (turned : Bool) → IsOffered xs ys k x turned old n → IsOffered xs ys k x turned new n
    moved x false o = λ in_row wide. at_place (x.size.h + k) x.worth (o in_row wide)
    moved x true o = λ turns in_row wide. at_place (x.size.w + k) x.worth (o turns in_row wide)

pub over_sums : (wants : List Want) (k : ℕ) (xs ys : Classes) (rows : List (List ℕ)) (n : ℕ) (pairs : List Pair) (row : List ℕ) → length rows ≡ n → AreUsable ys → AreFilledRows wants k xs ys rows → n < count ys
    → CoversParts ys n pairs → IsOverPairs xs rows pairs row → IsOverSums xs ys rows row n
over_sums wants k xs ys rows n pairs row len uy r jl cover over i a b il al bl parts = elim (cases_lt a b) [
  | inr le ↦ ordered a b le al parts
  | inl lt ↦
      let sum = ordered b a (omega (arith, lt)) bl (omega (arith, parts)) in
      omega (arith, sum)
]
  where
    ordered : (a b : ℕ) → b ≤ a → a < n → ArePartsOf ys a b n → worth_at rows i a + worth_at rows i b ≤ slice_index row i
    ordered a b le al parts =
        let (p, has, first, second) = cover.covered a b le al parts in
        let inside = cover.inside p has in
        let up = up_rows wants k xs ys rows i uy (omega (arith, len, jl)) il r in
        omega (arith, up a p.first first (omega (arith, len, inside.0)), up b p.second second (omega (arith, len, inside.1)), over p has i il)

-- ---- parts in the row

-- the first n places are joined
pub record IsJoinedTo (wants : List Want) (k : ℕ) (xs ys : Classes) (start row : List ℕ) (j n : ℕ) : Type 0 where
  pub kept : IsRaised start row
  pub below : IsBelowAll wants k xs ys row j
  pub over : IsOverParts xs row n

pub pair_below : (limit : ℕ) (wants : List Want) (k : ℕ) (xs ys : Classes) (row : List ℕ) (j i a b : ℕ) → HasCeilingBelow limit wants k xs ys → IsBelowAll wants k xs ys row j → j < count ys → i < count xs → a < i → b < i
    → ArePartsOf xs a b i → slice_index row a + slice_index row b < limit
pair_below limit wants k xs ys row j i a b bound below jl il al bl parts =
    let one = below bound.worth bound.ceiling a (omega (arith, al, il)) in
    let two = below bound.worth bound.ceiling b (omega (arith, bl, il)) in
    let sum = bound.ceiling.down_cuts j i a b jl il (omega (arith, al, il)) (omega (arith, bl, il)) parts in
    omega (arith, one, two, sum, bound.below i j il jl)

pub joined_next : (wants : List Want) (k : ℕ) (xs ys : Classes) (start old new : List ℕ) (j n : ℕ) (pairs : List Pair) → AreUsable xs → j < count ys → n < count xs → CoversParts xs n pairs
    → slice_index old n ≤ slice_index new n → ((p : ℕ) → p ≢ n → slice_index new p ≡ slice_index old p)
    → ((p : Pair) → Contains pairs p → slice_index old p.first + slice_index old p.second ≤ slice_index new n)
    → ((bound : ℕ) → slice_index old n ≤ bound → ((p : Pair) → Contains pairs p → slice_index old p.first + slice_index old p.second ≤ bound) → slice_index new n ≤ bound)
    → IsJoinedTo wants k xs ys start old j n → IsJoinedTo wants k xs ys start new j (n + 1)
joined_next wants k xs ys start old new j n pairs ux jl il cover raised others most least before = record {
  kept = λ p. elim (cases_eq p n) [
    | inl e ↦ subst (λ m. slice_index start m ≤ slice_index new m) (sym e) (omega (arith, before.kept n, raised))
    | inr ne ↦ omega (arith, before.kept p, others p ne)
  ];
  below = λ other ceiling i lt. elim (cases_eq i n) [
    | inr ne ↦ omega (arith, others i ne, before.below other ceiling i lt)
    | inl e ↦ subst (λ m. slice_index new m ≤ other j m) (sym e) (least (other j n) (before.below other ceiling n il) (λ p has.
        let inside = cover.inside p has in
        let one = before.below other ceiling p.first (omega (arith, inside.0, il)) in
        let two = before.below other ceiling p.second (omega (arith, inside.1, il)) in
        let sum = ceiling.down_cuts j n p.first p.second jl il (omega (arith, inside.0, il)) (omega (arith, inside.1, il)) (cover.parts p has) in
        omega (arith, one, two, sum)))
  ];
  over = λ i a b lt al bl parts. elim (cases_lt i n) [
    | inl less ↦
        let sum = before.over i a b less al bl parts in
        omega (arith, sum, others i (λ e. absurd (omega (arith, e, less))), others a (λ e. absurd (omega (arith, e, less, al))), others b (λ e. absurd (omega (arith, e, less, bl))))
    | inr ge ↦
        let e : i ≡ n = omega (arith, lt, ge) in
        let al' : a < n = omega (arith, al, e) in
        let bl' : b < n = omega (arith, bl, e) in
        let parts' : ArePartsOf xs a b n = subst (λ m. ArePartsOf xs a b m) e parts in
        let sum = either a b al' bl' parts' in
        subst (λ m. slice_index new a + slice_index new b ≤ slice_index new m) (sym e)
        (omega (arith, sum, others a (λ e'. absurd (omega (arith, e', al'))), others b (λ e'. absurd (omega (arith, e', bl')))))
  ];
}
  where
    ordered : (a b : ℕ) → b ≤ a → a < n → ArePartsOf xs a b n → slice_index old a + slice_index old b ≤ slice_index new n
    ordered a b le al parts =
        let (p, has, first, second) = cover.covered a b le al parts in
        let inside = cover.inside p has in
        let along = along_row xs old n ux (omega (arith, il)) before.over in
        omega (arith, along a p.first first inside.0, along b p.second second inside.1, most p has)

    either : (a b : ℕ) → a < n → b < n → ArePartsOf xs a b n → slice_index old a + slice_index old b ≤ slice_index new n
    either a b al bl parts = elim (cases_lt a b) [
      | inr le ↦ ordered a b le al parts
      | inl lt ↦
          let sum = ordered b a (omega (arith, lt)) bl (omega (arith, parts)) in
          omega (arith, sum)
    ]

-- ---- as the loops need it

pub both_ways : (xs ys : Classes) (k : ℕ) (x : Want) (row : List ℕ) (j : ℕ) → IsOffered xs ys k x false row j → IsOffered xs ys k x true row j → (turned : Bool) → IsOffered xs ys k x turned row j
both_ways xs ys k x row j as_it_stands turned false = as_it_stands
both_ways xs ys k x row j as_it_stands turned true = turned
