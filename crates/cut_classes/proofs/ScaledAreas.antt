-- A ceiling that goes by the sides alone: as much as the dearest want for each unit of area.
use Rattle.std.proofs.Common.{◌≡◌, ◌⊎◌, ℕ, ◌+◌, ◌-◌, ◌*◌, ◌<◌, ◌≤◌, Bool, true, false, List, [], ◌∷◌, refl, subst, inl, inr, arith}
use Rattle.std.specs.Prelude.{◌&&◌, ◌||◌, not, nat_le, nat_lt, Contains, IsTrue, if◌then◌else◌}
use Rattle.std.proofs.lemmas.Bool.{cases_lt, le-ltb, leb-true}
use Rattle.std.proofs.lemmas.Nat.{mul-le}
use Rattle.std.proofs.Math.Nat.{le_refl}
use Rattle.cut_measure.specs.declared.ranges.TheConstants.{MAX_WORTH}
use Rattle.cut_wants.specs.declared.wants.Want.{Want}
use Rattle.cut_wants.proofs.LeafSums.{Contains-cases}
use Rattle.cut_classes.specs.Classes.{ArePartsOf, Classes, FitsIn, IsCeiling, count, high_of, low_of}
use Rattle.cut_classes.specs.Grids.{AreCounted, AreUsable, counted, is_above, is_counted}
use Rattle.cut_classes.specs.Rates.{IsRatedAt, IsRatedWant, IsSpanAt, IsSlack, width}
use Rattle.cut_classes.specs.Filling.{HasCeilingBelow}
use Rattle.cut_classes.proofs.Points.{high_most, low_le, not_above}

-- so much for each unit of the area of two classes, less the slacks
abbrev pub areas : (rate slack slack' : ℕ) → (xs ys : Classes) → ℕ → ℕ → ℕ
areas c s s' xs ys i j = c * (width s xs i * width s' ys j)

-- so much, the slacks being one less than the first pieces' sides
abbrev pub scaled : (rate : ℕ) → (xs ys : Classes) → ℕ → ℕ → ℕ
scaled c xs ys i j = areas c (low_of xs 1 - 1) (low_of ys 1 - 1) xs ys i j

second_some : (cs : Classes) → AreUsable cs → 1 ≤ low_of cs 1
second_some cs u = let rises = u.rising 0 (omega (arith, u.some)) in omega (arith, rises)

pub near_slack : (cs : Classes) → AreUsable cs → IsSlack (low_of cs 1 - 1) cs
near_slack cs u i some within = let near = u.near i within in omega (arith, near)

pub no_width : (slack : ℕ) (cs : Classes) → AreUsable cs → width slack cs 0 ≡ 0
no_width s cs u = omega (arith, u.none)

parts_within : (slack : ℕ) (cs : Classes) → AreUsable cs → IsSlack slack cs → (a b i : ℕ) → i < count cs → a < count cs → b < count cs → ArePartsOf cs a b i → width slack cs a + width slack cs b ≤ width slack cs i
parts_within s cs u slack a b i within al bl parts =
    let le = low_le cs u a i (not_above cs u a i within al (omega (arith, parts))) within in
    let le' = low_le cs u b i (not_above cs u b i within bl (omega (arith, parts))) within in
    elim (cases_lt 0 a) [
      | inr none ↦
          let e : 0 ≡ a = omega (arith, none) in
          let z : width s cs a ≡ 0 = subst (λ n. width s cs n ≡ 0) e (no_width s cs u) in
          omega (arith, z, le')
      | inl some ↦ elim (cases_lt 0 b) [
        | inr none ↦
            let e : 0 ≡ b = omega (arith, none) in
            let z : width s cs b ≡ 0 = subst (λ n. width s cs n ≡ 0) e (no_width s cs u) in
            omega (arith, z, le)
        | inl some' ↦ omega (arith, le, le', slack i (above some) within, parts)
      ]
    ]
  where
    above : 0 < a → 1 ≤ i
    above some = elim (cases_lt 0 i) [
      | inl more ↦ more
      | inr none ↦
          let e : i ≡ 0 = omega (arith, none) in
          let parts' = subst (λ n. low_of cs a + low_of cs b ≤ high_of cs n) e parts in
          let one = low_le cs u 1 a (omega (arith, some)) al in
          let near = u.near 0 (omega (arith, u.some)) in
          absurd (omega (arith, parts', one, near, u.none))
    ]

-- the sum of two parts at each unit of the other side
spread : (c a b i j : ℕ) → a + b ≤ i → c * (a * j) + c * (b * j) ≤ c * (i * j)
spread c a b i j le =
    let more = mul-le (a + b) j i j le (le_refl j) in
    let all = mul-le c ((a + b) * j) c (i * j) (le_refl c) more in
    omega (arith, all)

swap : (c i j : ℕ) → c * (i * j) ≡ c * (j * i)
swap c i j = omega arith

-- what is at least as wide and high as a piece is worth that
holds_one : (c i j n : ℕ) → n ≤ c → 1 ≤ i → 1 ≤ j → n ≤ c * (i * j)
holds_one c i j n le one one' =
    let area = mul-le 1 1 i j one one' in
    let all = mul-le c 1 c (i * j) (le_refl c) area in
    omega (arith, le, all)

-- ---- wants that a table counts

both : (a b : Bool) → IsTrue (a && b) → IsTrue a × IsTrue b
both true true e = (e, e)
both true false e = absurd (cc)
both false b e = absurd (cc)

pub no_side_below : (xs ys : Classes) (w h : ℕ) → IsTrue (is_above xs ys w h) → w ≤ xs.most → h ≤ ys.most → (low_of xs 1 ≤ w) × (low_of ys 1 ≤ h)
no_side_below xs ys w h e wide high =
    let t = le-ltb xs.most w wide in
    let t' = le-ltb ys.most h high in
    let e' = last (nat_lt xs.most w) (nat_lt ys.most h) (nat_le (low_of xs 1) w && nat_le (low_of ys 1) h) t t' e in
    let each = both (nat_le (low_of xs 1) w) (nat_le (low_of ys 1) h) e' in
    (leb-true (low_of xs 1) w each.0, leb-true (low_of ys 1) h each.1)
  where
    last : (a b c : Bool) → a ≡ false → b ≡ false → IsTrue (a || b || c) → IsTrue c
    last true b c e e' t = absurd (cc)
    last false true c e e' t = absurd (cc)
    last false false c e e' t = t

worth_small : (k : ℕ) (xs ys : Classes) (x : Want) → IsTrue (is_counted k xs ys x) → x.worth ≤ MAX_WORTH
worth_small k xs ys x e =
    let a = both (nat_le x.worth MAX_WORTH && is_above xs ys (x.size.w + k) (x.size.h + k)) _ e in
    let b = both (nat_le x.worth MAX_WORTH) _ a.0 in
    leb-true x.worth MAX_WORTH b.0

pub worths_small : (wants : List Want) (k : ℕ) (xs ys : Classes) → AreCounted wants k xs ys → (x : Want) → Contains wants x → x.worth ≤ MAX_WORTH
worths_small wants k xs ys all x has = worth_small k xs ys x (all x has)

-- a counted want has no side in a first class where it has room
span_above : (k : ℕ) (xs ys : Classes) (x : Want) (turned : Bool) → IsTrue (is_counted k xs ys x) → FitsIn k x turned xs.most ys.most → (w h : ℕ) → FitsIn k x turned w h
    → (low_of xs 1 ≤ w) × (low_of ys 1 ≤ h)
span_above k xs ys x false e span w h p =
    let a = both (nat_le x.worth MAX_WORTH && is_above xs ys (x.size.w + k) (x.size.h + k)) _ e in
    let b = both (nat_le x.worth MAX_WORTH) _ a.0 in
    let n = no_side_below xs ys (x.size.w + k) (x.size.h + k) b.1 span.0 span.1 in
    (omega (arith, n.0, p.0), omega (arith, n.1, p.1))
span_above k xs ys x true e span w h p =
    let a = both (nat_le x.worth MAX_WORTH && is_above xs ys (x.size.w + k) (x.size.h + k)) _ e in
    let n = no_side_below xs ys (x.size.h + k) (x.size.w + k) (turns x.may_turn (is_above xs ys (x.size.h + k) (x.size.w + k)) span.0 a.1) span.1 span.2 in
    (omega (arith, n.0, p.1), omega (arith, n.1, p.2))
  where
    turns : (a b : Bool) → IsTrue a → IsTrue (not a || b) → IsTrue b
    turns true b t e = e
    turns false b t e = absurd (cc)

span_in_most : (k : ℕ) (x : Want) (turned : Bool) (w h w' h' : ℕ) → w ≤ w' → h ≤ h' → FitsIn k x turned w h → FitsIn k x turned w' h'
span_in_most k x false w h w' h' le le' p = (omega (arith, le, p.0), omega (arith, le', p.1))
span_in_most k x true w h w' h' le le' p = (p.0, omega (arith, le, p.1), omega (arith, le', p.2))

some_width : (cs : Classes) → AreUsable cs → (i : ℕ) → i < count cs → low_of cs 1 ≤ high_of cs i → 1 ≤ width (low_of cs 1 - 1) cs i
some_width cs u i within le =
    let one = not_above cs u 1 i within (omega (arith, u.some)) le in
    let low = low_le cs u 1 i one within in
    omega (arith, low, second_some cs u)

-- ---- areas are ceilings

-- a rate at which no want is worth more than the area where it has room
abbrev IsRate : List Want → ℕ → (xs ys : Classes) → (rate slack slack' : ℕ) → Type 0
IsRate wants k xs ys c s s' =
    (x : Want) (turned : Bool) → Contains wants x → (i j : ℕ) → i < count xs → j < count ys → FitsIn k x turned (high_of xs i) (high_of ys j) → x.worth ≤ areas c s s' xs ys i j

areas_ceiling : (wants : List Want) (k : ℕ) (xs ys : Classes) (c s s' : ℕ) → AreUsable xs → AreUsable ys → IsSlack s xs → IsSlack s' ys → IsRate wants k xs ys c s s'
    → IsCeiling wants k xs ys (areas c s s' xs ys)
areas_ceiling wants k xs ys c s s' ux uy slack slack' rated = record {
  pieces = λ i j x turned il jl has span. rated x turned has i j il jl span;
  across_cuts = λ i j a b il jl al bl parts. spread c (width s xs a) (width s xs b) (width s xs i) (width s' ys j) (parts_within s xs ux slack a b i il al bl parts);
  down_cuts = λ i j a b il jl al bl parts.
      let sum = spread c (width s' ys a) (width s' ys b) (width s' ys j) (width s xs i) (parts_within s' ys uy slack' a b j jl al bl parts) in
      omega (arith, sum, swap c (width s xs i) (width s' ys a), swap c (width s xs i) (width s' ys b), swap c (width s xs i) (width s' ys j));
}

pub scaled_ceiling : (wants : List Want) (k : ℕ) (xs ys : Classes) → AreUsable xs → AreUsable ys → AreCounted wants k xs ys → (c : ℕ) → ((x : Want) → Contains wants x → x.worth ≤ c)
    → IsCeiling wants k xs ys (scaled c xs ys)
scaled_ceiling wants k xs ys ux uy counted c small =
    areas_ceiling wants k xs ys c (low_of xs 1 - 1) (low_of ys 1 - 1) ux uy (near_slack xs ux) (near_slack ys uy) (λ x turned has i j il jl span.
    let most = span_in_most k x turned (high_of xs i) (high_of ys j) xs.most ys.most (high_most xs ux i il) (high_most ys uy j jl) span in
    let above = span_above k xs ys x turned (counted x has) most (high_of xs i) (high_of ys j) span in
    holds_one c (width (low_of xs 1 - 1) xs i) (width (low_of ys 1 - 1) ys j) x.worth (small x has) (some_width xs ux i il above.0) (some_width ys uy j jl above.1))

-- below the rate for each unit of the greatest area
pub areas_small : (c s s' most most' : ℕ) (xs ys : Classes) → AreUsable xs → AreUsable ys → xs.most ≤ most → ys.most ≤ most' → (i j : ℕ) → i < count xs → j < count ys
    → areas c s s' xs ys i j ≤ c * (most * most')
areas_small c s s' most most' xs ys ux uy wide high i j il jl =
    let last = low_le xs ux i (count xs - 1) (omega (arith, il)) (omega (arith, il)) in
    let last' = low_le ys uy j (count ys - 1) (omega (arith, jl)) (omega (arith, jl)) in
    let area = mul-le (width s xs i) (width s' ys j) most most' (omega (arith, last, wide, ux.reached)) (omega (arith, last', high, uy.reached)) in
    mul-le c (width s xs i * width s' ys j) c (most * most') (le_refl c) area

-- ---- rates of wants

-- what holds of the classes of a piece's sides holds of all where it has room
rated_above : (s s' : ℕ) (xs ys : Classes) (worth w h rate i j : ℕ) → AreUsable xs → AreUsable ys → IsRatedAt s s' xs ys worth w h rate → i < count xs → j < count ys → w ≤ high_of xs i → h ≤ high_of ys j
    → worth ≤ areas rate s s' xs ys i j
rated_above s s' xs ys worth w h rate i j ux uy rated il jl wide high =
    let most = high_most xs ux i il in
    let most' = high_most ys uy j jl in
    let (i', j', in_across, in_down, le) = rated (omega (arith, wide, most)) (omega (arith, high, most')) in
    let left = low_le xs ux i' i (not_above xs ux i' i il in_across.there (omega (arith, in_across.low, wide))) il in
    let below = low_le ys uy j' j (not_above ys uy j' j jl in_down.there (omega (arith, in_down.low, high))) jl in
    let area = mul-le (width s xs i') (width s' ys j') (width s xs i) (width s' ys j) (omega (arith, left)) (omega (arith, below)) in
    let all = mul-le rate (width s xs i' * width s' ys j') rate (width s xs i * width s' ys j) (le_refl rate) area in
    omega (arith, le, all)

is_rate : (wants : List Want) (k : ℕ) (xs ys : Classes) (c s s' : ℕ) → AreUsable xs → AreUsable ys → ((x : Want) (turned : Bool) → Contains wants x → IsRatedWant s s' xs ys k x turned c)
    → (x : Want) (turned : Bool) → Contains wants x → (i j : ℕ) → i < count xs → j < count ys → FitsIn k x turned (high_of xs i) (high_of ys j) → x.worth ≤ areas c s s' xs ys i j
is_rate wants k xs ys c s s' ux uy rated x false has i j il jl span =
    rated_above s s' xs ys x.worth (x.size.w + k) (x.size.h + k) c i j ux uy (rated x false has) il jl span.0 span.1
is_rate wants k xs ys c s s' ux uy rated x true has i j il jl span =
    rated_above s s' xs ys x.worth (x.size.h + k) (x.size.w + k) c i j ux uy (rated x true has span.0) il jl span.1 span.2

pub rated_below : (limit : ℕ) (wants : List Want) (k : ℕ) (xs ys : Classes) (c s s' : ℕ) → AreUsable xs → AreUsable ys → IsSlack s xs → IsSlack s' ys
    → ((x : Want) (turned : Bool) → Contains wants x → IsRatedWant s s' xs ys k x turned c) → ((x : Want) → Contains wants x → x.worth < limit) → c * (xs.most * ys.most) < limit
    → HasCeilingBelow limit wants k ys xs
rated_below limit wants k xs ys c s s' ux uy slack slack' rated small below = record {
  worths = small;
  worth = areas c s s' xs ys;
  ceiling = areas_ceiling wants k xs ys c s s' ux uy slack slack' (is_rate wants k xs ys c s s' ux uy rated);
  below = λ i j il jl.
      let most = areas_small c s s' xs.most ys.most xs ys ux uy (le_refl xs.most) (le_refl ys.most) j i jl il in
      omega (arith, most, below);
}

-- a higher rate is one as well
pub rated_more : (s s' : ℕ) (xs ys : Classes) (worth w h low high : ℕ) → low ≤ high → IsRatedAt s s' xs ys worth w h low → IsRatedAt s s' xs ys worth w h high
rated_more s s' xs ys worth w h low high more rated = λ wide tall.
    let (i, j, in_across, in_down, le) = rated wide tall in
    let all = mul-le low (width s xs i * width s' ys j) high (width s xs i * width s' ys j) more (le_refl (width s xs i * width s' ys j)) in
    (i, j, in_across, in_down, omega (arith, le, all))

pub want_rated_more : (s s' : ℕ) (xs ys : Classes) (k : ℕ) (x : Want) (turned : Bool) (low high : ℕ) → low ≤ high → IsRatedWant s s' xs ys k x turned low → IsRatedWant s s' xs ys k x turned high
want_rated_more s s' xs ys k x false low high more rated = rated_more s s' xs ys x.worth (x.size.w + k) (x.size.h + k) low high more rated
want_rated_more s s' xs ys k x true low high more rated = λ turns. rated_more s s' xs ys x.worth (x.size.h + k) (x.size.w + k) low high more (rated turns)

pub rated_ways : (s s' : ℕ) (xs ys : Classes) (k : ℕ) (x : Want) (w h rate : ℕ) → w ≡ x.size.w → h ≡ x.size.h → IsRatedAt s s' xs ys x.worth (w + k) (h + k) rate → IsRatedAt s s' xs ys x.worth (h + k) (w + k) rate
    → (turned : Bool) → IsRatedWant s s' xs ys k x turned rate
rated_ways s s' xs ys k x w h rate e e' upright turned false = subst (λ n. IsRatedAt s s' xs ys x.worth (n + k) (x.size.h + k) rate) e (subst (λ n. IsRatedAt s s' xs ys x.worth (w + k) (n + k) rate) e' upright)
rated_ways s s' xs ys k x w h rate e e' upright turned true = λ turns. subst (λ n. IsRatedAt s s' xs ys x.worth (x.size.h + k) (n + k) rate) e (subst (λ n. IsRatedAt s s' xs ys x.worth (n + k) (w + k) rate) e' turned)

-- the rate of a piece with sides in these classes
pub rated_by : (s s' : ℕ) (xs ys : Classes) (worth w h across down rate : ℕ) → (w ≤ xs.most → IsSpanAt s xs w across) → (h ≤ ys.most → IsSpanAt s' ys h down) → worth ≤ rate * (across * down)
    → IsRatedAt s s' xs ys worth w h rate
rated_by s s' xs ys worth w h across down rate span span' le = λ wide high.
    let (i, in_across, e) = span wide in
    let (j, in_down, e') = span' high in
    (i, j, in_across, in_down, subst (λ n. worth ≤ rate * (n * width s' ys j)) e (subst (λ n. worth ≤ rate * (across * n)) e' le))

pub rated_nowhere : (s s' : ℕ) (xs ys : Classes) (worth w h rate : ℕ) → (xs.most < w) ⊎ (ys.most < h) → IsRatedAt s s' xs ys worth w h rate
rated_nowhere s s' xs ys worth w h rate (inl past) = λ wide high. absurd (omega (arith, past, wide))
rated_nowhere s s' xs ys worth w h rate (inr past) = λ wide high. absurd (omega (arith, past, high))

-- ---- those of some wants

counted_by : (k : ℕ) (xs ys : Classes) (b : Bool) (y : Want) (others : List Want) (x : Want) → is_counted k xs ys y ≡ b → ((z : Want) → Contains others z → IsTrue (is_counted k xs ys z))
    → Contains (if b then y ∷ others else others) x → IsTrue (is_counted k xs ys x)
counted_by k xs ys false y others x e below has = below x has
counted_by k xs ys true y others x e below has = elim (Contains-cases y others x has) [
  | inl same ↦ subst (λ z. IsTrue (is_counted k xs ys z)) same e
  | inr h ↦ below x h
]

pub counted_each : (k : ℕ) (xs ys : Classes) (wants : List Want) → AreCounted (counted k xs ys wants) k xs ys
counted_each k xs ys [] x has = absurd (omega (arith, has.1))
counted_each k xs ys (y ∷ wants) x has = counted_by k xs ys (is_counted k xs ys y) y (counted k xs ys wants) x refl (counted_each k xs ys wants) has
