-- A best worth is reached by nothing, by a piece, or by a cut into two best worths.
use Rattle.std.proofs.Common.{◌≡◌, ◌≢◌, ℕ, zero, suc, ◌+◌, ◌-◌, ◌*◌, ◌^◌, ◌<◌, ◌≤◌, Bool, true, false, List, [], ◌∷◌, length, get_or, sym, refl, ap, ◌∙◌, subst, inl, inr, arith, Some, cond, eqb}
use Rattle.std.specs.Prelude.{Contains, slice_get, slice_set}
use Rattle.std.proofs.lemmas.Bool.{cases_lt}
use Rattle.std.proofs.lemmas.Nat.{mul-le}
use Rattle.std.proofs.Math.Nat.{le_refl}
use Rattle.std.proofs.lemmas.Option.{slice_get-get_or}
use Rattle.cut_sheets.specs.declared.sheet.TheConstants.{MAX_STEPS}
use Rattle.cut_wants.specs.declared.wants.Want.{Want}
use Rattle.cut_tree.specs.Tree.{Tree, count_of, Rest, Piece, Trim, Cut}
use Rattle.cut_measure.specs.declared.sizes.Axis.TheVariants.{X, Y}
use Rattle.cut_wants.specs.Legal.{HasSides, IsWantedPiece, Legal, worth_of, HaveOwnDemands}
use Rattle.cut_wants.specs.Best.{IsBestOf}
use Rattle.cut_sheets.specs.declared.sheet.Table.{Table}
use Rattle.cut_sheets.specs.declared.sheet.Table.TheVariants.{Narrow, Wide}
use Rattle.cut_sheets.specs.Table.{IsTable, heights, HaveSidesAndBoundedWorths, IsCutX, IsCutY, IsPieceAt, CountsLeaves}
use Rattle.std.proofs.lemmas.Bool.Decides.{eqb_tells}
use Rattle.cut_wants.proofs.NumberRows.{set_here, set_other}
use Rattle.cut_wants.proofs.LeafSums.{Contains-tail}
use Rattle.cut_sheets.proofs.SheetTables.{piece_worth, best-le_price, small_priced, row_worth}

pub value_small : (wants : List Want) (w h v : ℕ) → HaveOwnDemands wants → HaveSidesAndBoundedWorths wants → w ≤ MAX_STEPS → h ≤ MAX_STEPS → IsBestOf wants 0 w h v → v ≤ 250000 * 2 ^ 30
value_small wants w h v own small ws hs b = omega (arith, best-le_price (2 ^ 30) wants w h v own (small_priced wants small) b, mul-le w h MAX_STEPS MAX_STEPS ws hs)

pub best_same : (wants : List Want) (w h u v : ℕ) → IsBestOf wants 0 w h u → IsBestOf wants 0 w h v → u ≡ v
best_same wants w h u v a b = omega (arith, a.found.2, b.found.2, a.most b.found.0 b.found.1, b.most a.found.0 a.found.1)

pub no_cut_x : (wants : List Want) (w h best a f s : ℕ) → IsBestOf wants 0 a h f → IsBestOf wants 0 (w - a) h s → (f + s ≡ best → ⊥) → IsCutX wants w h best a → ⊥
no_cut_x wants w h best a f s fs ss ne c = ne (omega (arith, best_same wants a h f c.first fs c.firsts, best_same wants (w - a) h s c.second ss c.seconds, c.sum))

pub no_cut_y : (wants : List Want) (w h best a f s : ℕ) → IsBestOf wants 0 w a f → IsBestOf wants 0 w (h - a) s → (f + s ≡ best → ⊥) → IsCutY wants w h best a → ⊥
no_cut_y wants w h best a f s fs ss ne c = ne (omega (arith, best_same wants w a f c.first fs c.firsts, best_same wants w (h - a) s c.second ss c.seconds, c.sum))

-- where no piece and no cut gives the best worth, it is 0
pub nothing_left : (wants : List Want) (w h best : ℕ) → HaveOwnDemands wants → ((v u : ℕ) → v ≤ w → u ≤ h → (b : ℕ) × IsBestOf wants 0 v u b) → IsBestOf wants 0 w h best
    → ((x : Want) (turned : Bool) → Contains wants x → HasSides x turned w h → x.worth ≡ best → ⊥)
    → ((a : ℕ) → a + a ≤ w → IsCutX wants w h best a → ⊥) → ((a : ℕ) → a + a ≤ h → IsCutY wants w h best a → ⊥) → best ≡ 0
nothing_left wants w h best own all b no_piece no_x no_y = go b.found.0 b.found.1 b.found.2
  where
    pair_x : (f s a e : ℕ) (t u : Tree) → 1 ≤ a → 1 ≤ e → a + e ≡ w → Legal wants 0 t a h → Legal wants 0 u e h → worth_of wants t + worth_of wants u ≡ best
        → IsBestOf wants 0 a h f → IsBestOf wants 0 e h s → f + s ≡ best
    pair_x f s a e t u one one' sum lt lu is fb sb =
        let there : w - a - 0 ≡ e = omega arith in
        let lu' = subst (λ m. Legal wants 0 sb.found.0 m h) (sym there) sb.found.1 in
        omega (arith, fb.most t lt, sb.most u lu, fb.found.2, sb.found.2, b.most (Cut X a fb.found.0 sb.found.0) (one, omega arith, fb.found.1, lu'))

    pair_y : (f s a e : ℕ) (t u : Tree) → 1 ≤ a → 1 ≤ e → a + e ≡ h → Legal wants 0 t w a → Legal wants 0 u w e → worth_of wants t + worth_of wants u ≡ best
        → IsBestOf wants 0 w a f → IsBestOf wants 0 w e s → f + s ≡ best
    pair_y f s a e t u one one' sum lt lu is fb sb =
        let there : h - a - 0 ≡ e = omega arith in
        let lu' = subst (λ m. Legal wants 0 sb.found.0 w m) (sym there) sb.found.1 in
        omega (arith, fb.most t lt, sb.most u lu, fb.found.2, sb.found.2, b.most (Cut Y a fb.found.0 sb.found.0) (one, omega arith, fb.found.1, lu'))

    go : (t : Tree) → Legal wants 0 t w h → worth_of wants t ≡ best → best ≡ 0
    go Rest l e = sym e
    go (Piece d r) l e = absurd (no_piece l.0 r l.1 l.3 (sym (piece_worth wants d r w h own l) ∙ e))
    go (Trim X a t) l e = absurd (omega (arith, l.1, l.2))
    go (Trim Y a t) l e = absurd (omega (arith, l.1, l.2))
    go (Cut X a t u) l e =
        let f = all a h (omega (arith, l.1)) (le_refl h) in
        let s = all (w - a - 0) h (omega arith) (le_refl h) in
        let sum = pair_x f.0 s.0 a (w - a - 0) t u l.0 (omega (arith, l.1)) (omega (arith, l.1)) l.2 l.3 e f.1 s.1 in
        let other : w - a - 0 ≡ w - a = omega arith in
        elim (cases_lt w (a + a)) [
          | inr near ↦ absurd (no_x a near (record { some = l.0; inside = omega (arith, l.1); first = f.0; second = s.0; firsts = f.1; seconds = subst (λ m. IsBestOf wants 0 m h s.0) other s.1; sum = sum }))
          | inl far ↦
              let back : a ≡ w - (w - a - 0) = omega (arith, l.1) in
              absurd (no_x (w - a - 0) (omega (arith, l.1)) (record { some = omega (arith, l.1); inside = omega (arith, l.0, l.1); first = s.0; second = f.0; firsts = s.1; seconds = subst (λ m. IsBestOf wants 0 m h f.0) back f.1; sum = omega arith }))
        ]
    go (Cut Y a t u) l e =
        let f = all w a (le_refl w) (omega (arith, l.1)) in
        let s = all w (h - a - 0) (le_refl w) (omega arith) in
        let sum = pair_y f.0 s.0 a (h - a - 0) t u l.0 (omega (arith, l.1)) (omega (arith, l.1)) l.2 l.3 e f.1 s.1 in
        let other : h - a - 0 ≡ h - a = omega arith in
        elim (cases_lt h (a + a)) [
          | inr near ↦ absurd (no_y a near (record { some = l.0; inside = omega (arith, l.1); first = f.0; second = s.0; firsts = f.1; seconds = subst (λ m. IsBestOf wants 0 w m s.0) other s.1; sum = sum }))
          | inl far ↦
              let back : a ≡ h - (h - a - 0) = omega (arith, l.1) in
              absurd (no_y (h - a - 0) (omega (arith, l.1)) (record { some = omega (arith, l.1); inside = omega (arith, l.0, l.1); first = s.0; second = f.0; firsts = s.1; seconds = subst (λ m. IsBestOf wants 0 w m f.0) back f.1; sum = omega arith }))
        ]

one_le : (e d : ℕ) → cond (eqb e d) 1 0 ≤ 1
one_le e d = elim (eqb e d) as (λ b. cond b 1 0 ≤ 1) [ true ↦ omega arith | false ↦ omega arith ]

-- a leaf takes at least a unit of area
pub count_of-le_area : (wants : List Want) (t : Tree) (w h d : ℕ) → HaveSidesAndBoundedWorths wants → Legal wants 0 t w h → count_of t d ≤ w * h
count_of-le_area wants Rest w h d small l = omega arith
count_of-le_area wants (Piece e false) w h d small l =
    let s = small l.0 l.1 in
    omega (arith, mul-le 1 1 w h (omega (arith, l.3, s)) (omega (arith, l.3, s)), one_le e d)
count_of-le_area wants (Piece e true) w h d small l =
    let s = small l.0 l.1 in
    omega (arith, mul-le 1 1 w h (omega (arith, l.3, s)) (omega (arith, l.3, s)), one_le e d)
count_of-le_area wants (Trim X a t) w h d small l = absurd (omega (arith, l.1, l.2))
count_of-le_area wants (Trim Y a t) w h d small l = absurd (omega (arith, l.1, l.2))
count_of-le_area wants (Cut X a t u) w h d small l =
    let e : a + (w - a - 0) ≡ w = omega (arith, l.1) in
    omega (arith, count_of-le_area wants t a h d small l.2, count_of-le_area wants u (w - a - 0) h d small l.3, ap (λ n. n * h) e)
count_of-le_area wants (Cut Y a t u) w h d small l =
    let e : a + (h - a - 0) ≡ h = omega (arith, l.1) in
    omega (arith, count_of-le_area wants t w a d small l.2, count_of-le_area wants u w (h - a - 0) d small l.3, ap (λ n. w * n) e)

pub all_best : (wants : List Want) (places : ℕ) (table : Table) (w h : ℕ) → IsTable wants places table → w < places → h < heights table
    → (v u : ℕ) → v ≤ w → u ≤ h → (b : ℕ) × IsBestOf wants 0 v u b
all_best wants places (Narrow rows) w h table wp hl = λ v u vw uh. row_worth (λ n. n) wants places rows.items v u table (omega arith) (omega arith)
all_best wants places (Wide rows) w h table wp hl = λ v u vw uh. row_worth (λ n. n) wants places rows.items v u table (omega arith) (omega arith)

pub contains_get : (xs : List Want) (i : ℕ) (x : Want) → slice_get xs i ≡ Some x → Contains xs x
contains_get [] i x h = absurd (cc)
contains_get (z ∷ zs) zero x h = let e : z ≡ x = cc in (0, omega arith, e)
contains_get (z ∷ zs) (suc i) x h = Contains-tail z zs x (contains_get zs i x h)

pub in_get : (xs : List Want) (i : ℕ) (x : Want) → slice_get xs i ≡ Some x → i < length xs
in_get [] i x h = absurd (cc)
in_get (z ∷ zs) zero x h = omega arith
in_get (z ∷ zs) (suc i) x h = omega (arith, in_get zs i x h)

-- the same demand stands at one place only
pub own_at : (xs : List Want) (i j : ℕ) (x y : Want) → HaveOwnDemands xs → slice_get xs i ≡ Some x → slice_get xs j ≡ Some y → x.demand ≡ y.demand → i ≡ j
own_at [] i j x y own hi hj same = absurd (cc)
own_at (z ∷ zs) zero zero x y own hi hj same = refl
own_at (z ∷ zs) zero (suc j) x y own hi hj same =
    let e : z ≡ x = cc in
    absurd (own.0 y (contains_get zs j y hj) (sym same ∙ ap (λ (v : Want). v.demand) (sym e)))
own_at (z ∷ zs) (suc i) zero x y own hi hj same =
    let e : z ≡ y = cc in
    absurd (own.0 x (contains_get zs i x hi) (same ∙ ap (λ (v : Want). v.demand) (sym e)))
own_at (z ∷ zs) (suc i) (suc j) x y own hi hj same = ap (λ n. suc n) (own_at zs i j x y own.1 hi hj same)

pub counts_one : (wants : List Want) (i : ℕ) (x : Want) (old : List ℕ) → HaveOwnDemands wants → length old ≡ length wants → slice_get wants i ≡ Some x
    → (j : ℕ) (y : Want) → slice_get wants j ≡ Some y → get_or (slice_set old i (get_or old i 0 + 1)) j 0 ≡ get_or old j 0 + cond (eqb x.demand y.demand) 1 0
counts_one wants i x old own len hi j y hj =
    let lt : i < length old = omega (arith, in_get wants i x hi) in
    elim (eqb_tells x.demand y.demand) [
      | inl (t, e) ↦
          let same : j ≡ i = sym (own_at wants i j x y own hi hj e) in
          rw t (omega (arith, set_here old i (get_or old i 0 + 1) j lt same, ap (λ n. get_or old n 0) same))
      | inr (t, n) ↦
          let other : j ≢ i = λ q. n (demand_of (sym hi ∙ ap (slice_get wants) (sym q) ∙ hj)) in
          rw t (omega (arith, set_other old i (get_or old i 0 + 1) j other))
    ]
  where
    demand_of : Some x ≡ Some y → x.demand ≡ y.demand
    demand_of e = let q : x ≡ y = cc in ap (λ (v : Want). v.demand) q

pub grown_from : (wants : List Want) (w h : ℕ) (old new : List ℕ) → HaveSidesAndBoundedWorths wants → length old ≡ length wants → CountsLeaves wants w h old new
    → (i : ℕ) → i < length old → get_or new i 0 ≤ get_or old i 0 + w * h
grown_from wants w h old new small len c i lt =
    let d : Want = record { demand = 0; size = record { w = 0; h = 0 }; may_turn = false; left = 0; worth = 0 } in
    let here = slice_get-get_or wants i d (omega arith) in
    omega (arith, c.counts i (get_or wants i d) here, count_of-le_area wants c.tree w h (get_or wants i d).demand small c.legal)

pub leaves_none : (wants : List Want) (w h best : ℕ) (old : List ℕ) → IsBestOf wants 0 w h best → best ≡ 0 → CountsLeaves wants w h old old
leaves_none wants w h best old b z = record {
  tree = Rest;
  legal = tt;
  best = subst (λ v. IsBestOf wants 0 w h v) z b;
  counts = λ i x has. omega arith;
}

pub leaves_piece : (wants : List Want) (w h best i : ℕ) (turned : Bool) (old : List ℕ) → HaveOwnDemands wants → length old ≡ length wants → IsBestOf wants 0 w h best
    → IsPieceAt wants w h best i turned → CountsLeaves wants w h old (slice_set old i (get_or old i 0 + 1))
leaves_piece wants w h best i turned old own len b p =
    let is : IsWantedPiece wants p.want.demand turned w h = (p.want, contains_get wants i p.want p.here, refl, p.sides) in
    record {
      tree = Piece p.want.demand turned;
      legal = is;
      best = subst (λ v. IsBestOf wants 0 w h v) (sym (piece_worth wants p.want.demand turned w h own is ∙ p.worth)) b;
      counts = counts_one wants i p.want old own len p.here;
    }

pub leaves_x : (wants : List Want) (w h best a : ℕ) (old mid new : List ℕ) → IsBestOf wants 0 w h best → IsCutX wants w h best a
    → CountsLeaves wants a h old mid → CountsLeaves wants (w - a) h mid new → CountsLeaves wants w h old new
leaves_x wants w h best a old mid new b c t u =
    let there : w - a ≡ w - a - 0 = omega arith in
    let sum : best ≡ worth_of wants t.tree + worth_of wants u.tree = omega (arith, c.sum, best_same wants a h c.first (worth_of wants t.tree) c.firsts t.best, best_same wants (w - a) h c.second (worth_of wants u.tree) c.seconds u.best) in
    record {
      tree = Cut X a t.tree u.tree;
      legal = (c.some, omega (arith, c.inside), t.legal, subst (λ m. Legal wants 0 u.tree m h) there u.legal);
      best = subst (λ v. IsBestOf wants 0 w h v) sum b;
      counts = λ i x has. omega (arith, t.counts i x has, u.counts i x has);
    }

pub leaves_y : (wants : List Want) (w h best a : ℕ) (old mid new : List ℕ) → IsBestOf wants 0 w h best → IsCutY wants w h best a
    → CountsLeaves wants w a old mid → CountsLeaves wants w (h - a) mid new → CountsLeaves wants w h old new
leaves_y wants w h best a old mid new b c t u =
    let there : h - a ≡ h - a - 0 = omega arith in
    let sum : best ≡ worth_of wants t.tree + worth_of wants u.tree = omega (arith, c.sum, best_same wants w a c.first (worth_of wants t.tree) c.firsts t.best, best_same wants w (h - a) c.second (worth_of wants u.tree) c.seconds u.best) in
    record {
      tree = Cut Y a t.tree u.tree;
      legal = (c.some, omega (arith, c.inside), t.legal, subst (λ m. Legal wants 0 u.tree w m) there u.legal);
      best = subst (λ v. IsBestOf wants 0 w h v) sum b;
      counts = λ i x has. omega (arith, t.counts i x has, u.counts i x has);
    }

pub second_fits : (w a h old mid : ℕ) → old + w * h < 2 ^ 32 → mid ≤ old + a * h → a < w → mid + (w - a) * h < 2 ^ 32
second_fits w a h old mid fits grown lt = let e : a + (w - a) ≡ w = omega arith in omega (arith, ap (λ n. n * h) e)

pub second_fits_y : (w a h old mid : ℕ) → old + w * h < 2 ^ 32 → mid ≤ old + w * a → a < h → mid + w * (h - a) < 2 ^ 32
second_fits_y w a h old mid fits grown lt = let e : a + (h - a) ≡ h = omega arith in omega (arith, ap (λ n. w * n) e)

pub area_pos : (wants : List Want) (w h best i : ℕ) (turned : Bool) → HaveSidesAndBoundedWorths wants → IsPieceAt wants w h best i turned → 1 ≤ w * h
area_pos wants w h best i false small p =
    let s = small p.want (contains_get wants i p.want p.here) in
    omega (arith, mul-le 1 1 w h (omega (arith, p.sides, s)) (omega (arith, p.sides, s)))
area_pos wants w h best i true small p =
    let s = small p.want (contains_get wants i p.want p.here) in
    omega (arith, mul-le 1 1 w h (omega (arith, p.sides, s)) (omega (arith, p.sides, s)))
