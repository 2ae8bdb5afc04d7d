-- The kept leaves have places on the sheet itself.
use Rattle.std.proofs.Common.{◌≡◌, ℕ, ◌+◌, ◌-◌, ◌*◌, ◌<◌, ◌≤◌, Bool, true, false, List, refl, ap, ◌∙◌, sym, subst, inl, inr, arith}
use Rattle.std.specs.Prelude.{Contains, ◌==◌, nat_lt, if◌then◌else◌}
use Rattle.std.proofs.lemmas.Bool.{cases_lt, ltb-true, ltb-false, eqb-true, eqb-false}
use Rattle.std.proofs.lemmas.Nat.{mul-le}
use Rattle.std.proofs.Math.Nat.{le_refl}
use Rattle.cut_measure.specs.declared.sizes.Axis.{Axis}
use Rattle.cut_measure.specs.declared.sizes.Axis.TheVariants.{X, Y}
use Rattle.cut_tree.specs.Tree.{Tree, Rest, Piece, Trim, Cut, CutsInto, leaf_sum, cut_count}
use Rattle.cut_wants.specs.declared.wants.Want.{Want}
use Rattle.cut_measure.specs.Measures.{Size}
use Rattle.cut_wants.specs.Legal.{Legal, leaf_count, IsWantedPiece, HaveOwnDemands, of_demand}
use Rattle.cut_wants.proofs.LeafSums.{of_demand_found}
use Rattle.cut_sheets.specs.Rounded.{steps_up, wants_up}
use Rattle.cut_sheets.specs.Table.{HaveSides}
use Rattle.cut_sheets.specs.Kept.{IsInside, IsFull, IsPruned, HasPlaces, cut_off, Places}
use Rattle.cut_sheets.proofs.RoundedUp.{up_from, up_holds}

full_leaves : (t : Tree) → IsFull t → 1 ≤ leaf_count t
full_leaves Rest f = absurd f
full_leaves (Piece d b) f = omega arith
full_leaves (Trim x a t) f = absurd f
full_leaves (Cut x a t u) f = omega (arith, full_leaves t f.0)

-- a kept tree of pieces takes more steps than a kerf
wide : (wants : List Want) (k s : ℕ) (t : Tree) (p q : ℕ) → 1 ≤ s → HaveSides wants → CutsInto (IsInside (wants_up k s wants)) t p q 0 → IsFull t → (k < p * s) × (k < q * s)
wide wants k s Rest p q pos sides l full = absurd full
wide wants k s (Piece d false) p q pos sides l full =
    let x = up_from k s wants l.0 l.1 in
    let sd = sides x.0 x.1 in
    let a : steps_up k s x.0.size.w ≤ p = omega (arith, ap (λ (z : Want). z.size.w) x.2, l.3) in
    let b : steps_up k s x.0.size.h ≤ q = omega (arith, ap (λ (z : Want). z.size.h) x.2, l.3) in (
      omega (arith, up_holds k s x.0.size.w pos, mul-le (steps_up k s x.0.size.w) s p s a (le_refl s), sd),
      omega (arith, up_holds k s x.0.size.h pos, mul-le (steps_up k s x.0.size.h) s q s b (le_refl s), sd),
    )
wide wants k s (Piece d true) p q pos sides l full =
    let x = up_from k s wants l.0 l.1 in
    let sd = sides x.0 x.1 in
    let a : steps_up k s x.0.size.h ≤ p = omega (arith, ap (λ (z : Want). z.size.h) x.2, l.3) in
    let b : steps_up k s x.0.size.w ≤ q = omega (arith, ap (λ (z : Want). z.size.w) x.2, l.3) in (
      omega (arith, up_holds k s x.0.size.h pos, mul-le (steps_up k s x.0.size.h) s p s a (le_refl s), sd),
      omega (arith, up_holds k s x.0.size.w pos, mul-le (steps_up k s x.0.size.w) s q s b (le_refl s), sd),
    )
wide wants k s (Trim x a t) p q pos sides l full = absurd full
wide wants k s (Cut X a t u) p q pos sides l full =
    let r = wide wants k s t a q pos sides l.2 full.0 in
    (omega (arith, r.0, mul-le a s p s (omega (arith, l.1)) (le_refl s)), r.1)
wide wants k s (Cut Y a t u) p q pos sides l full =
    let r = wide wants k s t p a pos sides l.2 full.0 in
    (r.0, omega (arith, r.1, mul-le a s q s (omega (arith, l.1)) (le_refl s)))

-- the side of a piece fits where the steps of it do
side_in : (k s l p w : ℕ) → 1 ≤ s → steps_up k s l ≤ p → p * s ≤ w + k → l ≤ w
side_in k s l p w pos le span = omega (arith, up_holds k s l pos, mul-le (steps_up k s l) s p s le (le_refl s))

parts : (a p s : ℕ) → a < p → a * s + (p - a - 0) * s ≡ p * s
parts a p s lt = let e : a + (p - a - 0) ≡ p = omega arith in omega (arith, ap (λ n. n * s) e)

full_places : (wants : List Want) (k s : ℕ) (t : Tree) (p q w h : ℕ) → 1 ≤ s → HaveSides wants → CutsInto (IsInside (wants_up k s wants)) t p q 0 → IsFull t
    → p * s ≤ w + k → q * s ≤ h + k → HasPlaces wants k s t w h
full_places wants k s Rest p q w h pos sides l full pw qh = tt
full_places wants k s (Piece d false) p q w h pos sides l full pw qh =
    let x = up_from k s wants l.0 l.1 in
    let a : steps_up k s x.0.size.w ≤ p = omega (arith, ap (λ (z : Want). z.size.w) x.2, l.3) in
    let b : steps_up k s x.0.size.h ≤ q = omega (arith, ap (λ (z : Want). z.size.h) x.2, l.3) in
    (x.0, x.1, ap (λ (z : Want). z.demand) x.2 ∙ l.2, (side_in k s x.0.size.w p w pos a pw, side_in k s x.0.size.h q h pos b qh))
full_places wants k s (Piece d true) p q w h pos sides l full pw qh =
    let x = up_from k s wants l.0 l.1 in
    let a : steps_up k s x.0.size.h ≤ p = omega (arith, ap (λ (z : Want). z.size.h) x.2, l.3) in
    let b : steps_up k s x.0.size.w ≤ q = omega (arith, ap (λ (z : Want). z.size.w) x.2, l.3) in
    (x.0, x.1, ap (λ (z : Want). z.demand) x.2 ∙ l.2, (ap (λ (z : Want). z.may_turn) x.2 ∙ l.3.0, side_in k s x.0.size.h p w pos a pw, side_in k s x.0.size.w q h pos b qh))
full_places wants k s (Trim x a t) p q w h pos sides l full pw qh = absurd full
full_places wants k s (Cut X a t u) p q w h pos sides l full pw qh =
    let wt = (wide wants k s t a q pos sides l.2 full.0).0 in
    let wu = (wide wants k s u (p - a - 0) q pos sides l.3 full.1).0 in
    let sum = parts a p s (omega (arith, l.1)) in (
      wt,
      omega arith,
      full_places wants k s t a q (a * s - k) h pos sides l.2 full.0 (omega arith) qh,
      full_places wants k s u (p - a - 0) q (w - a * s) h pos sides l.3 full.1 (omega arith) qh,
    )
full_places wants k s (Cut Y a t u) p q w h pos sides l full pw qh =
    let wt = (wide wants k s t p a pos sides l.2 full.0).1 in
    let wu = (wide wants k s u p (q - a - 0) pos sides l.3 full.1).1 in
    let sum = parts a q s (omega (arith, l.1)) in (
      wt,
      omega arith,
      full_places wants k s t p a w (a * s - k) pos sides l.2 full.0 pw (omega arith),
      full_places wants k s u p (q - a - 0) w (h - a * s) pos sides l.3 full.1 pw (omega arith),
    )

-- a kept tree of the problem rounded up has places
pub kept_places : (wants : List Want) (k s : ℕ) (t : Tree) (p q w h : ℕ) → 1 ≤ s → HaveSides wants → CutsInto (IsInside (wants_up k s wants)) t p q 0 → IsPruned t
    → p * s ≤ w + k → q * s ≤ h + k → HasPlaces wants k s t w h
kept_places wants k s Rest p q w h pos sides l pruned pw qh = tt
kept_places wants k s (Piece d b) p q w h pos sides l pruned pw qh = full_places wants k s (Piece d b) p q w h pos sides l tt pw qh
kept_places wants k s (Trim x a t) p q w h pos sides l pruned pw qh = absurd pruned
kept_places wants k s (Cut x a t u) p q w h pos sides l pruned pw qh = full_places wants k s (Cut x a t u) p q w h pos sides l pruned pw qh

-- a legal tree is cut off a longer side
pub cut_off_x : (wants : List Want) (k l w h : ℕ) (t : Tree) → 1 ≤ l → l ≤ w → Legal wants k t l h → Legal wants k (cut_off X l w k t) w h
cut_off_x wants k l w h t one le legal = go (l == w) refl
  where
    short : (b : Bool) → nat_lt (l + k) w ≡ b → l < w → Legal wants k (if b then Cut X l t Rest else Trim X l t) w h
    short true e lt = (one, ltb-true (l + k) w e, legal, tt)
    short false e lt = (one, lt, ltb-false (l + k) w e, legal)

    go : (b : Bool) → (l == w) ≡ b → Legal wants k (cut_off X l w k t) w h
    go true e = rw e (subst (λ n. Legal wants k t n h) (eqb-true l w e) legal)
    go false e = rw e (elim (cases_lt l w) [ inl lt ↦ short (nat_lt (l + k) w) refl lt | inr ge ↦ absurd (eqb-false l w e (omega arith)) ])

pub cut_off_y : (wants : List Want) (k l w h : ℕ) (t : Tree) → 1 ≤ l → l ≤ h → Legal wants k t w l → Legal wants k (cut_off Y l h k t) w h
cut_off_y wants k l w h t one le legal = go (l == h) refl
  where
    short : (b : Bool) → nat_lt (l + k) h ≡ b → l < h → Legal wants k (if b then Cut Y l t Rest else Trim Y l t) w h
    short true e lt = (one, ltb-true (l + k) h e, legal, tt)
    short false e lt = (one, lt, ltb-false (l + k) h e, legal)

    go : (b : Bool) → (l == h) ≡ b → Legal wants k (cut_off Y l h k t) w h
    go true e = rw e (subst (λ n. Legal wants k t w n) (eqb-true l h e) legal)
    go false e = rw e (elim (cases_lt l h) [ inl lt ↦ short (nat_lt (l + k) h) refl lt | inr ge ↦ absurd (eqb-false l h e (omega arith)) ])

pub cut_off_sum : (f : ℕ → ℕ) (axis : Axis) (l side k : ℕ) (t : Tree) → leaf_sum f (cut_off axis l side k t) ≡ leaf_sum f t
cut_off_sum f axis l side k t = go (l == side) (nat_lt (l + k) side)
  where
    go : (b d : Bool) → leaf_sum f (if b then t else (if d then Cut axis l t Rest else Trim axis l t)) ≡ leaf_sum f t
    go true d = refl
    go false true = omega arith
    go false false = refl

pub cut_off_cuts : (axis : Axis) (l side k : ℕ) (t : Tree) → cut_count (cut_off axis l side k t) ≤ cut_count t + 1
cut_off_cuts axis l side k t = go (l == side) (nat_lt (l + k) side)
  where
    go : (b d : Bool) → cut_count (if b then t else (if d then Cut axis l t Rest else Trim axis l t)) ≤ cut_count t + 1
    go true d = omega arith
    go false true = omega arith
    go false false = omega arith

same_size : (wants : List Want) (x y : Want) → HaveOwnDemands wants → Contains wants x → Contains wants y → x.demand ≡ y.demand → (x.size.w ≡ y.size.w) × (x.size.h ≡ y.size.h)
same_size wants x y own hx hy e = (
  sym (of_demand_found (λ z. z.size.w) wants x own hx) ∙ ap (of_demand (λ z. z.size.w) wants) e ∙ of_demand_found (λ z. z.size.w) wants y own hy,
  sym (of_demand_found (λ z. z.size.h) wants x own hx) ∙ ap (of_demand (λ z. z.size.h) wants) e ∙ of_demand_found (λ z. z.size.h) wants y own hy,
)

-- a piece in the corner, where `l` and `m` are its sides as it lies
corner : (wants : List Want) (k d : ℕ) (b : Bool) (l m w h : ℕ) → IsWantedPiece wants d b l m → 1 ≤ l → 1 ≤ m → l ≤ w → m ≤ h
    → Places wants k (Piece d b) w h (cut_off X l w k (cut_off Y m h k (Piece d b)))
corner wants k d b l m w h is one one' lw mh = record {
  legal = cut_off_x wants k l w h (cut_off Y m h k (Piece d b)) one lw (cut_off_y wants k m l h (Piece d b) one' mh is);
  sums = λ f. cut_off_sum f X l w k (cut_off Y m h k (Piece d b)) ∙ cut_off_sum f Y m h k (Piece d b);
  few_cuts = omega (arith, cut_off_cuts X l w k (cut_off Y m h k (Piece d b)), cut_off_cuts Y m h k (Piece d b));
}

pub corner_upright : (wants : List Want) (k d : ℕ) (w h : ℕ) (size : Size) → HaveOwnDemands wants → IsInside wants d false w h
    → (x : Want) × Contains wants x × (x.demand ≡ d) × (x.size ≡ size) → 1 ≤ size.w → 1 ≤ size.h
    → Places wants k (Piece d false) w h (cut_off X size.w w k (cut_off Y size.h h k (Piece d false)))
corner_upright wants k d w h size own in_ f one one' =
    let s = same_size wants in_.0 f.0 own in_.1 f.1 (in_.2 ∙ sym f.2) in
    let e : in_.0.size.w ≡ size.w = s.0 ∙ ap (λ (z : Size). z.w) f.3 in
    let e' : in_.0.size.h ≡ size.h = s.1 ∙ ap (λ (z : Size). z.h) f.3 in
    corner wants k d false size.w size.h w h (in_.0, in_.1, in_.2, (e, e')) one one' (omega (arith, in_.3)) (omega (arith, in_.3))

pub corner_turned : (wants : List Want) (k d : ℕ) (w h : ℕ) (size : Size) → HaveOwnDemands wants → IsInside wants d true w h
    → (x : Want) × Contains wants x × (x.demand ≡ d) × (x.size ≡ size) → 1 ≤ size.w → 1 ≤ size.h
    → Places wants k (Piece d true) w h (cut_off X size.h w k (cut_off Y size.w h k (Piece d true)))
corner_turned wants k d w h size own in_ f one one' =
    let s = same_size wants in_.0 f.0 own in_.1 f.1 (in_.2 ∙ sym f.2) in
    let e : in_.0.size.w ≡ size.w = s.0 ∙ ap (λ (z : Size). z.w) f.3 in
    let e' : in_.0.size.h ≡ size.h = s.1 ∙ ap (λ (z : Size). z.h) f.3 in
    corner wants k d true size.h size.w w h (in_.0, in_.1, in_.2, (in_.3.0, e', e)) one' one (omega (arith, in_.3)) (omega (arith, in_.3))

pub places_x : (wants : List Want) (k s a w h : ℕ) (t u t' u' : Tree) → IsFull t → IsFull u → k < a * s → a * s < w
    → Places wants k t (a * s - k) h t' → Places wants k u (w - a * s) h u' → Places wants k (Cut X a t u) w h (Cut X (a * s - k) t' u')
places_x wants k s a w h t u t' u' ft fu low high p q =
    let there : w - a * s ≡ w - (a * s - k) - k = omega arith in
    record {
      legal = (omega arith, omega arith, p.legal, subst (λ n. Legal wants k u' n h) there q.legal);
      sums = λ f. omega (arith, p.sums f, q.sums f);
      few_cuts = omega (arith, p.few_cuts, q.few_cuts, full_leaves t ft, full_leaves u fu);
    }

pub places_y : (wants : List Want) (k s a w h : ℕ) (t u t' u' : Tree) → IsFull t → IsFull u → k < a * s → a * s < h
    → Places wants k t w (a * s - k) t' → Places wants k u w (h - a * s) u' → Places wants k (Cut Y a t u) w h (Cut Y (a * s - k) t' u')
places_y wants k s a w h t u t' u' ft fu low high p q =
    let there : h - a * s ≡ h - (a * s - k) - k = omega arith in
    record {
      legal = (omega arith, omega arith, p.legal, subst (λ n. Legal wants k u' w n) there q.legal);
      sums = λ f. omega (arith, p.sums f, q.sums f);
      few_cuts = omega (arith, p.few_cuts, q.few_cuts, full_leaves t ft, full_leaves u fu);
    }

full_pruned : (t : Tree) → IsFull t → IsPruned t
full_pruned Rest full = tt
full_pruned (Piece d b) full = tt
full_pruned (Trim x a t) full = absurd full
full_pruned (Cut x a t u) full = full

-- a kept tree that has places is laid out as some tree
pub laid_out : (wants : List Want) (k s : ℕ) (t : Tree) (w h : ℕ) → HaveOwnDemands wants → HaveSides wants → IsPruned t → HasPlaces wants k s t w h
    → (placed : Tree) × Places wants k t w h placed
laid_out wants k s Rest w h own sides pruned places = (Rest, record { legal = tt; sums = λ f. refl; few_cuts = omega arith })
laid_out wants k s (Piece d false) w h own sides pruned places =
    let one = sides places.0 places.1 in
    (_, corner_upright wants k d w h places.0.size own places (places.0, places.1, places.2, refl) one.0 one.1)
laid_out wants k s (Piece d true) w h own sides pruned places =
    let one = sides places.0 places.1 in
    (_, corner_turned wants k d w h places.0.size own places (places.0, places.1, places.2, refl) one.0 one.1)
laid_out wants k s (Trim x a t) w h own sides pruned places = absurd pruned
laid_out wants k s (Cut X a t u) w h own sides pruned places =
    let first = laid_out wants k s t (a * s - k) h own sides (full_pruned t pruned.0) places.2 in
    let second = laid_out wants k s u (w - a * s) h own sides (full_pruned u pruned.1) places.3 in
    (Cut X (a * s - k) first.0 second.0, places_x wants k s a w h t u first.0 second.0 pruned.0 pruned.1 places.0 places.1 first.1 second.1)
laid_out wants k s (Cut Y a t u) w h own sides pruned places =
    let first = laid_out wants k s t w (a * s - k) own sides (full_pruned t pruned.0) places.2 in
    let second = laid_out wants k s u w (h - a * s) own sides (full_pruned u pruned.1) places.3 in
    (Cut Y (a * s - k) first.0 second.0, places_y wants k s a w h t u first.0 second.0 pruned.0 pruned.1 places.0 places.1 first.1 second.1)

-- each piece but one has a cut
pub leaf_count-le_cuts : (t : Tree) → leaf_count t ≤ cut_count t + 1
leaf_count-le_cuts Rest = omega arith
leaf_count-le_cuts (Piece d b) = omega arith
leaf_count-le_cuts (Trim x a t) = omega (arith, leaf_count-le_cuts t)
leaf_count-le_cuts (Cut x a t u) = omega (arith, leaf_count-le_cuts t, leaf_count-le_cuts u)
