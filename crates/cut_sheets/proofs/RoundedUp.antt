-- A tree of the problem rounded up becomes a legal one, with the same pieces and few cuts.
use Rattle.std.proofs.Common.{◌≡◌, ℕ, ◌+◌, ◌-◌, ◌*◌, ◌/◌, ◌<◌, ◌≤◌, Bool, true, false, List, [], ◌∷◌, refl, ap, ◌∙◌, subst, inl, inr, arith}
use Rattle.std.specs.Prelude.{Contains, IsTrue, nat_le, ◌&&◌, ◌||◌}
use Rattle.std.proofs.lemmas.Bool.{cases_lt, leb-true, and_parts}
use Rattle.std.proofs.lemmas.Nat.{mul-le}
use Rattle.std.proofs.lemmas.Grind.{div_ceil_times}
use Rattle.std.proofs.Math.Nat.{le_refl}
use Rattle.cut_wants.specs.declared.wants.Want.{Want}
use Rattle.cut_tree.specs.Tree.{Tree, leaf_sum, cut_count, Rest, Piece, Trim, Cut}
use Rattle.cut_measure.specs.declared.sizes.Axis.TheVariants.{X, Y}
use Rattle.cut_wants.specs.Legal.{IsWantedPiece, Legal, leaf_count}
use Rattle.cut_sheets.specs.Rounded.{steps_up, want_up, wants_up}
use Rattle.cut_wants.proofs.LeafSums.{Contains-cases, Contains-head, Contains-tail}

pub up_from : (k s : ℕ) (xs : List Want) (y : Want) → Contains (wants_up k s xs) y → (x : Want) × Contains xs x × (want_up k s x ≡ y)
up_from k s [] y has = absurd (omega (arith, has.1))
up_from k s (x ∷ xs) y has =
    elim (Contains-cases (want_up k s x) (wants_up k s xs) y has) [
      | inl e ↦ (x, Contains-head x xs, e)
      | inr h ↦ let r = up_from k s xs y h in (r.0, Contains-tail x xs r.0 r.1, r.2)
    ]

pub up_holds : (k s l : ℕ) → 1 ≤ s → l + k ≤ steps_up k s l * s
up_holds k s l pos = (div_ceil_times (l + k) s pos).0

-- the side of a piece that was rounded up fits where its steps fit
pub side_fits : (k s l p w : ℕ) → 1 ≤ s → steps_up k s l ≡ p → p * s ≤ w + k → l ≤ w
side_fits k s l p w pos e le = omega (arith, up_holds k s l pos, ap (λ n. n * s) e)

none_sum : (f : ℕ → ℕ) (t : Tree) → leaf_count t ≡ 0 → leaf_sum f t ≡ 0
none_sum f Rest z = refl
none_sum f (Piece d b) z = absurd (omega arith)
none_sum f (Trim X a t) z = none_sum f t z
none_sum f (Trim Y a t) z = none_sum f t z
none_sum f (Cut X a t u) z = omega (arith, none_sum f t (omega arith), none_sum f u (omega arith))
none_sum f (Cut Y a t u) z = omega (arith, none_sum f t (omega arith), none_sum f u (omega arith))

-- a piece takes more steps than a kerf
wide : (wants : List Want) (k s : ℕ) (t : Tree) (p q : ℕ) → 1 ≤ s → ((x : Want) → Contains wants x → (1 ≤ x.size.w) × (1 ≤ x.size.h)) → Legal (wants_up k s wants) 0 t p q → 0 < leaf_count t → (k < p * s) × (k < q * s)
wide wants k s Rest p q pos sides l some = absurd (omega arith)
wide wants k s (Piece d false) p q pos sides l some =
    let x = up_from k s wants l.0 l.1 in
    let a : steps_up k s x.0.size.w ≡ p = ap (λ (z : Want). z.size.w) x.2 ∙ l.3.0 in
    let b : steps_up k s x.0.size.h ≡ q = ap (λ (z : Want). z.size.h) x.2 ∙ l.3.1 in
    let sd = sides x.0 x.1 in
    (omega (arith, up_holds k s x.0.size.w pos, ap (λ n. n * s) a, sd), omega (arith, up_holds k s x.0.size.h pos, ap (λ n. n * s) b, sd))
wide wants k s (Piece d true) p q pos sides l some =
    let x = up_from k s wants l.0 l.1 in
    let a : steps_up k s x.0.size.h ≡ p = ap (λ (z : Want). z.size.h) x.2 ∙ l.3.1 in
    let b : steps_up k s x.0.size.w ≡ q = ap (λ (z : Want). z.size.w) x.2 ∙ l.3.2 in
    let sd = sides x.0 x.1 in
    (omega (arith, up_holds k s x.0.size.h pos, ap (λ n. n * s) a, sd), omega (arith, up_holds k s x.0.size.w pos, ap (λ n. n * s) b, sd))
wide wants k s (Trim X a t) p q pos sides l some = absurd (omega (arith, l.1, l.2))
wide wants k s (Trim Y a t) p q pos sides l some = absurd (omega (arith, l.1, l.2))
wide wants k s (Cut X a t u) p q pos sides l some =
    let here = mul-le a s p s (omega (arith, l.1)) (le_refl s) in
    let there = mul-le (p - a - 0) s p s (omega arith) (le_refl s) in
    elim (cases_lt 0 (leaf_count t)) [
      | inl st ↦ let r = wide wants k s t a q pos sides l.2 st in (omega (arith, r.0), r.1)
      | inr zt ↦ let r = wide wants k s u (p - a - 0) q pos sides l.3 (omega arith) in (omega (arith, r.0), r.1)
    ]
wide wants k s (Cut Y a t u) p q pos sides l some =
    let here = mul-le a s q s (omega (arith, l.1)) (le_refl s) in
    let there = mul-le (q - a - 0) s q s (omega arith) (le_refl s) in
    elim (cases_lt 0 (leaf_count t)) [
      | inl st ↦ let r = wide wants k s t p a pos sides l.2 st in (r.0, omega (arith, r.1))
      | inr zt ↦ let r = wide wants k s u p (q - a - 0) pos sides l.3 (omega arith) in (r.0, omega (arith, r.1))
    ]

-- a legal tree with these sums, and at most so many cuts
pub record Placed (wants : List Want) (k w h cuts : ℕ) (g : (ℕ → ℕ) → ℕ) : Type 0 where
  pub tree : Tree
  pub legal : Legal wants k tree w h
  pub sums : (f : ℕ → ℕ) → leaf_sum f tree ≡ g f
  pub few : cut_count tree ≤ cuts

wider : (wants : List Want) (k l w h n : ℕ) (g : (ℕ → ℕ) → ℕ) → 1 ≤ l → l ≤ w → Placed wants k l h n g → Placed wants k w h (n + 1) g
wider wants k l w h n g one le p =
    elim (cases_lt l w) [
      | inr ge ↦ let e : l ≡ w = omega arith in
          record { tree = p.tree; legal = subst (λ m. Legal wants k p.tree m h) e p.legal; sums = p.sums; few = omega (arith, p.few) }
      | inl lt ↦ elim (cases_lt (l + k) w) [
        | inl span ↦ record { tree = Cut X l p.tree Rest; legal = (one, span, p.legal, tt); sums = λ f. omega (arith, p.sums f); few = omega (arith, p.few) }
        | inr edge ↦ record { tree = Trim X l p.tree; legal = (one, lt, edge, p.legal); sums = p.sums; few = omega (arith, p.few) }
      ]
    ]

taller : (wants : List Want) (k w l h n : ℕ) (g : (ℕ → ℕ) → ℕ) → 1 ≤ l → l ≤ h → Placed wants k w l n g → Placed wants k w h (n + 1) g
taller wants k w l h n g one le p =
    elim (cases_lt l h) [
      | inr ge ↦ let e : l ≡ h = omega arith in
          record { tree = p.tree; legal = subst (λ m. Legal wants k p.tree w m) e p.legal; sums = p.sums; few = omega (arith, p.few) }
      | inl lt ↦ elim (cases_lt (l + k) h) [
        | inl span ↦ record { tree = Cut Y l p.tree Rest; legal = (one, span, p.legal, tt); sums = λ f. omega (arith, p.sums f); few = omega (arith, p.few) }
        | inr edge ↦ record { tree = Trim Y l p.tree; legal = (one, lt, edge, p.legal); sums = p.sums; few = omega (arith, p.few) }
      ]
    ]

piece_up : (wants : List Want) (k d : ℕ) (b : Bool) (l m w h : ℕ) → Legal wants k (Piece d b) l m → 1 ≤ l → 1 ≤ m → l ≤ w → m ≤ h → Placed wants k w h 2 (λ f. f d)
piece_up wants k d b l m w h legal one one' lw mh =
    wider wants k l w h 1 (λ f. f d) one lw (taller wants k l m h 0 (λ f. f d) one' mh (record { tree = Piece d b; legal = legal; sums = λ f. refl; few = omega arith }))

-- one of the two parts has no piece, or both do
pub round_up : (wants : List Want) (k s : ℕ) → 1 ≤ s → ((x : Want) → Contains wants x → (1 ≤ x.size.w) × (1 ≤ x.size.h)) → (t : Tree) (p q w h : ℕ)
    → Legal (wants_up k s wants) 0 t p q → p * s ≤ w + k → q * s ≤ h + k → Placed wants k w h (3 * leaf_count t - 1) (λ f. leaf_sum f t)
round_up wants k s pos sides Rest p q w h l pw qh = record { tree = Rest; legal = tt; sums = λ f. refl; few = omega arith }
round_up wants k s pos sides (Piece d false) p q w h l pw qh =
    let x = up_from k s wants l.0 l.1 in
    let a : steps_up k s x.0.size.w ≡ p = ap (λ (z : Want). z.size.w) x.2 ∙ l.3.0 in
    let b : steps_up k s x.0.size.h ≡ q = ap (λ (z : Want). z.size.h) x.2 ∙ l.3.1 in
    let is : IsWantedPiece wants d false x.0.size.w x.0.size.h = (x.0, x.1, ap (λ (z : Want). z.demand) x.2 ∙ l.2, (refl, refl)) in
    piece_up wants k d false x.0.size.w x.0.size.h w h is (sides x.0 x.1).0 (sides x.0 x.1).1 (side_fits k s x.0.size.w p w pos a pw) (side_fits k s x.0.size.h q h pos b qh)
round_up wants k s pos sides (Piece d true) p q w h l pw qh =
    let x = up_from k s wants l.0 l.1 in
    let a : steps_up k s x.0.size.h ≡ p = ap (λ (z : Want). z.size.h) x.2 ∙ l.3.1 in
    let b : steps_up k s x.0.size.w ≡ q = ap (λ (z : Want). z.size.w) x.2 ∙ l.3.2 in
    let is : IsWantedPiece wants d true x.0.size.h x.0.size.w = (x.0, x.1, ap (λ (z : Want). z.demand) x.2 ∙ l.2, (ap (λ (z : Want). z.may_turn) x.2 ∙ l.3.0, refl, refl)) in
    piece_up wants k d true x.0.size.h x.0.size.w w h is (sides x.0 x.1).1 (sides x.0 x.1).0 (side_fits k s x.0.size.h p w pos a pw) (side_fits k s x.0.size.w q h pos b qh)
round_up wants k s pos sides (Trim X a t) p q w h l pw qh = absurd (omega (arith, l.1, l.2))
round_up wants k s pos sides (Trim Y a t) p q w h l pw qh = absurd (omega (arith, l.1, l.2))
round_up wants k s pos sides (Cut X a t u) p q w h l pw qh =
    let e : a + (p - a - 0) ≡ p = omega (arith, l.1) in
    let parts : a * s + (p - a - 0) * s ≡ p * s = omega (arith, ap (λ n. n * s) e) in
    elim (cases_lt 0 (leaf_count t)) [
      | inr zt ↦
          let r = round_up wants k s pos sides u (p - a - 0) q w h l.3 (omega arith) qh in
          record { tree = r.tree; legal = r.legal; sums = λ f. omega (arith, r.sums f, none_sum f t (omega arith)); few = omega (arith, r.few) }
      | inl st ↦ elim (cases_lt 0 (leaf_count u)) [
        | inr zu ↦
            let r = round_up wants k s pos sides t a q w h l.2 (omega arith) qh in
            record { tree = r.tree; legal = r.legal; sums = λ f. omega (arith, r.sums f, none_sum f u (omega arith)); few = omega (arith, r.few) }
        | inl su ↦
            let wt = (wide wants k s t a q pos sides l.2 st).0 in
            let wu = (wide wants k s u (p - a - 0) q pos sides l.3 su).0 in
            let r = round_up wants k s pos sides t a q (a * s - k) h l.2 (omega arith) qh in
            let r' = round_up wants k s pos sides u (p - a - 0) q (w - (a * s - k) - k) h l.3 (omega arith) qh in
            record {
              tree = Cut X (a * s - k) r.tree r'.tree;
              legal = (omega arith, omega arith, r.legal, r'.legal);
              sums = λ f. omega (arith, r.sums f, r'.sums f);
              few = omega (arith, r.few, r'.few);
            }
      ]
    ]
round_up wants k s pos sides (Cut Y a t u) p q w h l pw qh =
    let e : a + (q - a - 0) ≡ q = omega (arith, l.1) in
    let parts : a * s + (q - a - 0) * s ≡ q * s = omega (arith, ap (λ n. n * s) e) in
    elim (cases_lt 0 (leaf_count t)) [
      | inr zt ↦
          let r = round_up wants k s pos sides u p (q - a - 0) w h l.3 pw (omega arith) in
          record { tree = r.tree; legal = r.legal; sums = λ f. omega (arith, r.sums f, none_sum f t (omega arith)); few = omega (arith, r.few) }
      | inl st ↦ elim (cases_lt 0 (leaf_count u)) [
        | inr zu ↦
            let r = round_up wants k s pos sides t p a w h l.2 pw (omega arith) in
            record { tree = r.tree; legal = r.legal; sums = λ f. omega (arith, r.sums f, none_sum f u (omega arith)); few = omega (arith, r.few) }
        | inl su ↦
            let wt = (wide wants k s t p a pos sides l.2 st).1 in
            let wu = (wide wants k s u p (q - a - 0) pos sides l.3 su).1 in
            let r = round_up wants k s pos sides t p a w (a * s - k) l.2 pw (omega arith) in
            let r' = round_up wants k s pos sides u p (q - a - 0) w (h - (a * s - k) - k) l.3 pw (omega arith) in
            record {
              tree = Cut Y (a * s - k) r.tree r'.tree;
              legal = (omega arith, omega arith, r.legal, r'.legal);
              sums = λ f. omega (arith, r.sums f, r'.sums f);
              few = omega (arith, r.few, r'.few);
            }
      ]
    ]

-- a want that fits a unit is cut from it
pub fitted : (k : ℕ) (wants : List Want) (x : Want) (w h : ℕ) → Contains wants x → 1 ≤ x.size.w → 1 ≤ x.size.h
    → IsTrue ((nat_le x.size.w w && nat_le x.size.h h) || (x.may_turn && nat_le x.size.h w && nat_le x.size.w h)) → Placed wants k w h 2 (λ f. f x.demand)
fitted k wants x w h has one one' fits = go (nat_le x.size.w w && nat_le x.size.h h) refl
  where
    turned : ((nat_le x.size.w w && nat_le x.size.h h) ≡ false) → Placed wants k w h 2 (λ f. f x.demand)
    turned e =
        let b : (x.may_turn && nat_le x.size.h w && nat_le x.size.w h) ≡ true = rw e at fits in
        let c = and_parts (x.may_turn && nat_le x.size.h w) (nat_le x.size.w h) b in
        let d = and_parts x.may_turn (nat_le x.size.h w) c.0 in
        piece_up wants k x.demand true x.size.h x.size.w w h (x, has, refl, (d.0, refl, refl)) one' one (leb-true x.size.h w d.1) (leb-true x.size.w h c.1)

    go : (b : Bool) → (nat_le x.size.w w && nat_le x.size.h h) ≡ b → Placed wants k w h 2 (λ f. f x.demand)
    go false e = turned e
    go true e =
        let c = and_parts (nat_le x.size.w w) (nat_le x.size.h h) e in
        piece_up wants k x.demand false x.size.w x.size.h w h (x, has, refl, (refl, refl)) one one' (leb-true x.size.w w c.0) (leb-true x.size.h h c.1)
