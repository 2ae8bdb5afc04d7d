-- Which pieces a size holds.
use Rattle.std.proofs.Common.{◌≡◌, ℕ, ◌-◌, ◌≤◌, Bool, true, false, cond, eqb, List, refl, ap, sym, subst, ◌∙◌, inl, inr, arith}
use Rattle.std.specs.Prelude.{◌||◌, Contains, IsTrue, if◌then◌else◌, ◌==◌}
use Rattle.std.proofs.lemmas.Bool.{and_from, cases_lt, eq-eqb, false≢true, le-leb}
use Rattle.std.proofs.lemmas.Bool.Decides.{eqb_tells}
use Rattle.std.proofs.Math.Nat.{le_refl}
use Rattle.cut_measure.specs.declared.sizes.Axis.TheVariants.{X, Y}
use Rattle.cut_measure.specs.Measures.{Size}
use Rattle.cut_tree.specs.Tree.{Tree, Piece, Rest, Trim, Cut, count_of}
use Rattle.cut_wants.specs.declared.wants.Want.{Want}
use Rattle.cut_wants.specs.Legal.{HasSides, HaveOwnDemands, IsWantedPiece, Legal, of_demand}
use Rattle.cut_wants.proofs.LeafSums.{of_demand_found}
use Rattle.cut_sheets.proofs.RoundedUp.{fitted}
use Rattle.cut_plan.specs.Faults.{is_fitting}
use Rattle.cut_bound.specs.Planned.{HoldsPiece}

-- a want's piece that fits, alone on the size
pub held : (wants : List Want) (k : ℕ) (size : Size) (x : Want) → Contains wants x → 1 ≤ x.size.w → 1 ≤ x.size.h → IsTrue (is_fitting size x) → HoldsPiece wants k size x
held wants k size x has wide tall fits =
    let p = fitted k wants x size.w size.h has wide tall fits in
    let one : count_of p.tree x.demand ≡ cond (eqb x.demand x.demand) 1 0 = p.sums (λ f. if f == x.demand then 1 else 0) in
    record { tree = p.tree; legal = p.legal; some_piece = omega (arith, rw (eq-eqb x.demand x.demand refl) at one) }

-- a wanted piece of a demand with sides no longer than these
record IsSmallPiece (wants : List Want) (d w h : ℕ) : Type 0 where
  turned : Bool
  across : ℕ
  down : ℕ
  wide : across ≤ w
  tall : down ≤ h
  wanted : IsWantedPiece wants d turned across down

wider : (wants : List Want) (d w h v i : ℕ) → w ≤ v → h ≤ i → IsSmallPiece wants d w h → IsSmallPiece wants d v i
wider wants d w h v i wide tall p =
    record { turned = p.turned; across = p.across; down = p.down; wide = omega (arith, p.wide, wide); tall = omega (arith, p.tall, tall); wanted = p.wanted }

-- each piece of a legal tree has sides no longer than the tree's
small : (wants : List Want) (k : ℕ) (t : Tree) (w h d : ℕ) → Legal wants k t w h → 1 ≤ count_of t d → IsSmallPiece wants d w h
small wants k Rest w h d l some = absurd (omega (arith, some))
small wants k (Piece e turned) w h d l some =
    elim (eqb_tells e d) [
      | inl (test, same) ↦ record {
        turned = turned;
        across = w;
        down = h;
        wide = le_refl w;
        tall = le_refl h;
        wanted = subst (λ f. IsWantedPiece wants f turned w h) same l;
      }
      | inr (test, other) ↦
          let here : 1 ≤ cond {A = ℕ} (eqb e d) 1 0 = some in
          absurd (omega (arith, rw test at here))
    ]
small wants k (Trim X a t) w h d l some = wider wants d a h w h (omega (arith, l.1)) (le_refl h) (small wants k t a h d l.3 some)
small wants k (Trim Y a t) w h d l some = wider wants d w a w h (le_refl w) (omega (arith, l.1)) (small wants k t w a d l.3 some)
small wants k (Cut X a t u) w h d l some =
    elim (cases_lt 0 (count_of t d)) [
      | inl more ↦ wider wants d a h w h (omega (arith, l.1)) (le_refl h) (small wants k t a h d l.2 more)
      | inr none ↦ wider wants d (w - a - k) h w h (omega arith) (le_refl h) (small wants k u (w - a - k) h d l.3 (omega (arith, some, none)))
    ]
small wants k (Cut Y a t u) w h d l some =
    elim (cases_lt 0 (count_of t d)) [
      | inl more ↦ wider wants d w a w h (le_refl w) (omega (arith, l.1)) (small wants k t w a d l.2 more)
      | inr none ↦ wider wants d w (h - a - k) w h (le_refl w) (omega arith) (small wants k u w (h - a - k) d l.3 (omega (arith, some, none)))
    ]

or_first : (a b : Bool) → a ≡ true → (a || b) ≡ true
or_first true b is = refl
or_first false b is = absurd (false≢true is)

or_second : (a b : Bool) → b ≡ true → (a || b) ≡ true
or_second true b is = refl
or_second false b is = is

same_bit : (a b : Bool) → a ≡ true → cond {A = ℕ} a 1 0 ≡ cond b 1 0 → b ≡ true
same_bit a true is same = refl
same_bit a false is same = absurd (omega (arith, rw is at same))

-- a want with the sides of a piece that is no longer fits
by_sides : (size : Size) (x y : Want) (turned : Bool) (w h : ℕ) → ((f : Want → ℕ) → f y ≡ f x) → HasSides y turned w h → w ≤ size.w → h ≤ size.h → IsTrue (is_fitting size x)
by_sides size x y false w h same sides wide tall =
    or_first _ _ (and_from _ _ (le-leb x.size.w size.w (omega (arith, same (λ z. z.size.w), sides.0))) (le-leb x.size.h size.h (omega (arith, same (λ z. z.size.h), sides.1))))
by_sides size x y true w h same sides wide tall =
    or_second _ _
    (and_from _ _ (and_from _ _ (same_bit y.may_turn x.may_turn sides.0 (same (λ z. cond z.may_turn 1 0))) (le-leb x.size.h size.w (omega (arith, same (λ z. z.size.h), sides.1))))
    (le-leb x.size.w size.h (omega (arith, same (λ z. z.size.w), sides.2))))

pub fitting : (wants : List Want) (k : ℕ) (size : Size) (x : Want) → HaveOwnDemands wants → Contains wants x → HoldsPiece wants k size x → IsTrue (is_fitting size x)
fitting wants k size x own has is =
    let p = small wants k is.tree size.w size.h x.demand is.legal is.some_piece in
    let y = p.wanted.0 in
    let same = λ (f : Want → ℕ). sym (of_demand_found f wants y own p.wanted.1) ∙ ap (of_demand f wants) p.wanted.2 ∙ of_demand_found f wants x own has in
    by_sides size x y p.turned p.across p.down same p.wanted.3 p.wide p.tall
