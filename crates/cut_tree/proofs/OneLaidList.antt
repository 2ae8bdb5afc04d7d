-- Rows that are laid for one tree are one list.
use Rattle.std.proofs.Common.{◌≡◌, ℕ, zero, suc, ◌+◌, ◌<◌, ◌≤◌, List, [], ◌∷◌, length, get_or, refl, ap, subst, sym, ◌∙◌, arith, ◌⊎◌, inl, inr}
use Rattle.std.specs.Prelude.{All, Any, AllPairs}
use Rattle.cut_tree.specs.declared.lay.Row.{Row}
use Rattle.cut_tree.specs.Tree.{Tree, IsShaped, count_of}
use Rattle.cut_tree.specs.Cells.{Outcome, Location, location_of, all_made}
use Rattle.cut_tree.specs.Laying.{CoversCell, IsLocation, Owns, IsLaid}
use Rattle.cut_tree.specs.Nodes.{rows_of}
use Rattle.cut_tree.proofs.CoveredCells.{laid}
use Rattle.cut_tree.proofs.PieceRows.{pieces, all_pieces, few_pieces}

abbrev In : Row → List Row → Type 0
In r [] = ⊥
In r (s ∷ rows) = (r ≡ s) ⊎ In r rows

abbrev Rising : List Row → Type 0
Rising rows = AllPairs (λ r s. r.node < s.node) rows

element : (rows : List Row) (k : ℕ) (d : Row) → k < length rows → In (get_or rows k d) rows
element [] k d l = absurd (omega arith)
element (r ∷ rows) zero d l = inl refl
element (r ∷ rows) (suc k) d l = inr (element rows k d (omega arith))

place : (r : Row) (rows : List Row) → In r rows → (k : ℕ) × (k < length rows) × (get_or rows k r ≡ r)
place r [] p = absurd p
place r (s ∷ rows) (inl e) = (0, omega arith, sym e)
place r (s ∷ rows) (inr p) = let more = place r rows p in let l : more.0 < length rows = more.1 in (suc more.0, omega arith, more.2)

-- a later row has a higher node
above : (n : ℕ) (r : Row) (rows : List Row) → All (λ s. n < s.node) rows → In r rows → n < r.node
above n r [] high p = absurd p
above n r (s ∷ rows) high (inl e) = let first : n < s.node = high 0 s (omega arith) in let same : r.node ≡ s.node = ap (λ v. v.node) e in omega arith
above n r (s ∷ rows) high (inr p) = above n r rows (λ k d l. high (suc k) d (omega arith)) p

after_first : (r : Row) (rows : List Row) → Rising (r ∷ rows) → All (λ s. r.node < s.node) rows
after_first r rows rising = λ k d l. rising 0 (suc k) d (omega arith) (omega arith)

without_first : (r : Row) (rows : List Row) → Rising (r ∷ rows) → Rising rows
without_first r rows rising = λ i j d lt l. rising (suc i) (suc j) d (omega arith) (omega arith)

-- the first rows of two lists are one
one_first : (r s : Row) (rows more : List Row) → All (λ v. r.node < v.node) rows → All (λ v. s.node < v.node) more → In r (s ∷ more) → In s (r ∷ rows) → r ≡ s
one_first r s rows more high low (inl e) q = e
one_first r s rows more high low (inr p) (inl e) = sym e
one_first r s rows more high low (inr p) (inr q) =
    let a : s.node < r.node = above s.node r more low p in let b : r.node < s.node = above r.node s rows high q in absurd (omega arith)

in_rest : (v r s : Row) (rows more : List Row) → r ≡ s → All (λ u. r.node < u.node) rows → In v rows → In v (s ∷ more) → In v more
in_rest v r s rows more first high p (inl e) =
    let a : r.node < v.node = above r.node v rows high p in let b : v.node ≡ r.node = ap (λ u. u.node) (e ∙ sym first) in absurd (omega arith)
in_rest v r s rows more first high p (inr q) = q

-- two rising lists of the same rows
one_list : (rows more : List Row) → Rising rows → Rising more → ((r : Row) → In r rows → In r more) → ((r : Row) → In r more → In r rows) → rows ≡ more
one_list [] [] p q to from = refl
one_list [] (s ∷ more) p q to from = absurd (from s (inl refl))
one_list (r ∷ rows) [] p q to from = absurd (to r (inl refl))
one_list (r ∷ rows) (s ∷ more) p q to from =
    let high = after_first r rows p in let low = after_first s more q in
    let first : r ≡ s = one_first r s rows more high low (to r (inl refl)) (from s (inl refl)) in
    let rest : rows ≡ more = one_list rows more (without_first r rows p) (without_first s more q)
    (λ v i. in_rest v r s rows more first high i (to v (inr i)))
    (λ v i. in_rest v s r more rows (sym first) low i (from v (inr i))) in
    λ i. first i ∷ rest i

same_place : (a b at : ℕ) (x y : ℕ) → a + x ≡ at → b + y ≡ at → x ≡ y → a ≡ b
same_place a b at x y p q e = omega arith

-- where one cell's location is, there is one row
one_row_at : (r s : Row) (v : Location) (x y : ℕ) → IsLocation r v x y → IsLocation s v x y → r ≡ s
one_row_at r s v x y p q =
    let node : r.node ≡ s.node = sym p.node ∙ q.node in
    let owner : r.owner ≡ s.owner = sym p.owner ∙ q.owner in
    let w : r.w ≡ s.w = sym p.w ∙ q.w in
    let h : r.h ≡ s.h = sym p.h ∙ q.h in
    let left : r.x ≡ s.x = same_place r.x s.x x v.x v.x p.x q.x refl in
    let top : r.y ≡ s.y = same_place r.y s.y y v.y v.y p.y q.y refl in
    λ i. record { node = node i; x = left i; y = top i; w = w i; h = h i; owner = owner i }

held : (r s : Row) (x y : ℕ) → r ≡ s → CoversCell s x y → CoversCell r x y
held r s x y e h = subst (λ (v : Row). CoversCell v x y) (sym e) h

in_same : (r s : Row) (rows : List Row) → r ≡ s → In r rows → In s rows
in_same r s rows e p = subst (λ (v : Row). In v rows) e p

module _ (t : Tree) (w h k : ℕ) (outcome : ℕ → Outcome) where
  -- each row of one list is in the other
  row_there : (rows more : List Row) → IsLaid t w h k outcome rows → IsLaid t w h k outcome more → (n : ℕ) (d : Row) → n < length rows → In (get_or rows n d) more
  row_there rows more p q n d l =
      let here : Row = get_or rows n d in
      let some : (0 < here.w) × (0 < here.h) = p.some_cell n d l in
      let wide : 0 < here.w = some.0 in let high : 0 < here.h = some.1 in
      let corner : CoversCell here here.x here.y = record { left = omega arith; right = omega arith; top = omega arith; bottom = omega arith } in
      let owns : Owns t w h k outcome here.node here.owner here.x here.y = (p.own_cells n d l here.x here.y).0 corner in
      let a : Any (λ s. CoversCell s here.x here.y) more = q.each_cell here.x here.y owns.inside_width owns.inside_height in
      let there : Row = get_or more a.0 a.1 in
      let holds : CoversCell there here.x here.y = held there a.1 here.x here.y a.3 a.4 in
      in_same there here more
      (one_row_at there here (location_of t w h k outcome 0 0 here.x here.y) here.x here.y (q.own_place a.0 a.1 a.2 here.x here.y holds) (p.own_place n d l here.x here.y corner))
      (element more a.0 a.1 a.2)

  in_both : (rows more : List Row) → IsLaid t w h k outcome rows → IsLaid t w h k outcome more → (r : Row) → In r rows → In r more
  in_both rows more p q r i = let at = place r rows i in in_same (get_or rows at.0 r) r more at.2 (row_there rows more p q at.0 r at.1)

  -- rows that are laid for one tree
  pub one_laid : (rows more : List Row) → IsLaid t w h k outcome rows → IsLaid t w h k outcome more → rows ≡ more
  one_laid rows more p q = one_list rows more p.rising q.rising (in_both rows more p q) (in_both more rows q p)

  pub laid_few : (rows : List Row) (d : ℕ) → IsShaped t w h k → 1 ≤ w → 1 ≤ h → IsLaid t w h k outcome rows → pieces d rows ≤ count_of t d
  laid_few rows d shaped wide high p =
      let same : rows ≡ rows_of t 0 0 w h k outcome 0 0 = one_laid rows (rows_of t 0 0 w h k outcome 0 0) p (laid t w h k outcome (omega arith) (omega arith) shaped) in
      let count : pieces d rows ≡ pieces d (rows_of t 0 0 w h k outcome 0 0) = ap (pieces d) same in
      omega (arith, count, few_pieces t 0 0 w h k outcome 0 0 d)

pub laid_all : (t : Tree) (w h k : ℕ) (rows : List Row) (d : ℕ) → IsShaped t w h k → 1 ≤ w → 1 ≤ h → IsLaid t w h k all_made rows → pieces d rows ≡ count_of t d
laid_all t w h k rows d shaped wide high p =
    ap (pieces d) (one_laid t w h k all_made rows (rows_of t 0 0 w h k all_made 0 0) p (laid t w h k all_made (omega arith) (omega arith) shaped))
    ∙ all_pieces t 0 0 w h k 0 0 d
