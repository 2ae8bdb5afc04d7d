-- The cells of laid rows are those of the unit, however they are tested.
use Rattle.std.proofs.Common.{◌≡◌, ℕ, zero, suc, ◌+◌, ◌-◌, ◌*◌, ◌<◌, ◌≤◌, true, cond, List, [], ◌∷◌, length, get_or, refl, ap, subst, sym, ◌∙◌, arith, inl, inr}
use Rattle.std.specs.Prelude.{All, Any, AllPairs, sum_by}
use Rattle.std.proofs.lemmas.Bool.{cases_lt}
use Rattle.std.proofs.lemmas.List.{get_or_default}
use Rattle.std.proofs.lemmas.List.Sums.{sum_by-cons}
use Rattle.cut_tree.specs.declared.lay.Row.{Row}
use Rattle.cut_tree.specs.Tree.{Tree}
use Rattle.cut_tree.specs.Cells.{Outcome, Location, location_of}
use Rattle.cut_tree.specs.Laying.{CoversCell, IsLocation, Owns, IsLaid}
use Rattle.cut_tree.specs.Counting.{sum_below, count_cells, Test, cells_of_rows, cells_of_unit}
use Rattle.cut_tree.proofs.CellSums as rectangle
use Rattle.cut_tree.proofs.CellSums.{bit, sum_below-same, sum_cells, sum_cells-same, sum_cells-add, sum_cells-zero, sum_mark, mark_in, mark_out}

-- 1 at the cells of a row that passes, else 0
abbrev mark : Test → Row → ℕ → ℕ → ℕ
mark q r = rectangle.mark (q r.node r.owner r.w r.h) r.x r.y r.w r.h

-- the rows, each inside the unit, cell by cell
swapped : (q : Test) (rows : List Row) (w h : ℕ) → All (λ r. (r.x + r.w ≤ w) × (r.y + r.h ≤ h)) rows → cells_of_rows q rows ≡ sum_cells (λ x y. sum_by (λ r. mark q r x y) rows) w h
swapped q [] w h inside = sym (sum_cells-zero w h)
swapped q (r ∷ rows) w h inside =
    let here : (r.x + r.w ≤ w) × (r.y + r.h ≤ h) = inside 0 r (omega arith) in
    let more : cells_of_rows q rows ≡ sum_cells (λ x y. sum_by (λ s. mark q s x y) rows) w h =
    swapped q rows w h (λ k d l. inside (suc k) d (omega arith)) in
    sum_by-cons (λ s. cond (q s.node s.owner s.w s.h) (s.w * s.h) 0) r rows
    ∙ ap (λ n. cond (q r.node r.owner r.w r.h) (r.w * r.h) 0 + n) more
    ∙ ap (λ n. n + sum_cells (λ x y. sum_by (λ s. mark q s x y) rows) w h) (sym (sum_mark (q r.node r.owner r.w r.h) r.x r.y r.w r.h w h here.0 here.1))
    ∙ sym (sum_cells-add (mark q r) (λ x y. sum_by (λ s. mark q s x y) rows) w h)
    ∙ sum_cells-same (λ x y. mark q r x y + sum_by (λ s. mark q s x y) rows) (λ x y. sum_by (λ s. mark q s x y) (r ∷ rows)) w h
    (λ x y xw yh. sym (sum_by-cons (λ s. mark q s x y) r rows))

-- a sum with one part
sum_by-zero : (f : Row → ℕ) (rows : List Row) → ((k : ℕ) (d : Row) → k < length rows → f (get_or rows k d) ≡ 0) → sum_by f rows ≡ 0
sum_by-zero f [] all = refl
sum_by-zero f (r ∷ rows) all =
    let split : sum_by f (r ∷ rows) ≡ f r + sum_by f rows = sum_by-cons f r rows in
    omega (arith, split, all 0 r (omega arith), sum_by-zero f rows (λ k d l. all (suc k) d (omega arith)))

sum_by-one : (f : Row → ℕ) (rows : List Row) (n : ℕ) (e : Row) → n < length rows → ((k : ℕ) (d : Row) → k < length rows → (k ≡ n → ⊥) → f (get_or rows k d) ≡ 0) → sum_by f rows ≡ f (get_or rows n e)
sum_by-one f [] n e inside others = absurd (omega arith)
sum_by-one f (r ∷ rows) zero e inside others =
    let split : sum_by f (r ∷ rows) ≡ f r + sum_by f rows = sum_by-cons f r rows in
    omega (arith, split, sum_by-zero f rows (λ k d l. others (suc k) d (omega arith) (λ z. absurd (omega arith))))
sum_by-one f (r ∷ rows) (suc n) e inside others =
    let split : sum_by f (r ∷ rows) ≡ f r + sum_by f rows = sum_by-cons f r rows in
    omega (
      arith,
      split,
      others 0 r (omega arith) (λ z. absurd (omega arith)),
      sum_by-one f rows n e (omega arith) (λ k d l apart. others (suc k) d (omega arith) (λ z. apart (omega arith))),
    )

-- two rows of one node are one row
same_row : (rows : List Row) (k l : ℕ) (d e : Row) → AllPairs (λ r s. r.node < s.node) rows → k < length rows → l < length rows → (get_or rows k d).node ≡ (get_or rows l e).node → k ≡ l
same_row rows k l d e rising k_in l_in same =
    let same' : (get_or rows k d).node ≡ (get_or rows l d).node = same ∙ ap (λ r. r.node) (get_or_default rows l e d l_in) in
    elim (cases_lt k l) [
      | inl lt ↦ (let h : (get_or rows k d).node < (get_or rows l d).node = rising k l d lt l_in in absurd (omega arith))
      | inr ge ↦ elim (cases_lt l k) [
        | inl lt ↦ (let h : (get_or rows l d).node < (get_or rows k d).node = rising l k d lt k_in in absurd (omega arith))
        | inr le ↦ omega arith
      ]
    ]

module _ (t : Tree) (w h k : ℕ) (outcome : ℕ → Outcome) (rows : List Row) (laid : IsLaid t w h k outcome rows) where
  -- each row is inside the unit: its last cell is
  pub inside : All (λ r. (r.x + r.w ≤ w) × (r.y + r.h ≤ h)) rows
  inside n d l =
      let r : Row = get_or rows n d in
      let some : (0 < r.w) × (0 < r.h) = laid.some_cell n d l in
      let wp : 0 < r.w = some.0 in let hp : 0 < r.h = some.1 in
      let last : CoversCell r (r.x + r.w - 1) (r.y + r.h - 1) = record { left = omega arith; right = omega arith; top = omega arith; bottom = omega arith } in
      let owns : Owns t w h k outcome r.node r.owner (r.x + r.w - 1) (r.y + r.h - 1) = (laid.own_cells n d l (r.x + r.w - 1) (r.y + r.h - 1)).0 last in
      let a : r.x + r.w - 1 < w = owns.inside_width in let b : r.y + r.h - 1 < h = owns.inside_height in
      (omega arith, omega arith)

  -- a cell is marked once, by the row that it is in
  marked_once : (q : Test) (x y : ℕ) → x < w → y < h → sum_by (λ r. mark q r x y) rows ≡ bit (let s = location_of t w h k outcome 0 0 x y in q s.node s.owner s.w s.h)
  marked_once q x y xw yh =
      let a : Any (λ r. CoversCell r x y) rows = laid.each_cell x y xw yh in
      let r : Row = get_or rows a.0 a.1 in
      let s : Location = location_of t w h k outcome 0 0 x y in
      let holds : CoversCell r x y = subst (λ (v : Row). CoversCell v x y) (sym a.3) a.4 in
      let place : IsLocation r s x y = laid.own_place a.0 a.1 a.2 x y holds in
      let others : (m : ℕ) (d : Row) → m < length rows → (m ≡ a.0 → ⊥) → mark q (get_or rows m d) x y ≡ 0 =
      λ m d l apart. let other : Row = get_or rows m d in mark_out (q other.node other.owner other.w other.h) other.x other.y other.w other.h x y (λ on left right top bottom. (
      let held : CoversCell other x y = record { left = left; right = right; top = top; bottom = bottom } in
      let p : IsLocation (get_or rows m d) s x y = laid.own_place m d l x y held in
      apart (same_row rows m a.0 d a.1 laid.rising l a.2 (sym p.node ∙ place.node)))) in
      sum_by-one (λ v. mark q v x y) rows a.0 a.1 a.2 others
      ∙ mark_in (q r.node r.owner r.w r.h) r.x r.y r.w r.h x y holds.left holds.right holds.top holds.bottom
      ∙ ap (λ n. bit (q n r.owner r.w r.h)) (sym place.node)
      ∙ ap (λ o. bit (q s.node o r.w r.h)) (sym place.owner)
      ∙ ap (λ n. bit (q s.node s.owner n r.h)) (sym place.w)
      ∙ ap (λ n. bit (q s.node s.owner s.w n)) (sym place.h)

  -- the cells of the rows that pass are those of the unit that pass
  pub add_up : (q : Test) → cells_of_rows q rows ≡ cells_of_unit q t w h k outcome
  add_up q =
      swapped q rows w h inside
      ∙ sum_cells-same (λ x y. sum_by (λ r. mark q r x y) rows) (λ x y. bit (let s = location_of t w h k outcome 0 0 x y in q s.node s.owner s.w s.h)) w h (marked_once q)

constant : (c n : ℕ) → sum_below (λ i. c) n ≡ c * n
constant c zero = omega arith
constant c (suc n) = omega (arith, constant c n)

-- all cells of w by h
pub count_all : (w h : ℕ) → count_cells (λ x y. true) w h ≡ w * h
count_all w h =
    sum_below-same (λ y. sum_below (λ x. 1) w) (λ y. w) h (λ y yh. (let e : sum_below (λ x. 1) w ≡ 1 * w = constant 1 w in omega arith))
    ∙ constant w h
