-- Where rows share a unit's cells out, a cell's place is that inside its row.
use Rattle.std.proofs.Common.{◌≡◌, ℕ, ◌+◌, ◌-◌, ◌<◌, ◌≤◌, List, get_or, sym, subst, ◌∙◌, arith}
use Rattle.std.specs.Prelude.{All, Any}
use Rattle.cut_tree.specs.declared.lay.Owner.{Owner}
use Rattle.cut_tree.specs.declared.lay.Row.{Row}
use Rattle.cut_tree.specs.Tree.{Tree, IsShaped}
use Rattle.cut_tree.specs.Cells.{Outcome, location_of}
use Rattle.cut_tree.specs.Laying.{CoversCell, IsLocation, Owns, IsLaid}
use Rattle.cut_tree.specs.Nodes.{rows_of}
use Rattle.cut_tree.proofs.CoveredCells.{laid}
use Rattle.shop_machine.specs.Sharing.{SharesCells}

-- the first and the last cell of one row lie in the other
record Reaches (r s : Row) : Type 0 where
  left : s.x ≤ r.x
  right : r.x + r.w ≤ s.x + s.w
  top : s.y ≤ r.y
  bottom : r.y + r.h ≤ s.y + s.h

reaches : (r s : Row) → 0 < r.w → 0 < r.h → ((x y : ℕ) → CoversCell r x y → CoversCell s x y) → Reaches r s
reaches r s wide high within = by (r.w - 1) (r.h - 1) (omega (arith, wide)) (omega (arith, high))
  where
    by : (i j : ℕ) → i + 1 ≡ r.w → j + 1 ≡ r.h → Reaches r s
    by i j a b =
        let first = within r.x r.y (record { left = omega arith; right = omega (arith, wide); top = omega arith; bottom = omega (arith, high) }) in
        let last = within (r.x + i) (r.y + j) (record { left = omega arith; right = omega (arith, a); top = omega arith; bottom = omega (arith, b) }) in
        let right = last.right in
        let bottom = last.bottom in
        record { left = first.left; right = omega (arith, a, right); top = first.top; bottom = omega (arith, b, bottom) }

-- rows of one node and owner with the same cells are one
one_row : (r s : Row) → r.node ≡ s.node → r.owner ≡ s.owner → Reaches r s → Reaches s r → r ≡ s
one_row r s node owner p q =
    let a = p.left in
    let b = q.left in
    let c = p.right in
    let d = q.right in
    let e = p.top in
    let f = q.top in
    let g = p.bottom in
    let h = q.bottom in
    let x : r.x ≡ s.x = omega (arith, a, b) in
    let y : r.y ≡ s.y = omega (arith, e, f) in
    let wide : r.w ≡ s.w = omega (arith, a, b, c, d) in
    let high : r.h ≡ s.h = omega (arith, e, f, g, h) in
    λ i. record { node = node i; x = x i; y = y i; w = wide i; h = high i; owner = owner i }

module _ (t : Tree) (w h k : ℕ) (outcome : ℕ → Outcome) where
  -- the owner of a cell, by another name of the same node and owner
  owns_as : (n m : ℕ) (a b : Owner) (x y : ℕ) → n ≡ m → a ≡ b → Owns t w h k outcome n a x y → Owns t w h k outcome m b x y
  owns_as n m a b x y node owner o = record { inside_width = o.inside_width; inside_height = o.inside_height; same_node = o.same_node ∙ node; same_owner = o.same_owner ∙ owner }

  -- rows of one node and owner, each with exactly the cells of its node and owner
  same_row : (r s : Row) → (0 < r.w) × (0 < r.h) → (0 < s.w) × (0 < s.h)
      → ((x y : ℕ) → CoversCell r x y → Owns t w h k outcome r.node r.owner x y) → ((x y : ℕ) → Owns t w h k outcome r.node r.owner x y → CoversCell r x y)
      → ((x y : ℕ) → CoversCell s x y → Owns t w h k outcome s.node s.owner x y) → ((x y : ℕ) → Owns t w h k outcome s.node s.owner x y → CoversCell s x y)
      → r.node ≡ s.node → r.owner ≡ s.owner → r ≡ s
  same_row r s some more out in_r from in_s node owner =
      one_row r s node owner
      (reaches r s some.0 some.1 (λ x y c. in_s x y (owns_as r.node s.node r.owner s.owner x y node owner (out x y c))))
      (reaches s r more.0 more.1 (λ x y c. in_r x y (owns_as s.node r.node s.owner r.owner x y (sym node) (sym owner) (from x y c))))

  module _ (rows : List Row) (shaped : IsShaped t w h k) (wide : 1 ≤ w) (high : 1 ≤ h) (shares : SharesCells t w h k outcome rows) where
    abbrev whole : List Row
    whole = rows_of t 0 0 w h k outcome 0 0

    whole_laid : IsLaid t w h k outcome whole
    whole_laid = laid t w h k outcome (omega (arith, wide)) (omega (arith, high)) shaped

    place : All (λ r. (x y : ℕ) → CoversCell r x y → IsLocation r (location_of t w h k outcome 0 0 x y) x y) rows
    place n d l = λ x y covers.
        let here : Row = get_or rows n d in
        let own = shares.own_cells n d l in
        let owns = (own x y).0 covers in
        let a : Any (λ s. CoversCell s x y) whole = whole_laid.each_cell x y owns.inside_width owns.inside_height in
        let there : Row = get_or whole a.0 a.1 in
        let holds : CoversCell there x y = subst (λ (s : Row). CoversCell s x y) (sym a.3) a.4 in
        let location = whole_laid.own_place a.0 a.1 a.2 x y holds in
        let its = whole_laid.own_cells a.0 a.1 a.2 in
        let same : here ≡ there =
        same_row here there (shares.some_cell n d l) (whole_laid.some_cell a.0 a.1 a.2)
        (λ i j. (own i j).0) (λ i j. (own i j).1) (λ i j. (its i j).0) (λ i j. (its i j).1)
        (sym owns.same_node ∙ location.node) (sym owns.same_owner ∙ location.owner) in
        subst (λ (r : Row). IsLocation r (location_of t w h k outcome 0 0 x y) x y) (sym same) location

    shared_laid : IsLaid t w h k outcome rows
    shared_laid = record { rising = shares.rising; some_cell = shares.some_cell; own_cells = shares.own_cells; own_place = place; each_cell = shares.each_cell }

  laid_shared : (rows : List Row) → IsLaid t w h k outcome rows → SharesCells t w h k outcome rows
  laid_shared rows p = record { rising = p.rising; some_cell = p.some_cell; own_cells = p.own_cells; each_cell = p.each_cell }

  pub shared_as_laid : (rows : List Row) → IsShaped t w h k → 1 ≤ w → 1 ≤ h → (SharesCells t w h k outcome rows → IsLaid t w h k outcome rows) × (IsLaid t w h k outcome rows → SharesCells t w h k outcome rows)
  shared_as_laid rows shaped wide high = (shared_laid rows shaped wide high, laid_shared rows)
