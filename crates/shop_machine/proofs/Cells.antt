-- Whose a cell is after parts changed.
use Rattle.std.proofs.Common.{◌≡◌, ℕ, ◌+◌, ◌-◌, ◌<◌, ◌≤◌, List, map, Bool, true, false, refl, sym, ap, subst, ◌∙◌, arith, inl, inr, ◌⊎◌, true≢false}
use Rattle.std.specs.Prelude.{Option, Some, None, ◌↔◌, if◌then◌else◌}
use Rattle.std.specs.FinMap.{FinMap, get, insert}
use Rattle.cut_measure.specs.Names.{Name, name_cmp}
use Rattle.cut_measure.specs.Measures.{Size, CutParams, is_kept, below}
use Rattle.cut_tree.specs.declared.lay.Owner as of_row
use Rattle.cut_tree.specs.declared.lay.Owner.TheVariants as owner
use Rattle.cut_tree.specs.declared.lay.Row.{Row}
use Rattle.cut_tree.specs.Tree.{Tree}
use Rattle.cut_tree.specs.Cells.{Outcome, Location, location_of}
use Rattle.cut_tree.specs.Laying as lay
use Rattle.cut_tree.specs.Laying.{Owns, IsLocation, IsLaid}
use Rattle.shop_records.specs.declared.records.Part.{Part}
use Rattle.shop_records.specs.declared.records.State.{State}
use Rattle.shop_records.specs.declared.records.State.TheVariants.{Standing, Cut, Scrap}
use Rattle.shop_records.specs.Content.{with_parts, in_state}
use Rattle.shop_machine.specs.Ending.{row_part, state_after_cut}
use Rattle.shop_machine.specs.Receiving.{unit_part, unit_parts}
use Rattle.shop_machine.specs.History.{Owner, owner_at, is_gone, standing_as, HasCellOf, IsOwner, HasOwner}
use Rattle.shop_records.specs.Elements.{IsIn}
use Rattle.shop_records.proofs.Basics.{names_total, names_same, names_equal, name_cases, same_some, none_some, get_same, get_other, all_in, any_in, pair_in, in_map, map_in, put_cases}

-- each row is kept under its name
abbrev pub Named : FinMap name_cmp Part → Type 0
Named m = (n : Name) (p : Part) → get m n ≡ Some p → p.name ≡ n

sizes_equal : (a b : Size) → a.w ≡ b.w → a.h ≡ b.h → a ≡ b
sizes_equal a b p q = λ i. record { w = p i; h = q i }

-- ---- a part whose state changes, not being cut before or after

module _ (m : FinMap name_cmp Part) (named : Named m) (p : Name) (row : Part) (kept : get m p ≡ Some row) (whole : is_gone row.state ≡ false) where
  -- a cell of the part
  in_part : (found : Option Owner) (u : Name) (x y : ℕ) (o : HasOwner m found u x y) → o.part.name ≡ p → o.part ≡ row
  in_part found u x y o e = same_some o.part row (sym o.kept ∙ ap (get m) e ∙ kept)

  pub restated : (s : State) → is_gone s ≡ false → standing_as s ≡ standing_as row.state
      → (found : Option Owner) (u : Name) (x y : ℕ) → HasOwner m found u x y → HasOwner (insert m p (in_state s row)) found u x y
  restated s open' stays found u x y o =
      let new = insert m p (in_state s row) in
      let here : get new p ≡ Some (in_state s row) = get_same names_total names_same m p (in_state s row) in
      let other : (q : Name) → (q ≡ p → ⊥) → get new q ≡ get m q = λ q n. get_other names_total names_same m p (in_state s row) q n in
      elim (name_cases o.part.name p) [
        | inl e ↦ (
            let is : o.part ≡ row = in_part found u x y o e.0 in
            let h : HasCellOf u x y row = subst (HasCellOf u x y) is o.holds in
            let w : IsOwner o.owner x y row = subst (IsOwner o.owner x y) is o.same in
            record {
              part = in_state s row;
              owner = o.owner;
              kept = ap (get new) (named p row kept) ∙ here;
              holds = record { root = h.root; whole = open'; right = h.right; left = h.left; below = h.below; above = h.above };
              owned = o.owned;
              same = record { name = w.name; state = stays ∙ w.state; size = w.size; across = w.across; down = w.down };
              alone = λ n q k g. elim (name_cases n p) [
                | inl f ↦ same_some q (in_state s row) (sym k ∙ ap (get new) f.0 ∙ here)
                | inr f ↦ (
                    let old : get m n ≡ Some q = sym (other n f.0) ∙ k in
                    let same : q ≡ o.part = o.alone n q old g in
                    absurd (f.0 (sym (named n q old) ∙ ap (λ (r : Part). r.name) same ∙ e.0)))
              ];
            })
        | inr e ↦ record {
          part = o.part;
          owner = o.owner;
          kept = other o.part.name e.0 ∙ o.kept;
          holds = o.holds;
          owned = o.owned;
          same = o.same;
          alone = λ n q k g. elim (name_cases n p) [
            | inl f ↦ (
                let is : q ≡ in_state s row = same_some q (in_state s row) (sym k ∙ ap (get new) f.0 ∙ here) in
                let h : HasCellOf u x y (in_state s row) = subst (HasCellOf u x y) is g in
                let before : row ≡ o.part = o.alone p row kept (record { root = h.root; whole = whole; right = h.right; left = h.left; below = h.below; above = h.above }) in
                absurd (e.0 (ap (λ (r : Part). r.name) (sym before) ∙ named p row kept)))
            | inr f ↦ o.alone n q (sym (other n f.0) ∙ k) g
          ];
        }
      ]

  -- a standing part as a whole gets a state that stays
  pub turned : (s : State) → is_gone s ≡ false → standing_as s ≡ s → (found after : Option Owner) (u : Name) (x y : ℕ)
      → ((w : Owner) → found ≡ Some w → w.name ≡ p → standing_as row.state ≡ w.state → after ≡ Some (record w { state = s }))
      → ((w : Owner) → found ≡ Some w → (w.name ≡ p → ⊥) → after ≡ Some w)
      → HasOwner m found u x y → HasOwner (insert m p (in_state s row)) after u x y
  turned s open' stays found after u x y mine others o =
      let new = insert m p (in_state s row) in
      let here : get new p ≡ Some (in_state s row) = get_same names_total names_same m p (in_state s row) in
      let other : (q : Name) → (q ≡ p → ⊥) → get new q ≡ get m q = λ q n. get_other names_total names_same m p (in_state s row) q n in
      elim (name_cases o.part.name p) [
        | inl e ↦ (
            let is : o.part ≡ row = in_part found u x y o e.0 in
            let h : HasCellOf u x y row = subst (HasCellOf u x y) is o.holds in
            let w : IsOwner o.owner x y row = subst (IsOwner o.owner x y) is o.same in
            record {
              part = in_state s row;
              owner = record (o.owner) { state = s };
              kept = ap (get new) (named p row kept) ∙ here;
              holds = record { root = h.root; whole = open'; right = h.right; left = h.left; below = h.below; above = h.above };
              owned = mine o.owner o.owned (sym w.name ∙ named p row kept) w.state;
              same = record { name = w.name; state = stays; size = w.size; across = w.across; down = w.down };
              alone = λ n q k g. elim (name_cases n p) [
                | inl f ↦ same_some q (in_state s row) (sym k ∙ ap (get new) f.0 ∙ here)
                | inr f ↦ (
                    let old : get m n ≡ Some q = sym (other n f.0) ∙ k in
                    let same : q ≡ o.part = o.alone n q old g in
                    absurd (f.0 (sym (named n q old) ∙ ap (λ (r : Part). r.name) same ∙ e.0)))
              ];
            })
        | inr e ↦ record {
          part = o.part;
          owner = o.owner;
          kept = other o.part.name e.0 ∙ o.kept;
          holds = o.holds;
          owned = others o.owner o.owned (λ is. e.0 (o.same.name ∙ is));
          same = o.same;
          alone = λ n q k g. elim (name_cases n p) [
            | inl f ↦ (
                let is : q ≡ in_state s row = same_some q (in_state s row) (sym k ∙ ap (get new) f.0 ∙ here) in
                let h : HasCellOf u x y (in_state s row) = subst (HasCellOf u x y) is g in
                let before : row ≡ o.part = o.alone p row kept (record { root = h.root; whole = whole; right = h.right; left = h.left; below = h.below; above = h.above }) in
                absurd (e.0 (ap (λ (r : Part). r.name) (sym before) ∙ named p row kept)))
            | inr f ↦ o.alone n q (sym (other n f.0) ∙ k) g
          ];
        }
      ]

-- ---- a part that is cut

kept_or_not : (b : Bool) → is_gone (if b then Standing else Scrap) ≡ false
kept_or_not true = refl
kept_or_not false = refl

kept_stands : (b : Bool) → standing_as (if b then Standing else Scrap) ≡ (if b then Standing else Scrap)
kept_stands true = refl
kept_stands false = refl

pub after_cut_whole : (params : CutParams) (of : of_row.Owner) (size : Size) → is_gone (state_after_cut params of size) ≡ false
after_cut_whole params (owner.Piece demand) size = refl
after_cut_whole params owner.Rest size = kept_or_not (is_kept params size)
after_cut_whole params owner.Kerf size = refl
after_cut_whole params owner.Uncut size = kept_or_not (is_kept params size)
after_cut_whole params owner.Lost size = refl

after_cut_stands : (params : CutParams) (of : of_row.Owner) (size : Size) → standing_as (state_after_cut params of size) ≡ state_after_cut params of size
after_cut_stands params (owner.Piece demand) size = refl
after_cut_stands params owner.Rest size = kept_stands (is_kept params size)
after_cut_stands params owner.Kerf size = refl
after_cut_stands params owner.Uncut size = kept_stands (is_kept params size)
after_cut_stands params owner.Lost size = refl

module _ (m : FinMap name_cmp Part) (named : Named m) (p : Name) (row : Part) (kept : get m p ≡ Some row) (whole : is_gone row.state ≡ false) (stands : standing_as row.state ≡ Standing)
    (job : ℕ) (unused : (node : ℕ) → get m (record { act = job; node = node }) ≡ None)
    (params : CutParams) (tree : Tree) (outcome : ℕ → Outcome) (rows : List Row) (laid : IsLaid tree row.size.w row.size.h params.kerf outcome rows) where
  abbrev pub after_cuts : FinMap name_cmp Part
  after_cuts = with_parts (map (row_part row params job) rows) (insert m p (in_state (Cut job) row))

  unused_name : (n : Name) → n.act ≡ job → get m n ≡ None
  unused_name n e = ap (get m) (names_equal n (record { act = job; node = n.node }) e refl) ∙ unused n.node

  one_row : (r s : Row) → IsIn r rows → IsIn s rows → r.node ≡ s.node → r ≡ s
  one_row r s i j e =
      elim (pair_in (λ (a b : Row). a.node < b.node) rows laid.rising r s i j) [
        | inl is ↦ is
        | inr lt ↦ elim lt [ inl l ↦ absurd (omega arith) | inr l ↦ absurd (omega arith) ]
      ]

  pub found_new : (r : Row) → IsIn r rows → get after_cuts (record { act = job; node = r.node }) ≡ Some (row_part row params job r)
  found_new r i =
      elim (put_cases (map (row_part row params job) rows) (insert m p (in_state (Cut job) row)) (record { act = job; node = r.node })) [
        | inl f ↦ (
            let s = in_map (row_part row params job) rows f.0 f.1 in
            let name : s.0.node ≡ r.node = ap (λ (q : Part). q.name.node) (sym s.2) ∙ ap (λ (n : Name). n.node) f.2 in
            f.3 ∙ ap Some s.2 ∙ ap (λ (t : Row). Some (row_part row params job t)) (one_row s.0 r s.1 i name))
        | inr f ↦ absurd (f.0 (row_part row params job r) (map_in (row_part row params job) rows r i) refl)
      ]

  pub found_cases : (n : Name) (q : Part) → get after_cuts n ≡ Some q
      → ((r : Row) × IsIn r rows × (q ≡ row_part row params job r) × (q.name ≡ n)) ⊎ (((n ≡ p) × (q ≡ in_state (Cut job) row)) ⊎ ((n ≡ p → ⊥) × (get m n ≡ Some q)))
  found_cases n q k =
      elim (put_cases (map (row_part row params job) rows) (insert m p (in_state (Cut job) row)) n) [
        | inl f ↦ (
            let s = in_map (row_part row params job) rows f.0 f.1 in
            let is : q ≡ f.0 = same_some q f.0 (sym k ∙ f.3) in
            inl (s.0, s.1, is ∙ s.2, ap (λ (v : Part). v.name) is ∙ f.2))
        | inr f ↦ elim (name_cases n p) [
          | inl e ↦ inr (inl (e.0, same_some q (in_state (Cut job) row) (sym k ∙ f.1 ∙ ap (get (insert m p (in_state (Cut job) row))) e.0 ∙ get_same names_total names_same m p (in_state (Cut job) row))))
          | inr e ↦ inr (inr (e.0, sym (get_other names_total names_same m p (in_state (Cut job) row) n e.0) ∙ sym f.1 ∙ k))
        ]
      ]

  pub kept_old : (n : Name) (q : Part) → get m n ≡ Some q → (n ≡ p → ⊥) → get after_cuts n ≡ Some q
  kept_old n q k ne =
      elim (put_cases (map (row_part row params job) rows) (insert m p (in_state (Cut job) row)) n) [
        | inl f ↦ (
            let s = in_map (row_part row params job) rows f.0 f.1 in
            let act : n.act ≡ job = ap (λ (v : Name). v.act) (sym f.2) ∙ ap (λ (v : Part). v.name.act) s.2 in
            absurd (none_some q (sym (unused_name n act) ∙ k)))
        | inr f ↦ f.1 ∙ get_other names_total names_same m p (in_state (Cut job) row) n ne ∙ k
      ]

  pub found_cut : get after_cuts p ≡ Some (in_state (Cut job) row)
  found_cut =
      elim (put_cases (map (row_part row params job) rows) (insert m p (in_state (Cut job) row)) p) [
        | inl f ↦ (
            let s = in_map (row_part row params job) rows f.0 f.1 in
            let act : p.act ≡ job = ap (λ (v : Name). v.act) (sym f.2) ∙ ap (λ (v : Part). v.name.act) s.2 in
            absurd (none_some row (sym (unused_name p act) ∙ kept)))
        | inr f ↦ f.1 ∙ get_same names_total names_same m p (in_state (Cut job) row)
      ]

  -- a cell of a new part was one of the part that was cut
  pub was_in : (u : Name) (x y : ℕ) (r : Row) → IsIn r rows → HasCellOf u x y (row_part row params job r) → lay.CoversCell r (x - row.x) (y - row.y) × HasCellOf u x y row
  was_in u x y r i h =
      let a : row.x + r.x ≤ x = h.right in let b : x < (row.x + r.x) + r.w = h.left in
      let c : row.y + r.y ≤ y = h.below in let d : y < (row.y + r.y) + r.h = h.above in
      let held : lay.CoversCell r (x - row.x) (y - row.y) = record { left = omega arith; right = omega arith; top = omega arith; bottom = omega arith } in
      let owns : Owns tree row.size.w row.size.h params.kerf outcome r.node r.owner (x - row.x) (y - row.y) =
      (all_in (λ (s : Row). (k l : ℕ) → lay.CoversCell s k l ↔ Owns tree row.size.w row.size.h params.kerf outcome s.node s.owner k l) rows laid.own_cells r i (x - row.x) (y - row.y)).0 held in
      let wide : x - row.x < row.size.w = owns.inside_width in let high : y - row.y < row.size.h = owns.inside_height in
      (held, record { root = h.root; whole = whole; right = omega arith; left = omega arith; below = omega arith; above = omega arith })

  no_cell : (u : Name) (x y : ℕ) (q : Part) → q ≡ in_state (Cut job) row → HasCellOf u x y q → ⊥
  no_cell u x y q e h = true≢false (ap (λ (v : Part). is_gone v.state) (sym e) ∙ h.whole)

  abbrev location_at : ℕ → ℕ → Location
  location_at i j = location_of tree row.size.w row.size.h params.kerf outcome 0 0 i j

  placed : (r : Row) → IsIn r rows → (i j : ℕ) → lay.CoversCell r i j → IsLocation r (location_at i j) i j
  placed r i = all_in (λ (r : Row). (i j : ℕ) → lay.CoversCell r i j → IsLocation r (location_at i j) i j) rows laid.own_place r i

  -- the part of a row is the owner's at the location
  row_owner : (r : Row) (s : Location) (i j x y : ℕ) → IsLocation r s i j → row.x + i ≡ x → row.y + j ≡ y → IsOwner (owner_at params job s) x y (row_part row params job r)
  row_owner r s i j x y place across down =
      let mine : Size = record { w = r.w; h = r.h } in
      let its : Size = record { w = s.w; h = s.h } in
      let sizes : mine ≡ its = sizes_equal mine its (sym place.w) (sym place.h) in
      let px : r.x + s.x ≡ i = place.x in let py : r.y + s.y ≡ j = place.y in
      record {
        name = ap (λ n. record { act = job; node = n }) (sym place.node);
        state = after_cut_stands params r.owner mine ∙ ap (λ v. state_after_cut params v mine) (sym place.owner) ∙ ap (λ v. state_after_cut params s.owner v) sizes;
        size = sizes;
        across = omega arith;
        down = omega arith;
      }

  -- two rows with one cell
  same_place : (r t : Row) → IsIn r rows → IsIn t rows → (i j : ℕ) → lay.CoversCell r i j → lay.CoversCell t i j → t ≡ r
  same_place r t a b i j p q = one_row t r b a (sym (placed t b i j q).node ∙ (placed r a i j p).node)

  here : (u : Name) (x y : ℕ) (r : Row) (i : ℕ) (j : ℕ) → lay.CoversCell r i j → row.x + i ≡ x → row.y + j ≡ y → HasCellOf u x y row → HasCellOf u x y (row_part row params job r)
  here u x y r i j held across down h =
      let a : r.x ≤ i = held.left in let b : i < r.x + r.w = held.right in
      let c : r.y ≤ j = held.top in let d : j < r.y + r.h = held.bottom in
      record { root = h.root; whole = after_cut_whole params r.owner (record { w = r.w; h = r.h }); right = omega arith; left = omega arith; below = omega arith; above = omega arith }

  moved : (t : Row) (i j x y : ℕ) → row.x + i ≡ x → row.y + j ≡ y → lay.CoversCell t (x - row.x) (y - row.y) → lay.CoversCell t i j
  moved t i j x y across down held =
      let ex : x - row.x ≡ i = omega arith in let ey : y - row.y ≡ j = omega arith in
      subst (λ b. lay.CoversCell t i b) ey (subst (λ a. lay.CoversCell t a (y - row.y)) ex held)

  -- a cell of the part that is cut belongs to the row that has it
  in_new : (w : Owner) (after : Option Owner) (u : Name) (x y : ℕ) (r : Row) → IsIn r rows → lay.CoversCell r w.x w.y → row.x + w.x ≡ x → row.y + w.y ≡ y → HasCellOf u x y row
      → after ≡ Some (owner_at params job (location_at w.x w.y)) → ((n : Name) (q : Part) → get m n ≡ Some q → HasCellOf u x y q → n ≡ p) → HasOwner after_cuts after u x y
  in_new w after u x y r i held across down h owned only = record {
    part = row_part row params job r;
    owner = owner_at params job (location_at w.x w.y);
    kept = found_new r i;
    holds = here u x y r w.x w.y held across down h;
    owned = owned;
    same = row_owner r (location_at w.x w.y) w.x w.y x y (placed r i w.x w.y held) across down;
    alone = λ n q k g. elim (found_cases n q k) [
      | inl f ↦ f.2 ∙ ap (row_part row params job) (same_place r f.0 i f.1 w.x w.y held (moved f.0 w.x w.y x y across down (was_in u x y f.0 f.1 (subst (HasCellOf u x y) f.2 g)).0))
      | inr f ↦ elim f [
        | inl c ↦ absurd (no_cell u x y q c.1 g)
        | inr c ↦ absurd (c.0 (only n q c.1 g))
      ]
    ];
  }

  held_row : (u : Name) (x y i j : ℕ) → row.x + i ≡ x → row.y + j ≡ y → HasCellOf u x y row → (r : Row) × IsIn r rows × lay.CoversCell r i j
  held_row u x y i j across down h =
      let right : x < row.x + row.size.w = h.left in let bottom : y < row.y + row.size.h = h.above in
      any_in (λ (r : Row). lay.CoversCell r i j) rows (laid.each_cell i j (omega arith) (omega arith))

  pub cut_up : (found after : Option Owner) (u : Name) (x y : ℕ)
      → ((w : Owner) → row.root ≡ u → found ≡ Some w → w.name ≡ p → w.state ≡ Standing
      → after ≡ Some (owner_at params job (location_of tree w.size.w w.size.h params.kerf outcome 0 0 w.x w.y)))
      → ((w : Owner) → found ≡ Some w → (w.name ≡ p → ⊥) → after ≡ Some w)
      → HasOwner m found u x y → HasOwner after_cuts after u x y
  cut_up found after u x y there elsewhere o =
      elim (name_cases o.part.name p) [
        | inl e ↦ (
            let is : o.part ≡ row = same_some o.part row (sym o.kept ∙ ap (get m) e.0 ∙ kept) in
            let h : HasCellOf u x y row = subst (HasCellOf u x y) is o.holds in
            let ws : IsOwner o.owner x y row = subst (IsOwner o.owner x y) is o.same in
            let row' = held_row u x y o.owner.x o.owner.y ws.across ws.down h in
            in_new o.owner after u x y row'.0 row'.1 row'.2 ws.across ws.down h
            (there o.owner h.root o.owned (sym ws.name ∙ named p row kept) (sym ws.state ∙ stands)
            ∙ ap (λ (e : Size). Some (owner_at params job (location_of tree e.w e.h params.kerf outcome 0 0 o.owner.x o.owner.y))) (sym ws.size))
            (λ n q k g. sym (named n q k) ∙ ap (λ (v : Part). v.name) (o.alone n q k g) ∙ e.0))
        | inr e ↦ record {
          part = o.part;
          owner = o.owner;
          kept = kept_old o.part.name o.part o.kept e.0;
          holds = o.holds;
          owned = elsewhere o.owner o.owned (λ f. e.0 (o.same.name ∙ f));
          same = o.same;
          alone = λ n q k g. elim (found_cases n q k) [
            | inl f ↦ (
                let h : HasCellOf u x y row = (was_in u x y f.0 f.1 (subst (HasCellOf u x y) f.2 g)).1 in
                absurd (e.0 (ap (λ (v : Part). v.name) (sym (o.alone p row kept h)) ∙ named p row kept)))
            | inr f ↦ elim f [
              | inl c ↦ absurd (no_cell u x y q c.1 g)
              | inr c ↦ o.alone n q c.1 g
            ]
          ];
        }
      ]

-- ---- units that are received

module _ (m : FinMap name_cmp Part) (material batch : List ℕ) (size : Size) (act count : ℕ)
    (older : (n : Name) (p : Part) → get m n ≡ Some p → (n.act ≡ act → ⊥) × (p.root.act ≡ act → ⊥)) where
  abbrev pub after_receipt : FinMap name_cmp Part
  after_receipt = with_parts (unit_parts material batch size act count) m

  pub received_cases : (n : Name) (q : Part) → get after_receipt n ≡ Some q
      → ((i : ℕ) × IsIn i (below count) × (q ≡ unit_part material batch size act i) × (q.name ≡ n)) ⊎ (get m n ≡ Some q)
  received_cases n q k =
      elim (put_cases (map (unit_part material batch size act) (below count)) m n) [
        | inl f ↦ (
            let s = in_map (unit_part material batch size act) (below count) f.0 f.1 in
            let is : q ≡ f.0 = same_some q f.0 (sym k ∙ f.3) in
            inl (s.0, s.1, is ∙ s.2, ap (λ (v : Part). v.name) is ∙ f.2))
        | inr f ↦ inr (sym f.1 ∙ k)
      ]

  pub found_unit : (i : ℕ) → IsIn i (below count) → get after_receipt (record { act = act; node = i }) ≡ Some (unit_part material batch size act i)
  found_unit i is =
      elim (put_cases (map (unit_part material batch size act) (below count)) m (record { act = act; node = i })) [
        | inl f ↦ (
            let s = in_map (unit_part material batch size act) (below count) f.0 f.1 in
            let node : s.0 ≡ i = ap (λ (q : Part). q.name.node) (sym s.2) ∙ ap (λ (n : Name). n.node) f.2 in
            f.3 ∙ ap Some s.2 ∙ ap (λ t. Some (unit_part material batch size act t)) node)
        | inr f ↦ absurd (f.0 (unit_part material batch size act i) (map_in (unit_part material batch size act) (below count) i is) refl)
      ]

  pub kept_before : (n : Name) (q : Part) → get m n ≡ Some q → get after_receipt n ≡ Some q
  kept_before n q k =
      elim (put_cases (map (unit_part material batch size act) (below count)) m n) [
        | inl f ↦ (
            let s = in_map (unit_part material batch size act) (below count) f.0 f.1 in
            absurd ((older n q k).0 (ap (λ (v : Name). v.act) (sym f.2) ∙ ap (λ (v : Part). v.name.act) s.2)))
        | inr f ↦ f.1 ∙ k
      ]

  pub still_owned : (found after : Option Owner) (u : Name) (x y : ℕ) → (u.act ≡ act → ⊥) → after ≡ found → HasOwner m found u x y → HasOwner after_receipt after u x y
  still_owned found after u x y old same o = record {
    part = o.part;
    owner = o.owner;
    kept = kept_before o.part.name o.part o.kept;
    holds = o.holds;
    owned = same ∙ o.owned;
    same = o.same;
    alone = λ n q k g. elim (received_cases n q k) [
      | inl f ↦ absurd (old (sym (ap (λ (v : Part). v.root.act) (sym f.2) ∙ ap (λ (v : Name). v.act) g.root)))
      | inr f ↦ o.alone n q f g
    ];
  }

  pub new_owned : (i : ℕ) (after : Option Owner) (x y : ℕ) → IsIn i (below count) → x < size.w → y < size.h
      → after ≡ Some (record { state = Standing; name = record { act = act; node = i }; size = size; x = x; y = y }) → HasOwner after_receipt after (record { act = act; node = i }) x y
  new_owned i after x y is across down e = record {
    part = unit_part material batch size act i;
    owner = record { state = Standing; name = record { act = act; node = i }; size = size; x = x; y = y };
    kept = found_unit i is;
    holds = record { root = refl; whole = refl; right = omega arith; left = omega arith; below = omega arith; above = omega arith };
    owned = e;
    same = record { name = refl; state = refl; size = refl; across = omega arith; down = omega arith };
    alone = λ n q k g. elim (received_cases n q k) [
      | inl f ↦ (
          let node : f.0 ≡ i = ap (λ (v : Part). v.root.node) (sym f.2) ∙ ap (λ (v : Name). v.node) g.root in
          f.2 ∙ ap (unit_part material batch size act) node)
      | inr f ↦ absurd ((older n q f).1 (ap (λ (v : Name). v.act) g.root))
    ];
  }
