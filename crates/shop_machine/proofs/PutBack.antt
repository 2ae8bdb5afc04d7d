-- A part that stands again in the place of those that a job made of it: which rows there are then, sums over them, and whose
-- each cell is.
use Rattle.std.proofs.Common.{◌≡◌, ℕ, ◌+◌, ◌-◌, ◌<◌, ◌≤◌, List, [], ◌∷◌, map, Bool, true, false, true≢false, refl, sym, ap, subst, ◌∙◌, arith, inl, inr, ◌⊎◌}
use Rattle.std.specs.Prelude.{Option, Some, ◌↔◌, filter, sum_by, if◌then◌else◌}
use Rattle.std.specs.FinMap.{FinMap, get, get-entries, entries, insert, values}
use Rattle.std.proofs.lemmas.List.Elements.{All-filter, filter_passes}
use Rattle.std.proofs.lemmas.List.Sums.{sum_by-cons}
use Rattle.cut_measure.specs.Names.{Name, name_cmp}
use Rattle.cut_measure.specs.Measures.{CutParams}
use Rattle.cut_tree.specs.declared.lay.Row.{Row}
use Rattle.cut_tree.specs.Tree.{Tree}
use Rattle.cut_tree.specs.Cells.{Outcome}
use Rattle.cut_tree.specs.Laying as lay
use Rattle.cut_tree.specs.Laying.{Owns, IsLaid}
use Rattle.shop_records.specs.declared.records.Part.{Part}
use Rattle.shop_records.specs.declared.records.State.{State}
use Rattle.shop_records.specs.declared.records.State.TheVariants.{Standing, Cut, Undone}
use Rattle.shop_records.specs.Content.{with_parts, in_state}
use Rattle.shop_records.specs.Elements.{IsIn}
use Rattle.shop_records.proofs.Basics.{names_total, names_same, nat_cases, name_cases, same_some, get_same, get_other, all_in, any_in, in_map, map_in, put_cases}
use Rattle.shop_records.proofs.Puts.{Pairwise, all_from, sum_over}
use Rattle.shop_records.proofs.Entries.{in_found}
use Rattle.shop_machine.specs.Ending.{row_part}
use Rattle.shop_machine.specs.History.{Owner, is_gone, HasCellOf, IsOwner, HasOwner}
use Rattle.shop_machine.proofs.Cells.{Named, after_cut_whole}

-- ---- elements of a list that pass a test

pub in_filter : {X : Type 0} (p : X → Bool) (xs : List X) (x : X) → IsIn x (filter p xs) → IsIn x xs × (p x ≡ true)
in_filter {X} p xs x i = (
  all_in (λ (y : X). IsIn y xs) (filter p xs) (All-filter p (λ (y : X). IsIn y xs) xs (all_from (λ (y : X). IsIn y xs) xs (λ y j. j))) x i,
  all_in (λ (y : X). p y ≡ true) (filter p xs) (filter_passes p xs) x i,
)

pub filter_in : {X : Type 0} (p : X → Bool) (xs : List X) (x : X) → IsIn x xs → p x ≡ true → IsIn x (filter p xs)
filter_in p [] x i e = absurd i
filter_in {X} p (y ∷ ys) x (inl is) e =
    subst (λ (b : Bool). IsIn x (if b then y ∷ filter p ys else filter p ys)) (sym (ap p (sym is) ∙ e)) (inl is)
filter_in {X} p (y ∷ ys) x (inr i) e = by (p y) (filter_in p ys x i e)
  where
    by : (b : Bool) → IsIn x (filter p ys) → IsIn x (if b then y ∷ filter p ys else filter p ys)
    by true j = inr j
    by false j = j

-- a row of a map is among its values
pub value_in : (m : FinMap name_cmp Part) (n : Name) (q : Part) → get m n ≡ Some q → IsIn q (values m)
value_in m n q is = map_in (λ (e : Name × Part). e.1) (entries m) (n, q) (in_found (entries m) n q (sym (get-entries m n) ∙ is))

-- ---- rows that take the place of others of their names

module _ (g : Part → Part) (own : (p : Part) → (g p).name ≡ p.name) where
  pub sum_replaced : (f : Part → ℕ) (ps : List Part) (m : FinMap name_cmp Part) → Pairwise (λ (x y : Part). x.name ≡ y.name → ⊥) ps → ((p : Part) → IsIn p ps → get m p.name ≡ Some p)
      → sum_by f (values (with_parts (map g ps) m)) + sum_by f ps ≡ sum_by f (values m) + sum_by f (map g ps)
  sum_replaced f [] m apart there = refl
  sum_replaced f (p ∷ ps) m apart there =
      let after = insert m (g p).name (g p) in
      let one = sum_over names_total names_same f m (g p).name p (g p) (ap (get m) (own p) ∙ there p (inl refl)) in
      let more = sum_replaced f ps after apart.1
      (λ q i. get_other names_total names_same m (g p).name (g p) q.name (λ e. apart.0 q i (sym (own p) ∙ sym e)) ∙ there q (inr i)) in
      omega (arith, one, more, sum_by-cons f p ps, sum_by-cons f (g p) (map g ps))

module _ (m : FinMap name_cmp Part) (named : Named m) (p : Name) (row : Part) (kept : get m p ≡ Some row) (job : ℕ) (cut : row.state ≡ Cut job)
    (params : CutParams) (tree : Tree) (outcome : ℕ → Outcome) (rows : List Row) (laid : IsLaid tree row.size.w row.size.h params.kerf outcome rows)
    (there : (r : Row) → IsIn r rows → get m (record { act = job; node = r.node }) ≡ Some (row_part row params job r))
    (all : (n : Name) (q : Part) → get m n ≡ Some q → n.act ≡ job → (r : Row) × IsIn r rows × (q ≡ row_part row params job r)) where
  abbrev pub made : List Part
  made = map (row_part row params job) rows

  abbrev pub outgoing : List Part
  outgoing = map (in_state (Undone job)) made

  abbrev pub put_back : FinMap name_cmp Part
  put_back = with_parts outgoing (insert m p (in_state Standing row))

  pub gone_of : (x : Part) → IsIn x outgoing → (r : Row) × IsIn r rows × (x ≡ in_state (Undone job) (row_part row params job r))
  gone_of x i =
      let a = in_map (in_state (Undone job)) made x i in
      let b = in_map (row_part row params job) rows a.0 a.1 in
      (b.0, b.1, a.2 ∙ ap (in_state (Undone job)) b.2)

  gone_in : (r : Row) → IsIn r rows → IsIn (in_state (Undone job) (row_part row params job r)) outgoing
  gone_in r i = map_in (in_state (Undone job)) made (row_part row params job r) (map_in (row_part row params job) rows r i)

  row_whole : (r : Row) → is_gone (row_part row params job r).state ≡ false
  row_whole r = after_cut_whole params r.owner (record { w = r.w; h = r.h })

  -- the part isn't one of those that were made of it
  pub not_made : p.act ≡ job → ⊥
  not_made e =
      let r = all p row kept e in
      true≢false (sym (ap is_gone cut) ∙ ap (λ (v : Part). is_gone v.state) r.2 ∙ row_whole r.0)

  pub back_cases : (n : Name) (q : Part) → get put_back n ≡ Some q
      → ((n.act ≡ job) × ((r : Row) × IsIn r rows × (q ≡ in_state (Undone job) (row_part row params job r))))
      ⊎ (((n ≡ p) × (q ≡ in_state Standing row)) ⊎ ((n ≡ p → ⊥) × ((n.act ≡ job → ⊥) × (get m n ≡ Some q))))
  back_cases n q k =
      elim (put_cases outgoing (insert m p (in_state Standing row)) n) [
        | inl f ↦ (
            let r = gone_of f.0 f.1 in
            let act : n.act ≡ job = ap (λ (v : Name). v.act) (sym f.2) ∙ ap (λ (v : Part). v.name.act) r.2 in
            inl (act, (r.0, r.1, same_some q f.0 (sym k ∙ f.3) ∙ r.2)))
        | inr f ↦ elim (name_cases n p) [
          | inl e ↦ inr (inl (e.0, same_some q (in_state Standing row) (sym k ∙ f.1 ∙ ap (get (insert m p (in_state Standing row))) e.0 ∙ get_same names_total names_same m p (in_state Standing row))))
          | inr e ↦ (
              let old : get m n ≡ Some q = sym (get_other names_total names_same m p (in_state Standing row) n e.0) ∙ sym f.1 ∙ k in
              inr (inr (
                e.0,
                (
                  (λ act.
                      let r = all n q old act in
                      f.0 (in_state (Undone job) (row_part row params job r.0)) (gone_in r.0 r.1) (ap (λ (v : Part). v.name) (sym r.2) ∙ named n q old)),
                  old,
                ),
              )))
        ]
      ]

  -- each row is kept under its name
  pub back_named : (n : Name) (q : Part) → get put_back n ≡ Some q → q.name ≡ n
  back_named n q k =
      elim (put_cases outgoing (insert m p (in_state Standing row)) n) [
        | inl f ↦ ap (λ (v : Part). v.name) (same_some q f.0 (sym k ∙ f.3)) ∙ f.2
        | inr f ↦ elim (name_cases n p) [
          | inl e ↦ (
              let is : q ≡ in_state Standing row = same_some q (in_state Standing row) (sym k ∙ f.1 ∙ ap (get (insert m p (in_state Standing row))) e.0 ∙ get_same names_total names_same m p (in_state Standing row)) in
              ap (λ (v : Part). v.name) is ∙ named p row kept ∙ sym e.0)
          | inr e ↦ named n q (sym (get_other names_total names_same m p (in_state Standing row) n e.0) ∙ sym f.1 ∙ k)
        ]
      ]

  -- a name that is neither the part's nor one of those is found as before
  pub back_same : (n : Name) → (n ≡ p → ⊥) → ((r : Row) → IsIn r rows → (record { act = job; node = r.node }) ≡ n → ⊥) → get put_back n ≡ get m n
  back_same n other none =
      elim (put_cases outgoing (insert m p (in_state Standing row)) n) [
        | inl f ↦ (let r = gone_of f.0 f.1 in absurd (none r.0 r.1 (ap (λ (v : Part). v.name) (sym r.2) ∙ f.2)))
        | inr f ↦ f.1 ∙ get_other names_total names_same m p (in_state Standing row) n other
      ]

  pub back_row : get put_back p ≡ Some (in_state Standing row)
  back_row =
      elim (put_cases outgoing (insert m p (in_state Standing row)) p) [
        | inl f ↦ (
            let r = gone_of f.0 f.1 in
            absurd (not_made (ap (λ (v : Name). v.act) (sym f.2) ∙ ap (λ (v : Part). v.name.act) r.2)))
        | inr f ↦ f.1 ∙ get_same names_total names_same m p (in_state Standing row)
      ]

  pub back_other : (n : Name) (q : Part) → get m n ≡ Some q → (n ≡ p → ⊥) → (n.act ≡ job → ⊥) → get put_back n ≡ Some q
  back_other n q k other apart = back_same n other (λ r i e. apart (sym (ap (λ (v : Name). v.act) e))) ∙ k

  -- each row is there still, in some state
  pub back_still : (n : Name) (q : Part) → get m n ≡ Some q → (s : State) × (get put_back n ≡ Some (in_state s q))
  back_still n q k =
      elim (put_cases outgoing (insert m p (in_state Standing row)) n) [
        | inl f ↦ (
            let r = gone_of f.0 f.1 in
            let name : (record { act = job; node = r.0.node }) ≡ n = ap (λ (v : Part). v.name) (sym r.2) ∙ f.2 in
            let same : row_part row params job r.0 ≡ q = same_some (row_part row params job r.0) q (sym (there r.0 r.1) ∙ ap (get m) name ∙ k) in
            (Undone job, f.3 ∙ ap Some r.2 ∙ ap (λ (v : Part). Some (in_state (Undone job) v)) same))
        | inr f ↦ elim (name_cases n p) [
          | inl e ↦ (
              let same : row ≡ q = same_some row q (sym kept ∙ ap (get m) (sym e.0) ∙ k) in
              (Standing, ap (get put_back) e.0 ∙ back_row ∙ ap (λ (v : Part). Some (in_state Standing v)) same))
          | inr e ↦ (q.state, f.1 ∙ get_other names_total names_same m p (in_state Standing row) n e.0 ∙ k)
        ]
      ]

  -- ---- cells

  -- a cell of one of those parts is one of the part
  was_in : (u : Name) (x y : ℕ) (r : Row) → IsIn r rows → HasCellOf u x y (row_part row params job r) → HasCellOf u x y (in_state Standing row)
  was_in u x y r i h =
      let a : row.x + r.x ≤ x = h.right in let b : x < (row.x + r.x) + r.w = h.left in
      let c : row.y + r.y ≤ y = h.below in let d : y < (row.y + r.y) + r.h = h.above in
      let held : lay.CoversCell r (x - row.x) (y - row.y) = record { left = omega arith; right = omega arith; top = omega arith; bottom = omega arith } in
      let owns : Owns tree row.size.w row.size.h params.kerf outcome r.node r.owner (x - row.x) (y - row.y) =
      (all_in (λ (s : Row). (k l : ℕ) → lay.CoversCell s k l ↔ Owns tree row.size.w row.size.h params.kerf outcome s.node s.owner k l) rows laid.own_cells r i (x - row.x) (y - row.y)).0 held in
      let wide : x - row.x < row.size.w = owns.inside_width in let high : y - row.y < row.size.h = owns.inside_height in
      record { root = h.root; whole = refl; right = omega arith; left = omega arith; below = omega arith; above = omega arith }

  -- each cell of the part is one of theirs
  now_in : (u : Name) (x y : ℕ) → HasCellOf u x y (in_state Standing row) → (r : Row) × IsIn r rows × HasCellOf u x y (row_part row params job r)
  now_in u x y h =
      let left : row.x ≤ x = h.right in let top : row.y ≤ y = h.below in
      let right : x < row.x + row.size.w = h.left in let bottom : y < row.y + row.size.h = h.above in
      let r = any_in (λ (r : Row). lay.CoversCell r (x - row.x) (y - row.y)) rows (laid.each_cell (x - row.x) (y - row.y) (omega arith) (omega arith)) in
      let a : r.0.x ≤ x - row.x = r.2.left in let b : x - row.x < r.0.x + r.0.w = r.2.right in
      let c : r.0.y ≤ y - row.y = r.2.top in let d : y - row.y < r.0.y + r.0.h = r.2.bottom in
      (r.0, r.1, record { root = h.root; whole = row_whole r.0; right = omega arith; left = omega arith; below = omega arith; above = omega arith })

  not_gone : (u : Name) (x y : ℕ) (q : Part) (r : Row) → q ≡ in_state (Undone job) (row_part row params job r) → HasCellOf u x y q → ⊥
  not_gone u x y q r e h = true≢false (ap (λ (v : Part). is_gone v.state) (sym e) ∙ h.whole)

  pub stood_again : (found after : Option Owner) (u : Name) (x y : ℕ)
      → ((w : Owner) → found ≡ Some w → w.name.act ≡ job → HasCellOf u x y (in_state Standing row)
      → (b : Owner) × ((after ≡ Some b) × IsOwner b x y (in_state Standing row)))
      → ((w : Owner) → found ≡ Some w → (w.name.act ≡ job → ⊥) → after ≡ Some w)
      → HasOwner m found u x y → HasOwner put_back after u x y
  stood_again found after u x y mine others o =
      elim (nat_cases o.part.name.act job) [
        | inl e ↦ (
            let r = all o.part.name o.part o.kept e.0 in
            let h : HasCellOf u x y (in_state Standing row) = was_in u x y r.0 r.1 (subst (HasCellOf u x y) r.2 o.holds) in
            let b = mine o.owner o.owned (ap (λ (v : Name). v.act) (sym o.same.name) ∙ e.0) h in
            record {
              part = in_state Standing row;
              owner = b.0;
              kept = ap (get put_back) (named p row kept) ∙ back_row;
              holds = h;
              owned = b.1.0;
              same = b.1.1;
              alone = λ n q k g. elim (back_cases n q k) [
                | inl c ↦ absurd (not_gone u x y q c.1.0 c.1.2 g)
                | inr c ↦ elim c [
                  | inl d ↦ d.1
                  | inr d ↦ absurd (d.1.0 (ap (λ (v : Name). v.act) (sym (named n q d.1.1)) ∙ ap (λ (v : Part). v.name.act) (o.alone n q d.1.1 g) ∙ e.0))
                ]
              ];
            })
        | inr e ↦ (
            let other : o.part.name ≡ p → ⊥ = λ is.
            let it : o.part ≡ row = same_some o.part row (sym o.kept ∙ ap (get m) is ∙ kept) in
            true≢false (sym (ap is_gone cut) ∙ ap (λ (v : Part). is_gone v.state) (sym it) ∙ o.holds.whole) in
            record {
              part = o.part;
              owner = o.owner;
              kept = back_other o.part.name o.part o.kept other e.0;
              holds = o.holds;
              owned = others o.owner o.owned (λ is. e.0 (ap (λ (v : Name). v.act) o.same.name ∙ is));
              same = o.same;
              alone = λ n q k g. elim (back_cases n q k) [
                | inl c ↦ absurd (not_gone u x y q c.1.0 c.1.2 g)
                | inr c ↦ elim c [
                  | inl d ↦ (
                      let r = now_in u x y (subst (HasCellOf u x y) d.1 g) in
                      let same : row_part row params job r.0 ≡ o.part = o.alone (record { act = job; node = r.0.node }) (row_part row params job r.0) (there r.0 r.1) r.2 in
                      absurd (e.0 (sym (ap (λ (v : Part). v.name.act) same))))
                  | inr d ↦ o.alone n q d.1.1 g
                ]
              ];
            })
      ]
