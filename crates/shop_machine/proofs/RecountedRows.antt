-- The demands of a plan's leaves, each once.
use Rattle.std.proofs.Common.{◌≡◌, ◌≢◌, ℕ, zero, suc, ◌+◌, ◌-◌, ◌<◌, ◌≤◌, List, [], ◌∷◌, ◌++◌, length, get_or, take, drop, Bool, true, false, true≢false, refl, sym, ap, subst, ◌∙◌, arith, inl, inr}
use Rattle.std.specs.Prelude.{Option, Some, None, IfSome, All, Any, AllPairs, MatchOption, ◌||◌, ◌&&◌}
use Rattle.std.specs.List.{list_any, list_all}
use Rattle.std.proofs.lemmas.Bool.{cases_lt, leb-true}
use Rattle.std.proofs.lemmas.List.{get_or_append_left, get_or-append_right, get_or_default, length-append, length-map, get_or-map}
use Rattle.std.proofs.lemmas.List.Elements.{All-append, All-nil}
use Rattle.std.proofs.lemmas.List.Quantifiers.{Any-push}
use Rattle.std.proofs.Math.Seq.{take-length}
use Rattle.cut_tree.specs.declared.lay.Row.{Row}
use Rattle.cut_tree.specs.declared.leaves.Leaf.{Leaf}
use Rattle.cut_tree.specs.Tree.{Tree, count_of}
use Rattle.cut_tree.specs.Patterns.{Pattern}
use Rattle.shop_records.specs.declared.records.Demand.{Demand}
use Rattle.shop_machine.specs.declared.recounts.FoundLeaf.{FoundLeaf}
use Rattle.shop_machine.specs.declared.recounts.Recount.{Recount}
use Rattle.shop_machine.specs.declared.recounts.Recount.TheVariants.{Reserved}
use Rattle.shop_machine.specs.Recounts.{AreRecounted, plan_leaves, AreDemandsFound, leaves_in, recount_by, HasRow, IsAddedOnce, IsAlike, IsNumbered, pieces_in}
use Rattle.shop_machine.specs.Reserving.{is_over}
use Rattle.shop_machine.specs.Ending.{has_reserved}
use Rattle.shop_machine.specs.Undoing.{has_made}
use Rattle.shop_records.specs.Elements.{IsIn}
use Rattle.shop_records.proofs.Basics.{at_in, in_at, in_map}
use Rattle.shop_machine.proofs.Allowed.{leaf_with, leaf_counts}

-- ---- demands over their numbers

all_after : (f : FoundLeaf) (fs : List FoundLeaf) → take (length (f ∷ fs) - 1) fs ≡ fs
all_after f fs = ap (λ n. take n fs) (let e : length (f ∷ fs) - 1 ≡ length fs = omega arith in e) ∙ take-length fs

-- a first leaf that isn't over, and the others
pub over_more : (tree : Tree) (at : ℕ → Option Demand) (leaves : List FoundLeaf) (b : Bool) (d : FoundLeaf) → 1 ≤ length leaves → AreDemandsFound at leaves
    → is_over (count_of tree (get_or leaves 0 d).leaf.demand) (get_or leaves 0 d).demand ≡ false
    → b ≡ list_any (λ (leaf : Leaf). is_over (count_of tree leaf.demand) (at leaf.demand)) (leaves_in (take (length leaves - 1) (drop 1 leaves)))
    → b ≡ list_any (λ (leaf : Leaf). is_over (count_of tree leaf.demand) (at leaf.demand)) (leaves_in leaves)
over_more tree at [] b d some found within e = absurd (omega arith)
over_more tree at (f ∷ fs) b d some found within e =
    e ∙ ap (λ ls. list_any (λ (leaf : Leaf). is_over (count_of tree leaf.demand) (at leaf.demand)) (leaves_in ls)) (all_after f fs)
    ∙ ap (λ o. o || list_any (λ (leaf : Leaf). is_over (count_of tree leaf.demand) (at leaf.demand)) (leaves_in fs))
    (sym (ap (is_over (count_of tree f.leaf.demand)) (sym (found 0 d (omega arith))) ∙ within))

-- a first leaf whose pieces are reserved, and the others
pub reserved_more : (tree : Tree) (at : ℕ → Option Demand) (leaves : List FoundLeaf) (b : Bool) (d : FoundLeaf) → 1 ≤ length leaves → AreDemandsFound at leaves
    → has_reserved (count_of tree (get_or leaves 0 d).leaf.demand) (get_or leaves 0 d).demand ≡ true
    → b ≡ list_all (λ (leaf : Leaf). has_reserved (count_of tree leaf.demand) (at leaf.demand)) (leaves_in (take (length leaves - 1) (drop 1 leaves)))
    → b ≡ list_all (λ (leaf : Leaf). has_reserved (count_of tree leaf.demand) (at leaf.demand)) (leaves_in leaves)
reserved_more tree at [] b d some found first e = absurd (omega arith)
reserved_more tree at (f ∷ fs) b d some found first e =
    e ∙ ap (λ ls. list_all (λ (leaf : Leaf). has_reserved (count_of tree leaf.demand) (at leaf.demand)) (leaves_in ls)) (all_after f fs)
    ∙ ap (λ o. o && list_all (λ (leaf : Leaf). has_reserved (count_of tree leaf.demand) (at leaf.demand)) (leaves_in fs))
    (sym (ap (has_reserved (count_of tree f.leaf.demand)) (sym (found 0 d (omega arith))) ∙ first))

-- a first leaf that passes a test of its demand, and the others
pub test_more : (test : ℕ → Option Demand → Bool) (at : ℕ → Option Demand) (leaves : List FoundLeaf) (b : Bool) (d : FoundLeaf) → 1 ≤ length leaves → AreDemandsFound at leaves
    → test (get_or leaves 0 d).leaf.demand (get_or leaves 0 d).demand ≡ true
    → b ≡ list_all (λ (leaf : Leaf). test leaf.demand (at leaf.demand)) (leaves_in (take (length leaves - 1) (drop 1 leaves)))
    → b ≡ list_all (λ (leaf : Leaf). test leaf.demand (at leaf.demand)) (leaves_in leaves)
test_more test at [] b d some found first e = absurd (omega arith)
test_more test at (f ∷ fs) b d some found first e =
    e ∙ ap (λ ls. list_all (λ (leaf : Leaf). test leaf.demand (at leaf.demand)) (leaves_in ls)) (all_after f fs)
    ∙ ap (λ o. o && list_all (λ (leaf : Leaf). test leaf.demand (at leaf.demand)) (leaves_in fs)) (sym (ap (test f.leaf.demand) (sym (found 0 d (omega arith))) ∙ first))

-- a first leaf that doesn't pass it
pub test_none : (test : ℕ → Option Demand → Bool) (at : ℕ → Option Demand) (leaves : List FoundLeaf) (d : FoundLeaf) → 1 ≤ length leaves → AreDemandsFound at leaves
    → test (get_or leaves 0 d).leaf.demand (get_or leaves 0 d).demand ≡ false
    → false ≡ list_all (λ (leaf : Leaf). test leaf.demand (at leaf.demand)) (leaves_in leaves)
test_none test at [] d some found first = absurd (omega arith)
test_none test at (f ∷ fs) d some found first =
    ap (λ o. o && list_all (λ (leaf : Leaf). test leaf.demand (at leaf.demand)) (leaves_in fs)) (sym (ap (test f.leaf.demand) (sym (found 0 d (omega arith))) ∙ first))

-- a first leaf of whose demand as many are made as were laid, and the others
module _ (laid : List Row) (tree : Tree) where
  abbrev Unmakes : ℕ → Demand → Type 0
  Unmakes n demand = pieces_in demand.number laid ≤ demand.made

  pub made_rows : (leaves : List FoundLeaf) (d : FoundLeaf) → 1 ≤ length leaves → All IsNumbered leaves
      → has_made (pieces_in (get_or leaves 0 d).leaf.demand laid) (get_or leaves 0 d).demand ≡ true
      → All (HasRow Unmakes tree) (take (length leaves - 1) (drop 1 leaves)) → All (HasRow Unmakes tree) leaves
  made_rows [] d some numbered here rest = absurd (omega arith)
  made_rows (f ∷ fs) d some numbered here rest = by
    where
      after : All (HasRow Unmakes tree) fs
      after = subst (All (HasRow Unmakes tree)) (all_after f fs) rest

      head : (o : Option Demand) → IfSome o (λ (demand : Demand). demand.number ≡ f.leaf.demand) → has_made (pieces_in f.leaf.demand laid) o ≡ true
          → MatchOption o ⊥ (λ (demand : Demand). (demand.number ≡ f.leaf.demand) × Unmakes (count_of tree f.leaf.demand) demand)
      head None n e = absurd (true≢false (sym e))
      head (Some demand) n e = (n, subst (λ k. pieces_in k laid ≤ demand.made) (sym n) (leb-true (pieces_in f.leaf.demand laid) demand.made e))

      by : (k : ℕ) (e : FoundLeaf) → k < length (f ∷ fs) → HasRow Unmakes tree (get_or (f ∷ fs) k e)
      by zero e within = head f.demand (numbered 0 e (omega arith)) here
      by (suc k) e within = after k e (omega (arith, within))

-- ---- a first leaf that is judged with a later one

some_passes : (test : ℕ → Bool) (leaves : List FoundLeaf) (k : ℕ) (d : FoundLeaf) → k < length leaves → test (get_or leaves k d).leaf.demand ≡ true
    → list_any (λ (leaf : Leaf). test leaf.demand) (leaves_in leaves) ≡ true
some_passes test [] k d within passes = absurd (omega arith)
some_passes test (f ∷ fs) zero d within passes = ap (λ b. b || list_any (λ (leaf : Leaf). test leaf.demand) (leaves_in fs)) passes
some_passes test (f ∷ fs) (suc k) d within passes = rw (some_passes test fs k d (omega (arith, within)) passes) (by (test f.leaf.demand))
  where
    by : (b : Bool) → (b || true) ≡ true
    by true = refl
    by false = refl

some_fails : (test : ℕ → Bool) (leaves : List FoundLeaf) (k : ℕ) (d : FoundLeaf) → k < length leaves → test (get_or leaves k d).leaf.demand ≡ false
    → list_all (λ (leaf : Leaf). test leaf.demand) (leaves_in leaves) ≡ false
some_fails test [] k d within fails = absurd (omega arith)
some_fails test (f ∷ fs) zero d within fails = ap (λ b. b && list_all (λ (leaf : Leaf). test leaf.demand) (leaves_in fs)) fails
some_fails test (f ∷ fs) (suc k) d within fails = rw (some_fails test fs k d (omega (arith, within)) fails) (by (test f.leaf.demand))
  where
    by : (b : Bool) → (b && false) ≡ false
    by true = refl
    by false = refl

-- one of the leaves is of the same demand
same_number : (test : ℕ → Bool) (b : Bool) (f : FoundLeaf) (fs : List FoundLeaf) (again : Any (IsAlike f) fs) → test f.leaf.demand ≡ b → test (get_or fs again.0 again.1).leaf.demand ≡ b
same_number test b f fs again is = ap (λ (g : FoundLeaf). test g.leaf.demand) again.3 ∙ ap test again.4.0 ∙ is

pub again_any : (test : ℕ → Bool) (leaves : List FoundLeaf) (b : Bool) (d : FoundLeaf) → 1 ≤ length leaves → Any (IsAlike (get_or leaves 0 d)) (take (length leaves - 1) (drop 1 leaves))
    → b ≡ list_any (λ (leaf : Leaf). test leaf.demand) (leaves_in (take (length leaves - 1) (drop 1 leaves)))
    → b ≡ list_any (λ (leaf : Leaf). test leaf.demand) (leaves_in leaves)
again_any test [] b d some again e = absurd (omega arith)
again_any test (f ∷ fs) b d some again e =
    e ∙ ap (λ ls. list_any (λ (leaf : Leaf). test leaf.demand) (leaves_in ls)) (all_after f fs) ∙ by (test f.leaf.demand) refl
  where
    later : Any (IsAlike f) fs
    later = subst (Any (IsAlike f)) (all_after f fs) again

    by : (p : Bool) → test f.leaf.demand ≡ p → list_any (λ (leaf : Leaf). test leaf.demand) (leaves_in fs) ≡ list_any (λ (leaf : Leaf). test leaf.demand) (leaves_in (f ∷ fs))
    by true is =
        some_passes test fs later.0 later.1 later.2 (same_number test true f fs later is) ∙ sym (ap (λ b. b || list_any (λ (leaf : Leaf). test leaf.demand) (leaves_in fs)) is)
    by false is = sym (ap (λ b. b || list_any (λ (leaf : Leaf). test leaf.demand) (leaves_in fs)) is)

pub again_all : (test : ℕ → Bool) (leaves : List FoundLeaf) (b : Bool) (d : FoundLeaf) → 1 ≤ length leaves → Any (IsAlike (get_or leaves 0 d)) (take (length leaves - 1) (drop 1 leaves))
    → b ≡ list_all (λ (leaf : Leaf). test leaf.demand) (leaves_in (take (length leaves - 1) (drop 1 leaves)))
    → b ≡ list_all (λ (leaf : Leaf). test leaf.demand) (leaves_in leaves)
again_all test [] b d some again e = absurd (omega arith)
again_all test (f ∷ fs) b d some again e =
    e ∙ ap (λ ls. list_all (λ (leaf : Leaf). test leaf.demand) (leaves_in ls)) (all_after f fs) ∙ by (test f.leaf.demand) refl
  where
    later : Any (IsAlike f) fs
    later = subst (Any (IsAlike f)) (all_after f fs) again

    by : (p : Bool) → test f.leaf.demand ≡ p → list_all (λ (leaf : Leaf). test leaf.demand) (leaves_in fs) ≡ list_all (λ (leaf : Leaf). test leaf.demand) (leaves_in (f ∷ fs))
    by true is = sym (ap (λ b. b && list_all (λ (leaf : Leaf). test leaf.demand) (leaves_in fs)) is)
    by false is =
        some_fails test fs later.0 later.1 later.2 (same_number test false f fs later is) ∙ sym (ap (λ b. b && list_all (λ (leaf : Leaf). test leaf.demand) (leaves_in fs)) is)

-- what holds of each later leaf's demand and its row
pub again_holds : (what : ℕ → Option Demand → Type 0) (leaves : List FoundLeaf) (d : FoundLeaf) → 1 ≤ length leaves
    → Any (IsAlike (get_or leaves 0 d)) (take (length leaves - 1) (drop 1 leaves))
    → All (λ (f : FoundLeaf). what f.leaf.demand f.demand) (take (length leaves - 1) (drop 1 leaves)) → All (λ (f : FoundLeaf). what f.leaf.demand f.demand) leaves
again_holds what [] d some again all = absurd (omega arith)
again_holds what (f ∷ fs) d some again all = by
  where
    later : Any (IsAlike f) fs
    later = subst (Any (IsAlike f)) (all_after f fs) again

    after : All (λ (f : FoundLeaf). what f.leaf.demand f.demand) fs
    after = subst (All (λ (f : FoundLeaf). what f.leaf.demand f.demand)) (all_after f fs) all

    by : (k : ℕ) (e : FoundLeaf) → k < length (f ∷ fs) → what (get_or (f ∷ fs) k e).leaf.demand (get_or (f ∷ fs) k e).demand
    by zero e within =
        subst (λ (o : Option Demand). what f.leaf.demand o) later.4.1
        (subst (λ n. what n later.1.demand) later.4.0 (subst (λ (g : FoundLeaf). what g.leaf.demand g.demand) later.3 (after later.0 later.1 later.2)))
    by (suc k) e within = after k e (omega (arith, within))

-- ---- rows of the leaves that were taken

-- the rows of the first `taken` leaves
pub record AreAdded (how : Recount) (tree : Tree) (leaves : List FoundLeaf) (taken : ℕ) (rows : List Demand) : Type 0 where
  pub only : All (λ row. Any (λ (found : FoundLeaf). (before : Demand) × (found.demand ≡ Some before) × (found.leaf.demand ≡ row.number) × (row ≡ recount_by how (count_of tree row.number) before)) leaves) rows
  pub each : (k : ℕ) (d : FoundLeaf) → k < taken → k < length leaves → Any (λ (row : Demand). row.number ≡ (get_or leaves k d).leaf.demand) rows
  pub once : AllPairs (λ (a b : Demand). a.number ≢ b.number) rows

pub none_added : (how : Recount) (tree : Tree) (leaves : List FoundLeaf) → AreAdded how tree leaves 0 []
none_added how tree leaves = record {
  only = All-nil _;
  each = λ k d before within. absurd (omega arith);
  once = λ i j d before within. absurd (omega arith);
}

pub number_kept : (how : Recount) (n : ℕ) (demand : Demand) → (recount_by how n demand).number ≡ demand.number
number_kept Reserved n demand = refl
number_kept _ n demand = refl

any_row : (rows : List Demand) (a b : ℕ) → a ≡ b → Any (λ (row : Demand). row.number ≡ a) rows → Any (λ (row : Demand). row.number ≡ b) rows
any_row rows a b e any = (any.0, any.1, any.2, any.3, any.4 ∙ e)

any_left : (rows more : List Demand) (n : ℕ) → Any (λ (row : Demand). row.number ≡ n) rows → Any (λ (row : Demand). row.number ≡ n) (rows ++ more)
any_left rows more n any =
    let within : any.0 < length rows = any.2 in
    (any.0, any.1, omega (arith, length-append rows more), get_or_append_left rows more any.1 any.0 within ∙ any.3, any.4)

once_push : (rows : List Demand) (row : Demand) → AllPairs (λ (a b : Demand). a.number ≢ b.number) rows → All (λ (other : Demand). other.number ≢ row.number) rows
    → AllPairs (λ (a b : Demand). a.number ≢ b.number) (rows ++ row ∷ [])
once_push rows row message_ids none i j d before within =
    let count = length-append rows (row ∷ []) in
    let first : i < length rows = omega (arith, count) in
    rw (get_or_append_left rows (row ∷ []) d i first)
    (elim (cases_lt j (length rows)) [
      | inl less ↦ rw (get_or_append_left rows (row ∷ []) d j less) (message_ids i j d before less)
      | inr last ↦
          let at : j ≡ length rows = omega (arith, count) in
          let end : get_or (rows ++ row ∷ []) j d ≡ row =
          get_or-append_right rows (row ∷ []) (length rows) j d refl last ∙ ap (λ n. get_or (row ∷ []) n d) (let z : j - length rows ≡ 0 = omega arith in z) in
          subst (λ (b : Demand). (get_or rows i d).number ≢ b.number) (sym end) (none i d first)
    ])

module _ (how : Recount) (tree : Tree) (leaves : List FoundLeaf) (i : ℕ) (rows new : List Demand) (found : FoundLeaf) (demand : Demand)
    (within : i < length leaves) (is : found ≡ get_or leaves i found) (row_is : found.demand ≡ Some demand) (own : demand.number ≡ found.leaf.demand)
    (before : AreAdded how tree leaves i rows) where
  abbrev row : Demand
  row = recount_by how (count_of tree found.leaf.demand) demand

  row_number : row.number ≡ found.leaf.demand
  row_number = number_kept how (count_of tree found.leaf.demand) demand ∙ own

  leaf_number : (d : FoundLeaf) → (get_or leaves i d).leaf.demand ≡ found.leaf.demand
  leaf_number d = ap (λ (f : FoundLeaf). f.leaf.demand) (get_or_default leaves i d found within ∙ sym is)

  there : Any (λ (other : Demand). other.number ≡ row.number) rows → new ≡ rows → AreAdded how tree leaves (i + 1) new
  there any same = subst (AreAdded how tree leaves (i + 1)) (sym same) (record {
    only = before.only;
    each = λ k d le inside. elim (cases_lt k i) [
      | inl less ↦ before.each k d less inside
      | inr least ↦
          let at : i ≡ k = omega arith in
          subst (λ n. Any (λ (r : Demand). r.number ≡ (get_or leaves n d).leaf.demand) rows) at (any_row rows row.number (get_or leaves i d).leaf.demand (row_number ∙ sym (leaf_number d)) any)
    ];
    once = before.once;
  })

  pushed : All (λ (other : Demand). other.number ≢ row.number) rows → new ≡ rows ++ row ∷ [] → AreAdded how tree leaves (i + 1) new
  pushed none more = subst (AreAdded how tree leaves (i + 1)) (sym more) (record {
    only = All-append (λ (row : Demand). Any (λ (found : FoundLeaf). (before : Demand) × (found.demand ≡ Some before) × (found.leaf.demand ≡ row.number) × (row ≡ recount_by how (count_of tree row.number) before)) leaves) rows (row ∷ []) before.only (λ k d inside. elim (cases_lt k 0) [
      | inl less ↦ absurd (omega arith)
      | inr least ↦
          let at : k ≡ 0 = omega arith in
          subst (λ n. Any (λ (f : FoundLeaf). (b : Demand) × (f.demand ≡ Some b) × (f.leaf.demand ≡ (get_or (row ∷ []) n d).number) × (get_or (row ∷ []) n d ≡ recount_by how (count_of tree (get_or (row ∷ []) n d).number) b)) leaves) (sym at)
          (i, found, within, sym is, (demand, row_is, sym row_number, ap (λ n. recount_by how (count_of tree n) demand) (sym row_number)))
    ]);
    each = λ k d le inside. elim (cases_lt k i) [
      | inl less ↦ any_left rows (row ∷ []) (get_or leaves k d).leaf.demand (before.each k d less inside)
      | inr least ↦
          let at : i ≡ k = omega arith in
          subst (λ n. Any (λ (r : Demand). r.number ≡ (get_or leaves n d).leaf.demand) (rows ++ row ∷ [])) at
          (Any-push (λ (r : Demand). r.number ≡ (get_or leaves i d).leaf.demand) rows row (row_number ∙ sym (leaf_number d)))
    ];
    once = once_push rows row before.once none;
  })

  pub added_more : IsAddedOnce rows row new → AreAdded how tree leaves (i + 1) new
  added_more (inl a) = there a.0 a.1
  added_more (inr a) = pushed a.0 a.1

-- rows of all leaves of a plan
pub all_added : (how : Recount) (plan : Pattern) (leaves : List FoundLeaf) (rows : List Demand) (at : ℕ → Option Demand) (taken : ℕ)
    → leaves_in leaves ≡ plan_leaves plan → length leaves ≤ taken → AreAdded how plan.tree leaves taken rows → AreDemandsFound at leaves
    → AreRecounted at (recount_by how) plan.tree rows
all_added how plan leaves rows at taken same all added found =
    let count : length (plan_leaves plan) ≡ length leaves = ap length (sym same) ∙ length-map leaves (λ (f : FoundLeaf). f.leaf) in
    record {
      only = λ k d within.
          let row = get_or rows k d in
          let from = added.only k d within in
          let inside : from.0 < length leaves = from.2 in
          let leaf : get_or (plan_leaves plan) from.0 from.1.leaf ≡ from.1.leaf =
          ap (λ ls. get_or ls from.0 from.1.leaf) (sym same) ∙ get_or-map (λ (f : FoundLeaf). f.leaf) leaves from.0 from.1 from.1.leaf inside ∙ ap (λ (f : FoundLeaf). f.leaf) from.3 in
          let row_at : from.1.demand ≡ at from.1.leaf.demand = subst (λ (f : FoundLeaf). f.demand ≡ at f.leaf.demand) from.3 (found from.0 from.1 inside) in (
            from.4.0,
            ap at (sym from.4.2) ∙ sym row_at ∙ from.4.1,
            subst (λ n. 1 ≤ count_of plan.tree n) (ap (λ (l : Leaf). l.demand) leaf ∙ from.4.2)
                (leaf_counts plan (get_or (plan_leaves plan) from.0 from.1.leaf) (at_in (plan_leaves plan) from.0 from.1.leaf (omega (arith, count, inside)))),
            from.4.3,
          );
      each = λ number some.
          let leaf = leaf_with plan number some in
          let found = in_map (λ (f : FoundLeaf). f.leaf) leaves leaf.0 (subst (IsIn leaf.0) (sym same) leaf.1) in
          let at = in_at leaves found.0 found.1 in
          let is : (get_or leaves at.0 found.0).leaf.demand ≡ number = ap (λ (f : FoundLeaf). f.leaf.demand) at.2 ∙ ap (λ (l : Leaf). l.demand) (sym found.2) ∙ leaf.2 in
          any_row rows (get_or leaves at.0 found.0).leaf.demand number is (added.each at.0 found.0 (omega (arith, at.1, all)) at.1);
      once = added.once;
    }

-- the row that a leaf has
pub row_of : (allows : ℕ → Demand → Type 0) (tree : Tree) (found : FoundLeaf) (demand : Demand) → HasRow allows tree found → found.demand ≡ Some demand
    → (demand.number ≡ found.leaf.demand) × allows (count_of tree found.leaf.demand) demand
row_of allows tree found demand has is =
    subst (λ (o : Option Demand). MatchOption o ⊥ (λ (d : Demand). (d.number ≡ found.leaf.demand) × allows (count_of tree found.leaf.demand) d)) is has

pub after_fewer : (leaves : List FoundLeaf) → 1 ≤ length leaves → length (take (length leaves - 1) (drop 1 leaves)) < length leaves
after_fewer [] some = absurd (omega arith)
after_fewer (f ∷ fs) some = omega (arith, ap length (all_after f fs))

pub numbered_after : (leaves : List FoundLeaf) → All IsNumbered leaves → All IsNumbered (take (length leaves - 1) (drop 1 leaves))
numbered_after [] all = all
numbered_after (f ∷ fs) all = subst (All IsNumbered) (sym (all_after f fs)) (λ k d within. all (suc k) d (omega (arith, within)))

pub found_after : (at : ℕ → Option Demand) (leaves : List FoundLeaf) → AreDemandsFound at leaves → AreDemandsFound at (take (length leaves - 1) (drop 1 leaves))
found_after at [] found = found
found_after at (f ∷ fs) found = subst (AreDemandsFound at) (sym (all_after f fs)) (λ k d within. found (suc k) d (omega (arith, within)))
