-- Rows that are raised place by place.
use Rattle.std.proofs.Common.{◌≡◌, ◌≢◌, ℕ, ◌+◌, ◌<◌, ◌≤◌, List, [], ◌++◌, drop, take, length, get_or, map, max, refl, sym, subst, ap, ◌∙◌, inl, inr, arith}
use Rattle.std.specs.Prelude.{Vec, slice_index_or, slice_set}
use Rattle.std.specs.declared.alloc.Global.{Global}
use Rattle.std.proofs.lemmas.Bool.{cases_eq}
use Rattle.std.proofs.lemmas.Grind.{common_steps}
use Rattle.std.proofs.lemmas.List.{get_or-map, length-map}
use Rattle.cut_wants.proofs.NumberRows.{value_others, value_set}
use Rattle.cut_classes.specs.declared.pairs.Pair.{Pair}
use Rattle.cut_classes.specs.Classes.{Classes}
use Rattle.cut_classes.specs.Filling.{CoverParts, CoversParts, rows_of}

module _ {T : Type 0} (f : T → ℕ) where
  pub raised_more : (old row : List T) (sums : ℕ → ℕ) (p : ℕ) (x : T) → p < length row
      → ((k : ℕ) → k < p → get_or (map f row) k 0 ≡ max (get_or (map f old) k 0) (sums k)) × ((k : ℕ) → p ≤ k → get_or (map f row) k 0 ≡ get_or (map f old) k 0)
      → f x ≡ max (get_or (map f row) p 0) (sums p)
      → ((k : ℕ) → k < p + 1 → get_or (map f (slice_set row p x)) k 0 ≡ max (get_or (map f old) k 0) (sums k))
      × ((k : ℕ) → p + 1 ≤ k → get_or (map f (slice_set row p x)) k 0 ≡ get_or (map f old) k 0)
  raised_more old row sums p x lt before is = (
    λ k h. elim (cases_eq k p) [
      | inl e ↦ omega (arith, value_set f row p k (f x) x lt refl e, is, before.1 p (omega arith), ap sums e, ap (λ i. get_or (map f old) i 0) e)
      | inr ne ↦ omega (arith, value_others f row p k x ne, before.0 k (omega arith))
    ],
    λ k h. let ne : k ≢ p = omega arith in omega (arith, value_others f row p k x ne, before.1 k (omega arith)),
  )

  pub count_rows : (rows : List (Vec T Global)) → length (rows_of f rows) ≡ length rows
  count_rows rows = length-map rows (λ (v : Vec T Global). map f v.items)

  -- a row of a table, as the worths of its numbers
  pub row_at : (rows : List (Vec T Global)) (j : ℕ) (v : Vec T Global) → j < length rows → v ≡ slice_index_or rows j v → map f v.items ≡ slice_index_or (rows_of f rows) j []
  row_at rows j v lt is = ap (λ (w : Vec T Global). map f w.items) is ∙ sym (get_or-map (λ (w : Vec T Global). map f w.items) rows j v [] lt)

-- the list of a class, read as a slice
pub list_covers : (cs : Classes) (lists : List (Vec Pair Global)) (i : ℕ) (v : Vec Pair Global) (pairs : List Pair) → CoverParts cs lists → i < length lists → v ≡ slice_index_or lists i v → pairs ≡ v.items
    → CoversParts cs i pairs
list_covers cs lists i v pairs all lt is same = subst (CoversParts cs i) (sym same) (subst (λ (w : Vec Pair Global). CoversParts cs i w.items) (sym is) (all i v lt))

-- all of a row is written
pub whole_write : {T : Type 0} (n : ℕ) (new old : List T) → n ≡ length new → length old ≡ length new → take n (new ++ drop (length new) old) ≡ new
whole_write n new old e len = grind (arith, common_steps)
