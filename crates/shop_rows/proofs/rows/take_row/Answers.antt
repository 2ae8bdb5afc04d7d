use Rattle.std.proofs.Common.{◌≡◌, ◌<◌, ◌≤◌, List, length, get_or, sym, subst}
use Rattle.std.specs.declared.cmp.Ordering.TheVariants.{Less, Equal, Greater}
use Rattle.std.specs.Ordering.{ordering_index}
use Rattle.std.specs.List.Sorted.{IsPartitionPoint, IsNonDecreasingBy}
use Rattle.shop_rows.specs.Rows.{IsTakenOut}
use Rattle.shop_rows.proofs.Places.{tested, row_found, row_missed, taken_found, taken_missed, rise-taken}
use Rattle.shop_rows.proofs.rows.take_row.Goals as goal

pub returns-in-Ok-clause-taken : goal.returns-in-Ok-clause-taken
returns-in-Ok-clause-taken g c =
    subst (IsTakenOut g.R.KeyedRow.key_of g.R.Key.RowKey.cmp c.args.key c.args.rows.now.items) (sym (c.remove.ensures.items))
    (taken_found g.R.KeyedRow.key_of g.R.Key.RowKey.cmp g.met.R.Key.RowKey.total g.met.R.Key.RowKey.exact c.args.rows.now.items (tested _ c.requires) c.in-Ok.i c.remove.result c.args.key
    (subst (λ (xs : List g.row.R.Denot). c.in-Ok.i < length xs) c.deref.ensures.value c.in-Ok.ensures.range) c.remove.ensures.value
    (λ d. subst (λ (xs : List g.row.R.Denot). g.R.Key.RowKey.cmp (g.R.KeyedRow.key_of (get_or xs c.in-Ok.i d)) c.args.key ≡ Equal) c.deref.ensures.value (c.in-Ok.ensures.position d)))

pub returns-in-Ok-clause-row : goal.returns-in-Ok-clause-row
returns-in-Ok-clause-row g c =
    sym (row_found g.R.KeyedRow.key_of g.R.Key.RowKey.cmp g.met.R.Key.RowKey.total g.met.R.Key.RowKey.exact c.args.rows.now.items (tested _ c.requires) c.in-Ok.i c.remove.result c.args.key
    (subst (λ (xs : List g.row.R.Denot). c.in-Ok.i < length xs) c.deref.ensures.value c.in-Ok.ensures.range) c.remove.ensures.value
    (λ d. subst (λ (xs : List g.row.R.Denot). g.R.Key.RowKey.cmp (g.R.KeyedRow.key_of (get_or xs c.in-Ok.i d)) c.args.key ≡ Equal) c.deref.ensures.value (c.in-Ok.ensures.position d)))

pub returns-in-Ok-clause-rising : goal.returns-in-Ok-clause-rising
returns-in-Ok-clause-rising g c =
    rise-taken g.R.KeyedRow.key_of g.R.Key.RowKey.cmp c.args.key c.args.rows.now.items c.remove.new.self.items (returns-in-Ok-clause-taken g c) c.requires

pub returns-in-Err-clause-taken : goal.returns-in-Err-clause-taken
returns-in-Err-clause-taken g c =
    taken_missed g.R.KeyedRow.key_of g.R.Key.RowKey.cmp g.met.R.Key.RowKey.total g.met.R.Key.RowKey.exact c.args.rows.now.items (tested _ c.requires) c.in-Err.field-0 c.args.key
    (subst (λ (xs : List g.row.R.Denot). c.in-Err.field-0 ≤ length xs) c.deref.ensures.value c.in-Err.ensures.range)
    (subst (λ (xs : List g.row.R.Denot). IsNonDecreasingBy (λ y. ordering_index (g.R.Key.RowKey.cmp (g.R.KeyedRow.key_of y) c.args.key)) xs
    → IsPartitionPoint (λ y. g.R.Key.RowKey.cmp (g.R.KeyedRow.key_of y) c.args.key ≡ Less) (λ y. g.R.Key.RowKey.cmp (g.R.KeyedRow.key_of y) c.args.key ≡ Greater) xs c.in-Err.field-0) c.deref.ensures.value c.in-Err.ensures.position)

pub returns-in-Err-clause-row : goal.returns-in-Err-clause-row
returns-in-Err-clause-row g c =
    sym (row_missed g.R.KeyedRow.key_of g.R.Key.RowKey.cmp g.met.R.Key.RowKey.total g.met.R.Key.RowKey.exact c.args.rows.now.items (tested _ c.requires) c.in-Err.field-0 c.args.key
    (subst (λ (xs : List g.row.R.Denot). c.in-Err.field-0 ≤ length xs) c.deref.ensures.value c.in-Err.ensures.range)
    (subst (λ (xs : List g.row.R.Denot). IsNonDecreasingBy (λ y. ordering_index (g.R.Key.RowKey.cmp (g.R.KeyedRow.key_of y) c.args.key)) xs
    → IsPartitionPoint (λ y. g.R.Key.RowKey.cmp (g.R.KeyedRow.key_of y) c.args.key ≡ Less) (λ y. g.R.Key.RowKey.cmp (g.R.KeyedRow.key_of y) c.args.key ≡ Greater) xs c.in-Err.field-0) c.deref.ensures.value c.in-Err.ensures.position))
