use Rattle.std.proofs.Common.{◌≡◌, ◌<◌, ◌≤◌, List, length, get_or, sym, ap, subst, ◌∙◌}
use Rattle.std.specs.declared.cmp.Ordering.TheVariants.{Less, Equal, Greater}
use Rattle.std.specs.Ordering.{ordering_index}
use Rattle.std.specs.List.Sorted.{IsPartitionPoint, IsNonDecreasingBy}
use Rattle.std.proofs.Math.ListN.{set}
use Rattle.std.specs.Prelude.{Some, None}
use Rattle.shop_rows.specs.Rows.{IsPut, row_at}
use Rattle.shop_rows.proofs.Places.{tested, row_found, put_found, row_missed, put_missed, rise-put}
use Rattle.shop_rows.proofs.rows.put.Goals as goal

pub returns-in-Ok-clause-put : goal.returns-in-Ok-clause-put
returns-in-Ok-clause-put g c =
    subst (λ row. IsPut g.R.KeyedRow.key_of g.R.Key.RowKey.cmp c.args.row c.args.rows.now.items (set c.args.rows.now.items c.in-Ok.i row)) (sym c.replace-old.ensures.after)
    (put_found g.R.KeyedRow.key_of g.R.Key.RowKey.cmp g.met.R.Key.RowKey.total g.met.R.Key.RowKey.exact c.args.rows.now.items (tested _ c.requires.rising) c.in-Ok.i c.index_mut.result.now c.key.result
    (subst (λ (xs : List g.row.R.Denot). c.in-Ok.i < length xs) c.deref.ensures.value c.in-Ok.ensures.range) c.index_mut.ensures.value
    (λ d. subst (λ (xs : List g.row.R.Denot). g.R.Key.RowKey.cmp (g.R.KeyedRow.key_of (get_or xs c.in-Ok.i d)) c.key.result ≡ Equal) c.deref.ensures.value (c.in-Ok.ensures.position d))
    c.args.row (sym c.key.ensures))

pub returns-in-Ok-clause-replaced : goal.returns-in-Ok-clause-replaced
returns-in-Ok-clause-replaced g c =
    ap Some c.replace-old.ensures.value
    ∙ sym (row_found g.R.KeyedRow.key_of g.R.Key.RowKey.cmp g.met.R.Key.RowKey.total g.met.R.Key.RowKey.exact c.args.rows.now.items (tested _ c.requires.rising) c.in-Ok.i c.index_mut.result.now (g.R.KeyedRow.key_of c.args.row)
    (subst (λ (xs : List g.row.R.Denot). c.in-Ok.i < length xs) c.deref.ensures.value c.in-Ok.ensures.range) c.index_mut.ensures.value
    (λ d. subst (λ (xs : List g.row.R.Denot). g.R.Key.RowKey.cmp (g.R.KeyedRow.key_of (get_or xs c.in-Ok.i d)) (g.R.KeyedRow.key_of c.args.row) ≡ Equal) c.deref.ensures.value
    (subst (λ k. g.R.Key.RowKey.cmp (g.R.KeyedRow.key_of (get_or c.deref.result.now c.in-Ok.i d)) k ≡ Equal) c.key.ensures (c.in-Ok.ensures.position d))))

pub returns-in-Ok-clause-rising : goal.returns-in-Ok-clause-rising
returns-in-Ok-clause-rising g c =
    rise-put g.R.KeyedRow.key_of g.R.Key.RowKey.cmp g.met.R.Key.RowKey.total c.args.row c.args.rows.now.items (set c.args.rows.now.items c.in-Ok.i c.replace-old.new.dest) (returns-in-Ok-clause-put g c) c.requires.rising

pub returns-in-Ok-insert-clause-put : goal.returns-in-Ok-insert-clause-put
returns-in-Ok-insert-clause-put g c =
    let point = λ (up : IsNonDecreasingBy (λ y. ordering_index (g.R.Key.RowKey.cmp (g.R.KeyedRow.key_of y) c.key.result)) c.args.rows.now.items).
    subst (λ (xs : List g.row.R.Denot). IsPartitionPoint (λ y. g.R.Key.RowKey.cmp (g.R.KeyedRow.key_of y) c.key.result ≡ Less) (λ y. g.R.Key.RowKey.cmp (g.R.KeyedRow.key_of y) c.key.result ≡ Greater) xs c.in-Err.i) c.deref.ensures.value
    (c.in-Err.ensures.position (subst (λ (xs : List g.row.R.Denot). IsNonDecreasingBy (λ y. ordering_index (g.R.Key.RowKey.cmp (g.R.KeyedRow.key_of y) c.key.result)) xs) (sym c.deref.ensures.value) up)) in
    subst (IsPut g.R.KeyedRow.key_of g.R.Key.RowKey.cmp c.args.row c.args.rows.now.items) (sym c.in-Ok-insert.ensures.items)
    (put_missed g.R.KeyedRow.key_of g.R.Key.RowKey.cmp g.met.R.Key.RowKey.total g.met.R.Key.RowKey.exact c.args.rows.now.items (tested _ c.requires.rising) c.in-Err.i c.key.result
    (subst (λ (xs : List g.row.R.Denot). c.in-Err.i ≤ length xs) c.deref.ensures.value c.in-Err.ensures.range) point c.args.row (sym c.key.ensures))

pub returns-in-Ok-insert-clause-replaced : goal.returns-in-Ok-insert-clause-replaced
returns-in-Ok-insert-clause-replaced g c =
    let point = λ (up : IsNonDecreasingBy (λ y. ordering_index (g.R.Key.RowKey.cmp (g.R.KeyedRow.key_of y) c.key.result)) c.args.rows.now.items).
    subst (λ (xs : List g.row.R.Denot). IsPartitionPoint (λ y. g.R.Key.RowKey.cmp (g.R.KeyedRow.key_of y) c.key.result ≡ Less) (λ y. g.R.Key.RowKey.cmp (g.R.KeyedRow.key_of y) c.key.result ≡ Greater) xs c.in-Err.i) c.deref.ensures.value
    (c.in-Err.ensures.position (subst (λ (xs : List g.row.R.Denot). IsNonDecreasingBy (λ y. ordering_index (g.R.Key.RowKey.cmp (g.R.KeyedRow.key_of y) c.key.result)) xs) (sym c.deref.ensures.value) up)) in
    subst (λ k. None ≡ row_at g.R.KeyedRow.key_of g.R.Key.RowKey.cmp k c.args.rows.now.items) c.key.ensures
    (sym (row_missed g.R.KeyedRow.key_of g.R.Key.RowKey.cmp g.met.R.Key.RowKey.total g.met.R.Key.RowKey.exact c.args.rows.now.items (tested _ c.requires.rising) c.in-Err.i c.key.result
    (subst (λ (xs : List g.row.R.Denot). c.in-Err.i ≤ length xs) c.deref.ensures.value c.in-Err.ensures.range) point))

pub returns-in-Ok-insert-clause-rising : goal.returns-in-Ok-insert-clause-rising
returns-in-Ok-insert-clause-rising g c =
    rise-put g.R.KeyedRow.key_of g.R.Key.RowKey.cmp g.met.R.Key.RowKey.total c.args.row c.args.rows.now.items c.insert.new.self.items (returns-in-Ok-insert-clause-put g c) c.requires.rising
