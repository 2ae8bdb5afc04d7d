use Rattle.std.proofs.Common.{◌≡◌, ◌+◌, ◌-◌, ◌≤◌, length, drop, vec_len, vec_capacity}
use Rattle.std.specs.Prelude.{IsTrue}
use Rattle.shop_rows.specs.Rows.{rise, entries_of, put_each}
use Rattle.shop_rows.proofs.rows.put_each.Given as goal

abbrev pub invariant-loop-row : goal.invariant-loop-row
invariant-loop-row g l =
    record {
      rising : IsTrue (rise g.R.KeyedRow.key_of g.R.Key.RowKey.cmp l.rows.items);
      spare : vec_len l.rows + (length l.added - l.row-index) ≤ vec_capacity l.rows;
      rest : put_each g.R.KeyedRow.key_of g.R.Key.RowKey.cmp (drop l.row-index l.added) (entries_of g.R.KeyedRow.key_of g.R.Key.RowKey.cmp l.rows.items)
          ≡ put_each g.R.KeyedRow.key_of g.R.Key.RowKey.cmp l.added (entries_of g.R.KeyedRow.key_of g.R.Key.RowKey.cmp l.fn.rows.items);
    }
