-- Rows in the order of their keys, as entries of a map.
use Rattle.std.specs.Prelude.{◌≡◌, ◌-◌, List, [], ◌∷◌, length, map, Bool, IsTrue, Option, Some, cond, is_some, not}
use Rattle.std.specs.declared.cmp.Ordering.{Ordering}
use Rattle.std.specs.Ordering.{eq_by_cmp}
use Rattle.std.specs.List.{slice_get}
use Rattle.std.specs.FinMap.{FinMap, is_sorted, find, put, insert, from_sorted}
use Rattle.std.specs.FinMap.Entries.{where_key}

module _ {X K : Type 0} (key_of : X → K) (cmp : K → K → Ordering) where
  abbrev pub entry_of : X → K × X
  entry_of row = (key_of row, row)

  abbrev pub entries_of : List X → List (K × X)
  entries_of rows = map entry_of rows

  -- whether the rows rise strictly by their keys
  abbrev pub rise : List X → Bool
  rise rows = is_sorted cmp (entries_of rows)

  -- the row of a key
  abbrev pub row_at : K → List X → Option X
  row_at key rows = find cmp key (entries_of rows)

  -- whether there is a row of the key
  abbrev pub has_row : K → List X → Bool
  has_row key rows = is_some (row_at key rows)

  -- The new rows are the old ones with this row in its place, instead of the one with its key.
  abbrev pub IsPut : X → List X → List X → Type 0
  IsPut row old new = entries_of new ≡ put cmp (key_of row) row (entries_of old)

  -- the new rows are the old ones without the one of this key
  abbrev pub IsTakenOut : K → List X → List X → Type 0
  IsTakenOut key old new = entries_of new ≡ where_key cmp (λ other. not (eq_by_cmp cmp key other)) (entries_of old)

  -- a row has this key, or none has, and all others are there as they were
  abbrev pub SetsRow : K → Bool → List X → List X → Type 0
  SetsRow key is_there old new = (other : K) → has_row other new ≡ cond (eq_by_cmp cmp other key) is_there (has_row other old)

  -- the entries with these rows put one after another
  abbrev pub put_each : List X → List (K × X) → List (K × X)
  put_each [] entries = entries
  put_each (row ∷ rows) entries = put_each rows (put cmp (key_of row) row entries)

  -- the new rows are the old ones with these put one after another
  abbrev pub ArePut : List X → List X → List X → Type 0
  ArePut rows old new = entries_of new ≡ put_each rows (entries_of old)

  -- the rows rise from the one key to the other
  pub record IsRun (from to : K) (rows : List X) : Type 0 where
    pub rising : IsTrue (rise rows)
    pub begins : slice_get (map key_of rows) 0 ≡ Some from
    pub ends : slice_get (map key_of rows) (length rows - 1) ≡ Some to

  -- the map that the rows stand for
  abbrev pub map_of : List X → FinMap cmp X
  map_of rows = from_sorted (entries_of rows)

  -- a map with these rows
  abbrev pub with_rows : List X → FinMap cmp X → FinMap cmp X
  with_rows [] m = m
  with_rows (row ∷ rows) m = with_rows rows (insert m (key_of row) row)
