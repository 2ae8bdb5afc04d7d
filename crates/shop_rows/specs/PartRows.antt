-- Parts as rows that give the number of what each was received as, and the parts that the rows stand for.
use Rattle.std.specs.Prelude.{◌≡◌, ◌+◌, ◌^◌, ◌<◌, ◌≤◌, ℕ, List, [], ◌++◌, map, length, get_or, nat_lt, vec_len, vec_capacity, IsTrue}
use Rattle.std.specs.List.{list_all}
use Rattle.cut_measure.specs.Names.{Name}
use Rattle.shop_records.specs.declared.records.Part.{Part}
use Rattle.shop_rows.specs.declared.part_rows.Origin.{Origin}
use Rattle.shop_rows.specs.declared.part_rows.PartRow.{PartRow}
use Rattle.shop_rows.specs.declared.part_rows.PartRows.{PartRows}

abbrev pub row_key : PartRow → Name
row_key row = row.name

-- what a part was received as
abbrev pub origin_of : Part → Origin
origin_of part = record { material = part.material; batch = part.batch }

-- what stands for a number that no origin has
abbrev pub no_origin : Origin
no_origin = record { material = []; batch = [] }

-- the part that a row stands for
abbrev pub part_of : List Origin → PartRow → Part
part_of origins row =
    record {
      name = row.name;
      material = (get_or origins row.origin no_origin).material;
      batch = (get_or origins row.origin no_origin).batch;
      root = row.root;
      x = row.x;
      y = row.y;
      size = row.size;
      state = row.state;
    }

-- the parts that the rows stand for
abbrev pub parts_in : PartRows → List Part
parts_in parts = map (part_of parts.origins.items) parts.rows.items

-- each row's number is one of so many
abbrev pub AreBelow : ℕ → List PartRow → Type 0
AreBelow n rows = IsTrue (list_all (λ row. nat_lt row.origin n) rows)

-- each row's number is that of an origin
abbrev pub AreKnown : PartRows → Type 0
AreKnown parts = AreBelow (length parts.origins.items) parts.rows.items

-- an origin of this number is the part's
pub record IsNumbered (part : Part) (number : ℕ) (origins : List Origin) : Type 0 where
  pub within : number < length origins
  pub is : get_or origins number no_origin ≡ origin_of part

-- there is room for so many rows and origins more, and the origins have numbers of 32 bits
pub record HasCapacity (count : ℕ) (parts : PartRows) : Type 0 where
  pub rows : vec_len parts.rows + count ≤ vec_capacity parts.rows
  pub origins : vec_len parts.origins + count ≤ vec_capacity parts.origins
  pub numbers : vec_len parts.origins + count ≤ 2 ^ 32

-- the number of the part's origin was found or is new, and nothing else came
pub record TakesNumber (part : Part) (number : ℕ) (old new : PartRows) : Type 0 where
  pub rows : new.rows ≡ old.rows
  pub more : (more : List Origin) × (new.origins.items ≡ old.origins.items ++ more)
  pub origin : IsNumbered part number new.origins.items
  pub len : vec_len new.origins ≤ vec_len old.origins + 1
  pub capacity : vec_capacity old.origins ≤ vec_capacity new.origins

-- rows of these parts came after all others, and nothing else changed but for new origins
pub record AreAppended (added : List Part) (old new : PartRows) : Type 0 where
  pub more : List Origin
  pub back : List PartRow
  pub origins : new.origins.items ≡ old.origins.items ++ more
  pub rows : new.rows.items ≡ old.rows.items ++ back
  pub parts : map (part_of new.origins.items) back ≡ added
  pub known : AreBelow (length new.origins.items) back
  pub spare : (count : ℕ) → HasCapacity (length added + count) old → HasCapacity count new
