-- What the lines of an order file are judged by without a store: the first bad row, and in it the first bad field.
use Rattle.std.specs.Prelude.{ℕ, suc, ◌==◌, ◌&&◌, Bool, false, not, nat_le, List, [], ◌∷◌, All, find, if◌then◌else◌, IsTrue, Option, Some, None, option_map}
use Rattle.std.specs.Str.{bytes_eq}
use Rattle.cut_measure.specs.Measures.{is_size}
use Rattle.cut_measure.specs.declared.ranges.TheConstants.{MAX_COUNT, MAX_HEIGHT, MAX_WIDTH, MAX_WORTH}
use Rattle.cut_measure.specs.declared.sizes.Kind.{Kind}
use Rattle.cut_measure.specs.declared.sizes.Kind.TheVariants.{Bar, Sheet}
use Rattle.shop_files.specs.declared.orders.OrderLine.{OrderLine}
use Rattle.shop_files.specs.declared.shops.MaterialEntry.{MaterialEntry}
use Rattle.shop_problems.specs.declared.judging.BadField.{BadField}

-- the kind of a material: that of the first entry of its code
abbrev pub kind_in : List MaterialEntry → (material : List ℕ) → Option Kind
kind_in entries material = option_map (λ (e : MaterialEntry). e.kind) (find (λ (e : MaterialEntry). bytes_eq e.code material) entries)

-- a width that pieces of this kind may have
abbrev pub is_height : Kind → ℕ → Bool
is_height Bar h = h == 1
is_height Sheet h = nat_le 1 h && nat_le h MAX_HEIGHT

-- a bar's piece that may be turned
abbrev pub is_turned : Kind → Bool → Bool
is_turned Bar turn = turn
is_turned Sheet turn = false

abbrev pub is_in : (most n : ℕ) → Bool
is_in most n = nat_le 1 n && nat_le n most

-- the first bad field behind a line's material, which is of this kind
abbrev pub bad_measure : Kind → OrderLine → Option ℕ
bad_measure kind line =
    if not (is_in MAX_WIDTH line.w) then Some 2 else if not (is_height kind line.h) then Some 3 else if is_turned kind line.turn then Some 4
    else if not (is_in MAX_COUNT line.count) then Some 5 else if not (is_in MAX_WORTH line.worth) then Some 6 else None

-- of a line whose material is of this kind, or is unknown
abbrev pub bad_of : Option Kind → OrderLine → Option ℕ
bad_of None line = Some 1
bad_of (Some kind) line = bad_measure kind line

-- the first bad field of a line but its number; where no materials are known, its sides are those of some sheet
abbrev pub bad_value : Option (List MaterialEntry) → OrderLine → Option ℕ
bad_value None line = bad_measure Sheet line
bad_value (Some entries) line = bad_of (kind_in entries line.material) line

-- the first bad field of a line behind the one of this number
abbrev pub bad_field : Option (List MaterialEntry) → (last : ℕ) → OrderLine → Option ℕ
bad_field shop last line = if nat_le line.line last then Some 0 else bad_value shop line

abbrev pub bad_row : (row : ℕ) → Option ℕ → Option BadField → Option BadField
bad_row row None later = later
bad_row row (Some field) later = Some (record { row = row; field = field })

-- the first bad field of lines, the first of which is this row, behind a line of this number
abbrev pub bad_from : Option (List MaterialEntry) → (row last : ℕ) → List OrderLine → Option BadField
bad_from shop row last [] = None
bad_from shop row last (line ∷ lines) = bad_row row (bad_field shop last line) (bad_from shop (suc row) line.line lines)

-- the first bad field of an order file's lines; of none it is field 7 of row 1
abbrev pub first_bad_field : Option (List MaterialEntry) → List OrderLine → Option BadField
first_bad_field shop [] = Some (record { row = 1; field = 7 })
first_bad_field shop (line ∷ lines) = bad_from shop 1 0 (line ∷ lines)

-- each line has sides that some sheet's piece may have
abbrev pub AreSized : List OrderLine → Type 0
AreSized lines = All (λ (line : OrderLine). IsTrue (is_size Sheet line.w line.h)) lines
