-- Order files: records of comma-separated fields, the first of them a header.
use Rattle.std.specs.Prelude.{ℕ, zero, suc, ◌≡◌, ◌≢◌, ◌<◌, ◌≤◌, ◌^◌, ◌⊎◌, Bool, true, false, codes, List, [], ◌∷◌, ◌++◌, length, get_or, Option, Some}
use Rattle.std.specs.Str.Parse.{AllDigits, digits_value}
use Rattle.csv.specs.Reading.{Reached, AreRecords, Ready, default_config, reader_config, reader_state, reader_trim, source_of, strip_bom}
use Rattle.csv.specs.declared.reader.Reader.{Reader}
use Rattle.csv.specs.declared.reader.Trim.TheVariants as trim
use Rattle.csv.specs.declared.parser.State.{State}
use Rattle.csv.specs.declared.parser.State.TheVariants as st
use Rattle.cut_measure.specs.Codes.{code_of}
use Rattle.cut_measure.specs.Lengths.{IsLengthText}
use Rattle.shop_files.specs.declared.limits.TheConstants.{MAX_TEXT_LEN, MAX_LINES}
use Rattle.shop_files.specs.declared.orders.OrderLine.{OrderLine}
use Rattle.shop_files.specs.declared.orders.OrdersFault.{OrdersFault}
use Rattle.shop_files.specs.declared.orders.OrdersFault.TheVariants.{At, NoMemory}

-- a record: its fields
abbrev pub Fields : Type 0
Fields = List (List ℕ)

-- the first records of a text
abbrev pub FirstRecords : List ℕ → List Fields → Type 0
FirstRecords text rows = (s : State) × (rest : List ℕ) × Reached default_config st.StartRecord (strip_bom text) rows s rest

-- all records of a text
abbrev pub AllRecords : List ℕ → List Fields → Type 0
AllRecords text rows = AreRecords default_config st.StartRecord (strip_bom text) rows

-- one to ten digits that stand for a number of 32 bits
abbrev pub IsShortNumber : List ℕ → ℕ → Type 0
IsShortNumber field n = (1 ≤ length field) × (length field ≤ 10) × AllDigits 10 field × (n ≡ digits_value 10 field) × (n < 2 ^ 32)

abbrev pub turn_word : Bool → List ℕ
turn_word true = codes "yes"
turn_word false = codes "no"

-- the field at a place of a record says what the line has there
abbrev pub FieldSays : OrderLine → ℕ → List ℕ → Type 0
FieldSays line zero field = IsShortNumber field line.line
FieldSays line (suc zero) field = code_of field ≡ Some line.material
FieldSays line (suc (suc zero)) field = IsLengthText field line.w
FieldSays line (suc (suc (suc zero))) field = IsLengthText field line.h
FieldSays line (suc (suc (suc (suc zero)))) field = field ≡ turn_word line.turn
FieldSays line (suc (suc (suc (suc (suc zero))))) field = IsShortNumber field line.count
FieldSays line (suc (suc (suc (suc (suc (suc zero)))))) field = IsShortNumber field line.worth
FieldSays line (suc (suc (suc (suc (suc (suc (suc i))))))) field = ⊥

-- the fields from a place on say the line
abbrev pub SaysFrom : OrderLine → ℕ → Fields → Type 0
SaysFrom line i [] = i ≡ 7
SaysFrom line i (field ∷ more) = FieldSays line i field × SaysFrom line (suc i) more

-- a record is an order line
abbrev pub IsLineRecord : Fields → OrderLine → Type 0
IsLineRecord fields line = SaysFrom line 0 fields

-- records are order lines, one each
abbrev pub AreLineRecords : List Fields → List OrderLine → Type 0
AreLineRecords [] [] = Unit {0}
AreLineRecords [] (line ∷ lines) = ⊥
AreLineRecords (fields ∷ rows) [] = ⊥
AreLineRecords (fields ∷ rows) (line ∷ lines) = IsLineRecord fields line × AreLineRecords rows lines

abbrev pub header : Fields
header = codes "line" ∷ codes "material" ∷ codes "length" ∷ codes "width" ∷ codes "turn" ∷ codes "count" ∷ codes "worth" ∷ []

-- the text spells the order lines
pub record IsOrders (text : List ℕ) (lines : List OrderLine) : Type 0 where
  pub short : length text ≤ MAX_TEXT_LEN
  pub rows : List Fields
  pub records : AllRecords text (header ∷ rows)
  pub few : length rows ≤ MAX_LINES
  pub are_lines : AreLineRecords rows lines

-- a field that no line has at that place, and one that some line has
abbrev pub IsBad : ℕ → List ℕ → Type 0
IsBad i field = (line : OrderLine) → FieldSays line i field → ⊥

abbrev pub IsGood : ℕ → List ℕ → Type 0
IsGood i field = (line : OrderLine) × FieldSays line i field

-- the first bad field of a record, or 7 where it has more or fewer than seven
abbrev pub IsBadLine : Fields → ℕ → Type 0
IsBadLine fields i =
    ((length fields ≢ 7) × (i ≡ 7))
    ⊎ ((length fields ≡ 7) × (i < 7) × IsBad i (get_or fields i []) × ((j : ℕ) → j < i → IsGood j (get_or fields j [])))

-- the first word of a record that isn't the header's
abbrev pub IsBadHeader : Fields → ℕ → Type 0
IsBadHeader fields i =
    ((length fields ≢ 7) × (i ≡ 7))
    ⊎ ((length fields ≡ 7) × (i < 7) × (get_or fields i [] ≢ get_or header i []) × ((j : ℕ) → j < i → get_or fields j [] ≡ get_or header j []))

-- the header's fault: a long text, one without a record, or its first record
abbrev pub IsHeaderFault : List ℕ → ℕ → Type 0
IsHeaderFault text i =
    ((MAX_TEXT_LEN < length text) × (i ≡ 7))
    ⊎ ((length text ≤ MAX_TEXT_LEN) × AllRecords text [] × (i ≡ 7))
    ⊎ ((length text ≤ MAX_TEXT_LEN) × ((fields : Fields) × FirstRecords text (fields ∷ []) × IsBadHeader fields i))

-- after n good records the next is bad, at field i
pub record IsLineFault (text : List ℕ) (n i : ℕ) : Type 0 where
  pub short : length text ≤ MAX_TEXT_LEN
  pub rows : List Fields
  pub lines : List OrderLine
  pub fields : Fields
  pub records : FirstRecords text (header ∷ rows ++ fields ∷ [])
  pub are_lines : AreLineRecords rows lines
  pub number : length rows ≡ n
  pub bad : ((n < MAX_LINES) × IsBadLine fields i) ⊎ ((n ≡ MAX_LINES) × (i ≡ 7))

-- the text's first fault, by record and field
abbrev pub IsOrdersFault : List ℕ → (row field : ℕ) → Type 0
IsOrdersFault text row field = ((row ≡ 0) × IsHeaderFault text field) ⊎ ((n : ℕ) × (row ≡ suc n) × IsLineFault text n field)

-- a reader has read these records of a text, and no others
abbrev pub HasRead : {R : Type 0} → (R → Option (List ℕ)) → Reader R → List ℕ → List Fields → Type 0
HasRead rem reader text rows =
    (reader_trim reader ≡ trim.None) × Ready reader × (reader_config reader ≡ default_config)
    × ((rest : List ℕ) × (source_of rem reader ≡ Some rest) × Reached default_config st.StartRecord (strip_bom text) rows (reader_state reader) rest)

-- a read found the next record, or none
abbrev pub HasNext : {R : Type 0} → (R → Option (List ℕ)) → Bool → List ℕ → List Fields → Fields → Reader R → Type 0
HasNext rem true text rows fields reader = HasRead rem reader text (rows ++ fields ∷ [])
HasNext rem false text rows fields reader = AllRecords text rows

-- the fault of a text, or that memory ran out
abbrev pub HasOrdersFault : List ℕ → OrdersFault → Type 0
HasOrdersFault text (At row field) = IsOrdersFault text row field
HasOrdersFault text NoMemory = Unit {0}
