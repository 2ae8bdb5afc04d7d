-- The keys of what is open, in lists beside the rows: the standing parts by name, in a list for each material, the waiting
-- jobs and the open demands by number.
use Rattle.std.specs.Prelude.{◌≡◌, ◌≤◌, ◌-◌, ⊤, ℕ, List, [], ◌∷◌, All, Bool, false, cond, filter_map, IfSome, IsTrue, Option, Some, None, vec_len, vec_capacity}
use Rattle.std.proofs.Common.{ap}
use Rattle.std.specs.declared.cmp.Ordering.{Ordering}
use Rattle.std.specs.Ordering.{eq_by_cmp, nat_cmp, ordering_then}
use Rattle.std.specs.FinMap.{IsAntisymmetric}
use Rattle.std.proofs.lemmas.Map.Lookups.{exact_pairs}
use Rattle.cut_measure.specs.Codes.{code_cmp}
use Rattle.cut_measure.specs.Names.{Name, name_cmp}
use Rattle.shop_records.specs.declared.records.Part.{Part}
use Rattle.shop_records.specs.declared.records.Job.{Job}
use Rattle.shop_records.specs.declared.records.Demand.{Demand}
use Rattle.shop_records.specs.Columns.{is_waiting}
use Rattle.shop_records.specs.Content.{is_listed}
use Rattle.shop_rows.specs.Keys.{demand_key, part_key, codes_exact, names_exact}
use Rattle.shop_rows.specs.Rows.{has_row, rise, row_at}
use Rattle.shop_rows.specs.declared.names.OpenPart.{OpenPart}
use Rattle.shop_rows.specs.declared.names.NameList.{NameList}

-- a key of a list is its own row
abbrev pub own_key : {K : Type 0} → K → K
own_key key = key

-- by material, and then by name
abbrev pub open_cmp : OpenPart → OpenPart → Ordering
open_cmp a b = ordering_then (code_cmp a.material b.material) (name_cmp a.name b.name)

-- only equal keys tie
pub open_exact : IsAntisymmetric open_cmp
open_exact a b h =
    ap (λ (p : List ℕ × Name). record { material = p.0; name = p.1 })
    (exact_pairs code_cmp name_cmp codes_exact names_exact (a.material, a.name) (b.material, b.name) h)

-- whether a list has a key
abbrev pub has : {K : Type 0} → (K → K → Ordering) → K → List K → Bool
has cmp key keys = has_row own_key cmp key keys

-- whether a row was found that passes a test
abbrev pub is_found : {X : Type 0} → (X → Bool) → Option X → Bool
is_found test None = false
is_found test (Some row) = test row

-- what finds the rows by their keys, with this one under its own
abbrev pub finds_with : {X K : Type 0} → (K → K → Ordering) → K → X → (K → Option X) → K → Option X
finds_with cmp own row find key = cond (eq_by_cmp cmp key own) (Some row) (find key)

-- and with these put one after another
abbrev pub finds_with_all : {X K : Type 0} → (X → K) → (K → K → Ordering) → List X → (K → Option X) → K → Option X
finds_with_all key_of cmp [] find = find
finds_with_all key_of cmp (row ∷ rows) find = finds_with_all key_of cmp rows (finds_with cmp (key_of row) row find)

-- ---- names, in a list for each material

abbrev pub list_key : NameList → List ℕ
list_key list = list.material

abbrev pub listed_names : Option NameList → List Name
listed_names None = []
listed_names (Some list) = list.names.items

-- the names that are listed for a material
abbrev pub names_of : List ℕ → List NameList → List Name
names_of code lists = listed_names (row_at list_key code_cmp code lists)

-- the lists rise by their materials, and each by its names
pub record AreInOrder (lists : List NameList) : Type 0 where
  pub materials : IsTrue (rise list_key code_cmp lists)
  pub names : (code : List ℕ) → IsTrue (rise own_key name_cmp (names_of code lists))

-- whether a name is listed for a material
abbrev pub has_key : OpenPart → List NameList → Bool
has_key key lists = has name_cmp key.name (names_of key.material lists)

-- a key is listed, or is not, and all others are there as they were
abbrev pub SetsKey : OpenPart → Bool → List NameList → List NameList → Type 0
SetsKey key is_there old new = (other : OpenPart) → has_key other new ≡ cond (eq_by_cmp open_cmp other key) is_there (has_key other old)

-- The lists have the names of the parts that stand, of each material those of its own, and no other.
abbrev pub ListsParts : (Name → Option Part) → List NameList → Type 0
ListsParts find lists = (key : OpenPart) → has_key key lists ≡ is_found (is_listed key.material) (find key.name)

abbrev pub spare_in : Option NameList → ℕ
spare_in None = 0
spare_in (Some list) = vec_capacity list.names - vec_len list.names

-- how many names more the list of a material has room for
abbrev pub spare_of : List ℕ → List NameList → ℕ
spare_of code lists = spare_in (row_at list_key code_cmp code lists)

-- there is room for so many names of the material of each of these parts
abbrev pub HaveSpareNames : ℕ → List Part → List NameList → Type 0
HaveSpareNames count parts lists = All (λ part. count ≤ spare_of part.material lists) parts

-- ---- numbers

-- the list has the numbers of the rows that pass a test, and no other
abbrev pub ListsNumbers : {X : Type 0} → (X → Bool) → (ℕ → Option X) → List ℕ → Type 0
ListsNumbers test find keys = (number : ℕ) → has nat_cmp number keys ≡ is_found test (find number)

-- whether a job waits
abbrev pub waits : Job → Bool
waits job = is_waiting job.state

-- the key of a part
abbrev pub open_key : Part → OpenPart
open_key part = record { material = part.material; name = part.name }

-- the same but for the key of this part
abbrev pub ListsOthers : Part → (Name → Option Part) → List NameList → Type 0
ListsOthers part find lists =
    (key : OpenPart) → eq_by_cmp open_cmp key (open_key part) ≡ false → has_key key lists ≡ is_found (is_listed key.material) (find key.name)

-- ---- rows that are named

-- the parts of these names, where they are found
abbrev pub parts_named : List Name → List Part → List Part
parts_named names parts = filter_map (λ name. row_at part_key name_cmp name parts) names

-- the demands of these numbers, where they are found
abbrev pub demands_named : List ℕ → List Demand → List Demand
demands_named keys demands = filter_map (λ key. row_at demand_key nat_cmp key demands) keys

-- ---- parts that are put one after another

-- the lists have the names of the rows' standing parts
abbrev pub AreListed : List Part → List NameList → Type 0
AreListed parts lists = ListsParts (λ name. row_at part_key name_cmp name parts) lists

-- a part that it takes the place of is of the same material
abbrev pub KeepsMaterial : (Name → Option Part) → Part → Type 0
KeepsMaterial find part = IfSome (find part.name) (λ old. old.material ≡ part.material)

-- and so of each of these, put one after another
abbrev pub KeepMaterials : (Name → Option Part) → List Part → Type 0
KeepMaterials find [] = ⊤
KeepMaterials find (part ∷ parts) = KeepsMaterial find part × KeepMaterials (finds_with name_cmp part.name part find) parts
