-- Shop files: a TOML document with a list of materials.
use Rattle.std.specs.Prelude.{ℕ, suc, ◌≡◌, ◌≤◌, ◌+◌, ◌⊎◌, codes, List, [], ◌∷◌, ◌++◌, length, Some, IsUtf8}
use Rattle.toml.specs.Data.{Data, string, array, table, Items, no_items, item, Members, no_members, member, get_member}
use Rattle.toml.specs.Parse.{parse_document}
use Rattle.cut_measure.specs.Codes.{code_of}
use Rattle.cut_measure.specs.Lengths.{IsLengthText}
use Rattle.cut_measure.specs.declared.sizes.Kind.{Kind}
use Rattle.cut_measure.specs.declared.sizes.Kind.TheVariants.{Bar, Sheet}
use Rattle.shop_files.specs.declared.limits.TheConstants.{MAX_TEXT_LEN, MAX_ENTRIES}
use Rattle.shop_files.specs.declared.shops.MaterialEntry.{MaterialEntry}
use Rattle.shop_files.specs.declared.shops.ShopFault.{ShopFault}
use Rattle.shop_files.specs.declared.shops.ShopFault.TheVariants.{Text, Entry, NoMemory}

-- the members of a document's table
abbrev pub IsDocument : List ℕ → Members → Type 0
IsDocument text members = IsUtf8 text × (parse_document text ≡ Some members)

-- how many members a table has
abbrev pub count : Members → ℕ
count no_members = 0
count (member key value more) = suc (count more)

abbrev pub items_list : Items → List Data
items_list no_items = []
items_list (item value more) = value ∷ items_list more

-- A document's list: its one member, under the key `material`, or nothing where there is no member.
abbrev pub IsList : Members → List Data → Type 0
IsList members list =
    ((count members ≡ 0) × (list ≡ []))
    ⊎ ((count members ≡ 1) × ((items : Items) × (get_member (codes "material") members ≡ Some (array items)) × (list ≡ items_list items)))

-- the table has this text under the key
abbrev pub HasText : Members → List ℕ → List ℕ → Type 0
HasText members key text = get_member key members ≡ Some (string text)

-- the table has a text under the key that says this length
abbrev pub HasLength : Members → List ℕ → ℕ → Type 0
HasLength members key n = (text : List ℕ) × HasText members key text × IsLengthText text n

abbrev pub kind_word : Kind → List ℕ
kind_word Bar = codes "bar"
kind_word Sheet = codes "sheet"

-- a table of five members says the entry
pub record IsEntryTable (members : Members) (entry : MaterialEntry) : Type 0 where
  pub five : count members ≡ 5
  pub code : (text : List ℕ) × HasText members (codes "code") text × (code_of text ≡ Some entry.code)
  pub kind : HasText members (codes "kind") (kind_word entry.kind)
  pub kerf : HasLength members (codes "kerf") entry.kerf
  pub min_long : HasLength members (codes "min_long") entry.min_long
  pub min_short : HasLength members (codes "min_short") entry.min_short

-- the value is such a table
abbrev pub IsEntry : Data → MaterialEntry → Type 0
IsEntry value entry = (members : Members) × (value ≡ table members) × IsEntryTable members entry

-- values are entries, one each
abbrev pub AreEntries : List Data → List MaterialEntry → Type 0
AreEntries [] [] = Unit {0}
AreEntries [] (entry ∷ entries) = ⊥
AreEntries (value ∷ list) [] = ⊥
AreEntries (value ∷ list) (entry ∷ entries) = IsEntry value entry × AreEntries list entries

-- the text's document has this list, of not too many values
pub record HasList (text : List ℕ) (list : List Data) : Type 0 where
  pub short : length text ≤ MAX_TEXT_LEN
  pub members : Members
  pub document : IsDocument text members
  pub is_list : IsList members list
  pub few : length list ≤ MAX_ENTRIES

-- the text spells the entries
pub record IsShopFile (text : List ℕ) (entries : List MaterialEntry) : Type 0 where
  pub list : List Data
  pub has_list : HasList text list
  pub are_entries : AreEntries list entries

-- the value at place n is no entry, and those before it are
pub record IsBadEntry (text : List ℕ) (n : ℕ) : Type 0 where
  pub prefix : List Data
  pub entries : List MaterialEntry
  pub value : Data
  pub more : List Data
  pub has_list : HasList text (prefix ++ value ∷ more)
  pub are_entries : AreEntries prefix entries
  pub number : length prefix ≡ n
  pub bad : (entry : MaterialEntry) → IsEntry value entry → ⊥

-- the text's first fault, or that memory ran out
abbrev pub IsShopFault : List ℕ → ShopFault → Type 0
IsShopFault text Text = (list : List Data) → HasList text list → ⊥
IsShopFault text (Entry i) = (n : ℕ) × (i ≡ n + 1) × IsBadEntry text n
IsShopFault text NoMemory = Unit {0}
