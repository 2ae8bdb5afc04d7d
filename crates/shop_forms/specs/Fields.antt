-- The fields of a JSON object: what is read at a key, and what is printed there.
use Rattle.std.specs.Prelude.{ℕ, ◌^◌, ◌==◌, List, [], ◌∷◌, Bool, false, nat_lt, if◌then◌else◌, Option, Some, None, is_some, option_map, option_and_then, unwrap_or, codes, bytes_eq}
use Rattle.std.specs.List.{list_all, filter_map}
use Rattle.cut_measure.specs.declared.sizes.Kind.{Kind}
use Rattle.cut_measure.specs.declared.sizes.Kind.TheVariants.{Bar, Sheet}
use Rattle.cut_measure.specs.Codes.{code_of}
use Rattle.cut_measure.specs.Names.{Name, spelled_name, name_text}
use Rattle.shop_records.specs.declared.records.JobState.{JobState}
use Rattle.shop_records.specs.declared.records.JobState.TheVariants.{Waiting, Done, Broken, Released, Undone}
use Rattle.shop_records.specs.declared.records.StateWord.{StateWord}
use Rattle.shop_records.specs.declared.records.StateWord.TheVariants as state
use Rattle.serde_json.specs.Data.{Data, boolean, number, string, unsigned, Items, no_items, item, Members, member}
use Rattle.serde_json.specs.Find.{get, as_array, as_bool, as_number, as_u64, as_str, as_object}
use Rattle.serde_json.specs.Events.{members_len}

-- ---- what is read

abbrev pub small : ℕ → Option ℕ
small n = if nat_lt n (2 ^ 32) then Some n else None

-- a whole number of 64 bits
abbrev pub wide_at : List ℕ → Data → Option ℕ
wide_at key d = option_and_then as_u64 (option_and_then as_number (get key d))

-- a whole number of 32 bits
abbrev pub number_at : List ℕ → Data → Option ℕ
number_at key d = option_and_then small (option_and_then as_u64 (option_and_then as_number (get key d)))

-- the same of a value
abbrev pub number_of : Data → Option ℕ
number_of d = option_and_then small (option_and_then as_u64 (as_number d))

abbrev pub flag_at : List ℕ → Data → Option Bool
flag_at key d = option_and_then as_bool (get key d)

abbrev pub text_at : List ℕ → Data → Option (List ℕ)
text_at key d = option_and_then as_str (get key d)

abbrev pub code_at : List ℕ → Data → Option (List ℕ)
code_at key d = option_and_then code_of (text_at key d)

abbrev pub name_at : List ℕ → Data → Option Name
name_at key d = option_and_then spelled_name (text_at key d)

-- the name of a part that a text spells, and none in an empty text
abbrev pub after_of : List ℕ → Option (Option Name)
after_of text = if bytes_eq text (codes "") then Some None else option_map Some (spelled_name text)

abbrev pub after_at : List ℕ → Data → Option (Option Name)
after_at key d = option_and_then after_of (text_at key d)

-- the code that a text is, and none in an empty text
abbrev pub code_after_of : List ℕ → Option (Option (List ℕ))
code_after_of text = if bytes_eq text (codes "") then Some None else option_map Some (code_of text)

abbrev pub code_after_at : List ℕ → Data → Option (Option (List ℕ))
code_after_at key d = option_and_then code_after_of (text_at key d)

abbrev pub kind_of : List ℕ → Option Kind
kind_of text = if bytes_eq text (codes "bar") then Some Bar else (if bytes_eq text (codes "sheet") then Some Sheet else None)

abbrev pub kind_at : List ℕ → Data → Option Kind
kind_at key d = option_and_then kind_of (text_at key d)

-- the text at a key, where there is nothing at the other key
abbrev pub word_at : List ℕ → List ℕ → Data → Option (List ℕ)
word_at key other d = if is_some (get other d) then None else text_at key d

abbrev pub elements : Items → List Data
elements no_items = []
elements (item d ds) = d ∷ elements ds

-- the elements of the list at a key, in order
abbrev pub elements_at : List ℕ → Data → Option (List Data)
elements_at key d = option_map elements (option_and_then as_array (get key d))

-- what each value stands for, where each stands for something
unfoldable pub all_of : {T : Type 0} → (Data → Option T) → List Data → Option (List T)
all_of read ds = if list_all (λ d. is_some (read d)) ds then Some (filter_map read ds) else None

-- the numbers of the list at a key
abbrev pub numbers_at : List ℕ → Data → Option (List ℕ)
numbers_at key d = option_and_then (all_of number_of) (elements_at key d)

-- so many keys: an object has each key once, so where each key of a row is there, these are exactly the row's
abbrev pub has_keys : ℕ → Data → Bool
has_keys n d = unwrap_or (option_map (λ members. members_len members == n) (as_object d)) false

-- a row: its number of keys, and what its fields stand for
abbrev pub row : {T : Type 0} → ℕ → (Data → Option T) → Data → Option T
row n fields d = if has_keys n d then fields d else None

-- ---- what is printed

abbrev pub kind_text : Kind → List ℕ
kind_text Bar = codes "bar"
kind_text Sheet = codes "sheet"

abbrev pub state_text : StateWord → List ℕ
state_text state.Standing = codes "standing"
state_text state.Reserved = codes "reserved"
state_text state.Cut = codes "cut"
state_text state.Piece = codes "piece"
state_text state.Kerf = codes "kerf"
state_text state.Scrap = codes "scrap"
state_text state.Returned = codes "returned"
state_text state.Undone = codes "undone"

abbrev pub job_state_text : JobState → List ℕ
job_state_text Waiting = codes "waiting"
job_state_text Done = codes "done"
job_state_text Broken = codes "broken"
job_state_text Released = codes "released"
job_state_text Undone = codes "undone"

abbrev pub text_member : List ℕ → List ℕ → Members → Members
text_member key text more = member key (string text) more

abbrev pub number_member : List ℕ → ℕ → Members → Members
number_member key n more = member key (number (unsigned n)) more

abbrev pub name_member : List ℕ → Name → Members → Members
name_member key name more = member key (string (name_text name)) more

abbrev pub flag_member : List ℕ → Bool → Members → Members
flag_member key flag more = member key (boolean flag) more
