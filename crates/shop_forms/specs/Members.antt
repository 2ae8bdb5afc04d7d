-- The members of an object that the code lists.
use Rattle.std.specs.Prelude.{◌≡◌, ℕ, List, [], ◌∷◌}
use Rattle.cut_measure.specs.Names.{name_text}
use Rattle.json.specs.Token.{Token}
use Rattle.json.specs.Tree.{json_tokens}
use Rattle.serde_json.specs.Data.{Data, boolean, number, string, unsigned, Members, no_members, member}
use Rattle.serde_json.specs.Written.{outline}
use Rattle.shop_forms.specs.declared.writing.Member.{Member}
use Rattle.shop_forms.specs.declared.writing.Member.TheVariants.{Text, Number, Flag, Numbers, Name}
use Rattle.shop_forms.specs.Forms.{list_data}

abbrev pub member_key : Member → List ℕ
member_key (Text key text) = key.now
member_key (Number key n) = key.now
member_key (Flag key flag) = key.now
member_key (Numbers key numbers) = key.now
member_key (Name key part alloc) = key.now

abbrev pub member_data : Member → Data
member_data (Text key text) = string text.now
member_data (Number key n) = number (unsigned n)
member_data (Flag key flag) = boolean flag
member_data (Numbers key numbers) = list_data numbers.now
member_data (Name key part alloc) = string (name_text part.now)

-- a member has this key, and this value at it
abbrev pub IsAt : Member → List ℕ → Data → Type 0
IsAt m key d = (member_key m ≡ key) × (member_data m ≡ d)

abbrev pub member_tokens : Member → List Token
member_tokens m = Token.key (member_key m) ∷ json_tokens (outline (member_data m))

abbrev pub members_of : List Member → Members
members_of [] = no_members
members_of (m ∷ more) = member (member_key m) (member_data m) (members_of more)
