-- What is read of an object's fields.
use Rattle.std.proofs.Common.{◌≡◌, ℕ, ◌<◌, ◌^◌, List, length, Bool, false, Some, None, nat_eq, refl, sym, ap, ◌∙◌, lt-ltb}
use Rattle.std.specs.Prelude.{IsTrue, unwrap_or, option_map, option_and_then, if◌then◌else◌}
use Rattle.cut_measure.specs.declared.sizes.Kind.{Kind}
use Rattle.cut_measure.specs.declared.sizes.Kind.TheVariants.{Bar, Sheet}
use Rattle.cut_measure.specs.Codes.{is_code, code_of}
use Rattle.cut_measure.specs.Names.{Name, IsName, spelled_name, name_text}
use Rattle.cut_measure.proofs.NameTexts.{name_back}
use Rattle.serde_json.specs.Data.{Data, boolean, number, string, unsigned}
use Rattle.serde_json.specs.Find.{get, as_bool, as_number, as_u64, as_str, as_object}
use Rattle.serde_json.specs.Events.{members_len}
use Rattle.serde_json.specs.View.{members_view}
use Rattle.serde_json.proofs.Views.{Entry, members_len-members_view}
use Rattle.shop_forms.specs.Fields.{small, wide_at, number_at, flag_at, text_at, code_at, name_at, kind_at, kind_of, kind_text, has_keys}

pub keys_counted : (es : List Entry) (d : Data) (n len : ℕ) → Some (members_view es) ≡ as_object d → len ≡ length es → nat_eq len n ≡ has_keys n d
keys_counted es d n len is counted =
    ap (λ l. nat_eq l n) (counted ∙ sym (members_len-members_view es)) ∙ ap (λ o. unwrap_or (option_map (λ members. nat_eq (members_len members) n) o) false) is

pub small_is : (n : ℕ) → n < 2 ^ 32 → small n ≡ Some n
small_is n h = ap (λ (b : Bool). if b then Some n else None) (lt-ltb n (2 ^ 32) h)

pub code_is : (text : List ℕ) → IsTrue (is_code text) → code_of text ≡ Some text
code_is text h = ap (λ (b : Bool). if b then Some text else None) h

pub kind_is : (kind : Kind) → kind_of (kind_text kind) ≡ Some kind
kind_is Bar = refl
kind_is Sheet = refl

module _ (key : List ℕ) (d : Data) where
  pub number_there : (n : ℕ) → get key d ≡ Some (number (unsigned n)) → n < 2 ^ 32 → number_at key d ≡ Some n
  number_there n is h = ap (λ o. option_and_then small (option_and_then as_u64 (option_and_then as_number o))) is ∙ small_is n h

  pub text_there : (text : List ℕ) → get key d ≡ Some (string text) → text_at key d ≡ Some text
  text_there text is = ap (option_and_then as_str) is

  pub flag_there : (flag : Bool) → get key d ≡ Some (boolean flag) → flag_at key d ≡ Some flag
  flag_there flag is = ap (option_and_then as_bool) is

  pub wide_there : (n : ℕ) → get key d ≡ Some (number (unsigned n)) → wide_at key d ≡ Some n
  wide_there n is = ap (λ o. option_and_then as_u64 (option_and_then as_number o)) is

  pub name_there : (name : Name) → get key d ≡ Some (string (name_text name)) → IsName name → name_at key d ≡ Some name
  name_there name is h = ap (option_and_then spelled_name) (text_there (name_text name) is) ∙ name_back name h

  pub code_there : (text : List ℕ) → get key d ≡ Some (string text) → IsTrue (is_code text) → code_at key d ≡ Some text
  code_there text is h = ap (option_and_then code_of) (text_there text is) ∙ code_is text h

  pub kind_there : (kind : Kind) → get key d ≡ Some (string (kind_text kind)) → kind_at key d ≡ Some kind
  kind_there kind is = ap (option_and_then kind_of) (text_there (kind_text kind) is) ∙ kind_is kind
