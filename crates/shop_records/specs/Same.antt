-- Equality as a test.
use Rattle.std.specs.Prelude.{ℕ, ◌&&◌, ◌==◌, List, Bool, true, false}
use Rattle.std.specs.Ordering.{is_eq}
use Rattle.cut_measure.specs.declared.sizes.Kind.{Kind}
use Rattle.cut_measure.specs.declared.sizes.Kind.TheVariants.{Bar, Sheet}
use Rattle.cut_measure.specs.Codes.{code_cmp}
use Rattle.cut_measure.specs.Names.{Name}
use Rattle.shop_records.specs.declared.texts.MessageId.{MessageId}

abbrev pub same_code : List ℕ → List ℕ → Bool
same_code a b = is_eq (code_cmp a b)

abbrev pub same_kind : Kind → Kind → Bool
same_kind Bar Bar = true
same_kind Bar Sheet = false
same_kind Sheet Bar = false
same_kind Sheet Sheet = true

abbrev pub same_name : Name → Name → Bool
same_name a b = (a.act == b.act) && (a.node == b.node)

abbrev pub same_message_id : MessageId → MessageId → Bool
same_message_id a b = (a.terminal == b.terminal) && (a.number == b.number)
