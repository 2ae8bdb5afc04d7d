use Rattle.std.proofs.Common.{List, ap, ◌∙◌}
use Rattle.std.specs.FinMap.{from_sorted}
use Rattle.std.specs.Ordering.{nat_cmp}
use Rattle.cut_measure.specs.Codes.{code_cmp}
use Rattle.shop_records.specs.Content.{message_id_cmp}
use Rattle.shop_records.specs.declared.texts.MessageId.{MessageId}
use Rattle.shop_records.specs.declared.texts.Kept.{Kept}
use Rattle.shop_rows.specs.Keys.{entry_key, halt_key, import_key}
use Rattle.shop_rows.specs.Rows.{map_of}
use Rattle.shop_book.proofs.Held.{no_rows}
use Rattle.shop_book.proofs.mem_storage.MemStorage.new.Goals as goal

pub returns : goal.returns
returns c = record {
  kept = ap (λ (es : List (MessageId × Kept)). from_sorted {R = message_id_cmp} es) c.new.ensures.empty ∙ no_rows message_id_cmp;
  imports = ap (map_of import_key code_cmp) c.new-2.ensures.items ∙ no_rows code_cmp;
  halts = ap (map_of halt_key nat_cmp) c.new-3.ensures.items ∙ no_rows nat_cmp;
  entries = ap (map_of entry_key nat_cmp) c.new-4.ensures.items ∙ no_rows nat_cmp;
}
