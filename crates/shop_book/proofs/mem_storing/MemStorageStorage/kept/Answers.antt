use Rattle.std.proofs.Common.{ap, sym, ◌∙◌}
use Rattle.std.specs.FinMap.{get, get-from_sorted}
use Rattle.shop_records.specs.Content.{message_id_cmp}
use Rattle.shop_records.specs.declared.texts.MessageId.{MessageId}
use Rattle.shop_rows.proofs.Places.{tested}
use Rattle.shop_book.proofs.mem_storing.MemStorageStorage.kept.Goals as goal

pub returns-clause-row : goal.returns-clause-row
returns-clause-row c clean m was =
    let message_id : MessageId = record { terminal = c.args.terminal; number = c.args.number } in
    c.in_ok-row.ensures ∙ sym (get-from_sorted message_id_cmp c.args.self.now.kept.entries message_id (tested _ c.args.self.now.kept_rise)) ∙ ap (λ kept. get kept message_id) was.kept
