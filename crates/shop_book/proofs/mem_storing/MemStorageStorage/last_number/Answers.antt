use Rattle.std.proofs.Common.{◌≡◌, inl, inr, ap, subst, sym, ◌∙◌}
use Rattle.std.specs.Prelude.{IsSome, Option}
use Rattle.std.specs.FinMap.{find, get, get-from_sorted}
use Rattle.shop_records.specs.Content.{message_id_cmp, kept_at}
use Rattle.shop_records.specs.declared.texts.MessageId.{MessageId}
use Rattle.shop_records.specs.declared.texts.Kept.{Kept}
use Rattle.shop_rows.proofs.Places.{tested}
use Rattle.shop_book.proofs.mem_storing.MemStorageStorage.last_number.Goals as goal

pub returns-clause-number : goal.returns-clause-number
returns-clause-number c clean m was =
    let entries = c.args.self.now.kept.entries in
    let same : (message_id : MessageId) → find message_id_cmp message_id entries ≡ kept_at m message_id = λ message_id. sym (get-from_sorted message_id_cmp entries message_id (tested _ c.args.self.now.kept_rise)) ∙ ap (λ kept. get kept message_id) was.kept in
    record {
      greatest = λ number there. c.last_kept.ensures.greatest number (subst (λ (found : Option Kept). IsSome found) (sym (same (record { terminal = c.args.terminal; number = number }))) there);
      kept = elim c.last_kept.ensures.kept [
        | inl none ↦ inl none
        | inr there ↦ inr (subst (λ (found : Option Kept). IsSome found) (same (record { terminal = c.args.terminal; number = c.last_kept.result })) there)
      ];
    }
