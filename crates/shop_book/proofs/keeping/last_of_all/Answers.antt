use Rattle.std.proofs.Common.{is_some, sym, ap, ◌∙◌, subst}
use Rattle.std.specs.Prelude.{IsSome}
use Rattle.std.specs.FinMap.{find}
use Rattle.shop_records.specs.Content.{message_id_cmp}
use Rattle.shop_records.specs.declared.texts.MessageId.{MessageId}
use Rattle.shop_book.proofs.Held.{lookup_is_find}
use Rattle.shop_book.proofs.keeping.last_of_all.Goals as goal

pub returns-in-Some-clause-kept : goal.returns-in-Some-clause-kept
returns-in-Some-clause-kept c =
    let entries = c.args.kept.now.entries in
    subst (λ (message_id : MessageId). IsSome (find message_id_cmp message_id entries)) (sym c.read_message_id.ensures.same)
    (ap is_some (sym (lookup_is_find message_id_cmp c.in-Some.message_id.now entries) ∙ c.in-Some.ensures.value))
