use Rattle.std.proofs.Common.{ap, ◌∙◌}
use Rattle.std.specs.Prelude.{Some}
use Rattle.shop_records.specs.Content.{message_id_cmp}
use Rattle.shop_book.proofs.Held.{lookup_is_find}
use Rattle.shop_book.proofs.keeping.find_kept.Goals as goal

pub returns-in-None : goal.returns-in-None
returns-in-None c = c.in-None.ensures.value ∙ lookup_is_find message_id_cmp c.args.message_id c.args.kept.now.entries

pub returns-in_ok-copy-in-Some : goal.returns-in_ok-copy-in-Some
returns-in_ok-copy-in-Some c = ap Some c.in_ok-copy-in-Some.ensures ∙ c.in-Some.ensures.value ∙ lookup_is_find message_id_cmp c.args.message_id c.args.kept.now.entries
