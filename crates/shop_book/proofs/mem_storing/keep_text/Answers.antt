use Rattle.std.proofs.Common.{ap, sym, ◌∙◌}
use Rattle.std.specs.FinMap as map
use Rattle.shop_records.specs.Content.{message_id_cmp}
use Rattle.shop_book.specs.Memory.{put_kept}
use Rattle.shop_book.proofs.Held.{insert_is_put}
use Rattle.shop_book.proofs.mem_storing.keep_text.Goals as goal

pub returns-in_ok-insert-clause-ok : goal.returns-in_ok-insert-clause-ok
returns-in_ok-insert-clause-ok c =
    let message_id = c.in-Some.message.message_id in
    let entries = c.args.kept.now.entries in
    c.in_ok-insert.ensures.entries ∙ insert_is_put message_id_cmp message_id c.in_ok-exact.exact entries ∙ ap (λ text. map.put message_id_cmp message_id text entries) c.in_ok-exact.ensures
    ∙ ap (λ message. put_kept message entries) (sym c.in-Some.is)
