use Rattle.std.proofs.Common.{sym, ◌∙◌}
use Rattle.shop_records.specs.Content.{message_id_cmp}
use Rattle.shop_book.proofs.Held.{lookup_is_find}
use Rattle.shop_book.proofs.Lasts.{lower}
use Rattle.shop_book.proofs.keeping.last_below.Goals as goal

pub returns-in-None-clause-none : goal.returns-in-None-clause-none
returns-in-None-clause-none c = λ message_id lt.
    sym (lookup_is_find message_id_cmp message_id c.args.kept.now.entries)
    ∙ (c.range.ensures.in_range tt).5 c.in-None.ensures.steps.0 message_id (tt, lower message_id (record { terminal = c.args.terminal; number = 0 }) lt)
