use Rattle.std.proofs.Common.{map, ap, ◌∙◌}
use Rattle.std.proofs.lemmas.List.{take_all}
use Rattle.shop_rows.proofs.NameLists.{names_shown, order_shown, shown}
use Rattle.shop_rows.proofs.names.copy_lists.Goals as goal

pub returns-clause-order : goal.returns-clause-order
returns-clause-order c =
    order_shown c.loop-list.copies.items c.args.lists.now (c.loop-list.invariant ∙ ap (map shown) (take_all c.loop-list.list-index c.args.lists.now c.loop-list-test.false)) c.requires

pub returns-clause-names : goal.returns-clause-names
returns-clause-names c =
    names_shown c.loop-list.copies.items c.args.lists.now (c.loop-list.invariant ∙ ap (map shown) (take_all c.loop-list.list-index c.args.lists.now c.loop-list-test.false))
