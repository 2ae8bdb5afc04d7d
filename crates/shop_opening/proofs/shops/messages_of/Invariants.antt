use Rattle.std.proofs.Common.{◌≡◌, ◌+◌, ◌++◌, drop}
use Rattle.shop_opening.specs.Shops.{messages_from, shop_messages}
use Rattle.shop_opening.proofs.shops.messages_of.Given as goal

abbrev pub invariant-loop-entry : goal.invariant-loop-entry
invariant-loop-entry l = (l.messages.items ++ messages_from l.number (drop l.entry-index l.entries) ≡ shop_messages l.entries) × (l.number ≡ l.entry-index + 1)
