use Rattle.std.proofs.Common.{◌≡◌, ◌≤◌, length, take}
use Rattle.std.specs.Prelude.{filter}
use Rattle.shop_records.specs.Lists.{is_asked_for}
use Rattle.shop_rows.specs.Open.{demands_named}
use Rattle.shop_book.proofs.memory_lists.first_asked.Given as goal

abbrev pub invariant-loop-key : goal.invariant-loop-key
invariant-loop-key l = (l.rows ≡ filter (λ demand. is_asked_for l.fn.asked demand.material) (demands_named (take l.key-index l.keys) l.demands)) × (length l.rows ≤ l.most)
