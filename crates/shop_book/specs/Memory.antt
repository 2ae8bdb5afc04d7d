-- How orders and kept messages stand in memory.
use Rattle.std.specs.Prelude.{ℕ, List, Option, Some, None}
use Rattle.std.specs.Cmp.{IsTotalOrder, on_total, then_total, nat_cmp_total}
use Rattle.std.specs.FinMap as map
use Rattle.std.specs.FinSet as set
use Rattle.cut_measure.specs.Codes.{code_cmp}
use Rattle.shop_records.specs.declared.texts.MessageId.{MessageId}
use Rattle.shop_records.specs.declared.texts.Kept.{Kept}
use Rattle.shop_records.specs.declared.texts.KeptMessage.{KeptMessage}
use Rattle.shop_records.specs.Content.{message_id_cmp}

-- an order is kept as its code
abbrev pub order_key : List ℕ → List ℕ
order_key code = code

pub message_ids_total : IsTotalOrder message_id_cmp
message_ids_total = then_total (on_total (λ p. p.terminal) nat_cmp_total) (on_total (λ p. p.number) nat_cmp_total)

-- the set of orders' codes
abbrev pub orders_in : List (List ℕ) → set.FinSet code_cmp
orders_in codes = set.from_list codes

abbrev pub put_kept : Option KeptMessage → List (MessageId × Kept) → List (MessageId × Kept)
put_kept None entries = entries
put_kept (Some message) entries = map.put message_id_cmp message.message_id message.kept entries
