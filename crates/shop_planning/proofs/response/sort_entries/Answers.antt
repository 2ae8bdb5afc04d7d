use Rattle.std.proofs.Common.{rules}
use Rattle.std.specs.Ordering.{is_lt}
use Rattle.std.proofs.lemmas.List.Sorted.{answers_always, ranks_by}
use Rattle.shop_planning.specs.declared.response.Entry.{Entry}
use Rattle.shop_planning.specs.Entries.{in_order}
use Rattle.shop_planning.proofs.Reported.{in_order_total}
use Rattle.shop_planning.proofs.response.sort_entries.Goals as goal

pub returns : goal.returns
returns c = (
  c.sort_by.ensures.permutation,
  c.in_ok-sort_by.ensures.sorted (λ a b. is_lt (in_order a b)) (ranks_by in_order_total (λ (e : Entry). e)) (answers_always _ _ _ (λ a r q k. search rules)),
)
