use Rattle.shop_serve.proofs.Oldest.{IsOldestSo}
use Rattle.shop_serve.proofs.clients.oldest.Given as goal

abbrev pub invariant-loop-key : goal.invariant-loop-key
invariant-loop-key g l =
    (goal.iterator-loop-key g).can_next l.key-iterator × (goal.iterator-loop-key g).is_finite l.key-iterator × IsOldestSo l.clients l.key-iterator l.found
