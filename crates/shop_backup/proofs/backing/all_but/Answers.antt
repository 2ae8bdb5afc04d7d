use Rattle.std.proofs.Common.{subst, sym, arith}
use Rattle.std.proofs.lemmas.List.Sorted.{IsNonDecreasingBy-from_sort}
use Rattle.shop_backup.specs.Steps.{IsAllBut}
use Rattle.shop_backup.proofs.Steps.{all_but_newest}
use Rattle.shop_backup.proofs.backing.all_but.Goals as goal

pub returns : goal.returns
returns c =
    subst (IsAllBut c.args.newest c.args.numbers.items) (sym c.truncate.ensures.items)
    (all_but_newest c.args.newest c.saturating_sub-count.result c.args.numbers.items c.sort.new.self.items c.sort.ensures.permutation
    (IsNonDecreasingBy-from_sort (λ x. x) c.sort.new.self.items c.in_ok-sort.ensures.sorted) (omega arith))
