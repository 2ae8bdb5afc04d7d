use Rattle.std.proofs.Common.{◌∙◌, ◌-◌, ap, subst, sym}
use Rattle.std.specs.Prelude.{slice_get}
use Rattle.std.specs.List.Sorted.{IsPermutation}
use Rattle.std.proofs.lemmas.List.Sorted.{IsNonDecreasingBy-from_sort}
use Rattle.cut_bound.specs.declared.limits.TheConstants.{MAX_ORDER_WANTS}
use Rattle.shop_planning.specs.ByDay.{IsLast, ranks_in}
use Rattle.shop_planning.proofs.DayRanks.{got, last_is}
use Rattle.shop_planning.proofs.by_day.last_rank.Goals as goal

pub returns : goal.returns
returns c =
    subst (λ last. IsLast last (ranks_in c.args.ranks.now)) (sym (c.copied.ensures ∙ got c.deref.result.now (MAX_ORDER_WANTS - 1) c.get.result _ c.get.ensures.lookup.1 c.get.ensures.lookup.3 ∙ ap (λ l. slice_get l (MAX_ORDER_WANTS - 1)) c.deref.ensures.value))
    (last_is (ranks_in c.args.ranks.now) c.sort.new.self.items (subst (λ l. IsPermutation l c.sort.new.self.items) c.in_ok-numbers.ensures c.sort.ensures.permutation)
    (IsNonDecreasingBy-from_sort (λ n. n) c.sort.new.self.items c.in_ok-sort.ensures.sorted))
