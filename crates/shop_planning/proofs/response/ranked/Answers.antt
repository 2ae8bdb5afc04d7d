use Rattle.std.proofs.Common.{rules, subst}
use Rattle.std.specs.List.Sorted.{IsPermutation}
use Rattle.std.proofs.lemmas.List.Sorted.{answers_always}
use Rattle.shop_planning.specs.declared.instance.StockPart.{StockPart}
use Rattle.shop_planning.proofs.response.ranked.Goals as goal

pub returns : goal.returns
returns c =
    record {
      all = subst (λ l. IsPermutation l c.sort_by_key.new.self.items) c.in_ok-ranked.ensures.items c.sort_by_key.ensures.permutation;
      rising = c.in_ok-sort_by_key.ensures.sorted (λ (p : StockPart). (p.name.act, p.name.node)) (answers_always _ _ _ (λ a r q k. search rules));
    }
