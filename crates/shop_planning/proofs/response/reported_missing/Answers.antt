use Rattle.std.proofs.Common.{◌∙◌, rules}
use Rattle.std.proofs.lemmas.List.Sorted.{IsNonDecreasingBy-from_sort_by_key}
use Rattle.shop_plans.specs.declared.answers.MissingPieces.{MissingPieces}
use Rattle.shop_planning.proofs.Reported.{missing_reported}
use Rattle.shop_planning.proofs.response.reported_missing.Goals as goal

pub returns : goal.returns
returns c =
    missing_reported c.args.wants.now c.args.missing.now c.in_ok-rows.rows.items c.sort_by_key.new.self.items c.in_ok-reported.reported c.in_ok-rows.ensures c.sort_by_key.ensures.permutation
    (IsNonDecreasingBy-from_sort_by_key (λ (row : MissingPieces). row.demand) _ c.in_ok-sort_by_key.ensures.sorted (λ a r q k. search rules)) (c.in_ok-reported.ensures ∙ c.deref.ensures.value)
