use Rattle.std.proofs.Common.{get_or, inl, inr, subst}
use Rattle.std.proofs.lemmas.List.{get_or_default}
use Rattle.std.specs.Prelude.{◌⊎◌, IsTrue}
use Rattle.shop_book.specs.Filing.{is_filed_for}
use Rattle.shop_book.proofs.Filed.{in_next}
use Rattle.shop_book.proofs.number_index.NumberIndex.jobs_for.Goals as goal

pub loop-demand-preserved : goal.loop-demand-preserved
loop-demand-preserved c = λ demand job there filed.
    let demands = c.args.demands.now in
    let i = c.loop-demand.demand-index in
    let own = get_or demands i 0 in
    elim (in_next demands i own demand c.loop-demand-test.true (get_or_default demands i 0 own c.loop-demand-test.true) there) [
      | inl j ↦ c.push_for.ensures.stay job (c.loop-demand.invariant demand job j filed)
      | inr j ↦ elim j [
        | inl e ↦ c.in_ok-push_for.ensures.all job (subst (λ n. IsTrue (is_filed_for c.args.self.now n job)) e filed)
        | inr k ↦ absurd k
      ]
    ]
