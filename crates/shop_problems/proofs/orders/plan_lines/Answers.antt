use Rattle.std.proofs.Common.{◌≡◌, map, subst, sym}
use Rattle.std.specs.Prelude.{All}
use Rattle.cut_measure.specs.Measures.{Size}
use Rattle.shop_problems.proofs.FlatSizes.{flat_sizes}
use Rattle.shop_problems.proofs.orders.plan_lines.Goals as goal

pub text_from-requires-clause-flat : goal.text_from-requires-clause-flat
text_from-requires-clause-flat c = λ bar.
    let texts = map (λ text. text.now) c.args.asked.sizes.now in
    subst (All (λ (size : Size). size.h ≡ 1)) (sym c.deref.ensures.value)
    (flat_sizes c.in-Some.material.kind texts c.in-Ok.sizes.items c.in-Ok.ensures.ok bar)
