use Rattle.std.proofs.Common.{List, ℕ, sym, subst}
use Rattle.cut_classes.specs.Grids.{AreUsable, across_of, classes, down_of}
use Rattle.cut_classes.specs.Rates.{IsSpanAt}
use Rattle.cut_classes.proofs.ScaledAreas.{rated_by}
use Rattle.cut_classes.proofs.narrow.rate_at.Goals as goal

pub returns : goal.returns
returns c =
    let g = c.args.grid.now in
    rated_by c.args.slack_across c.args.slack_down (across_of g) (down_of g) c.args.worth c.args.w c.args.h c.span_at-across.result c.span_at-down.result c.in_ok-rate.rate
    (λ wide. subst (λ (ps : List ℕ). IsSpanAt c.args.slack_across (classes ps g.most_across) c.args.w c.span_at-across.result) c.deref.ensures.value
    (c.span_at-across.ensures g.most_across (subst (λ (ps : List ℕ). AreUsable (classes ps g.most_across)) (sym c.deref.ensures.value) c.requires.usable.across) wide))
    (λ tall. subst (λ (ps : List ℕ). IsSpanAt c.args.slack_down (classes ps g.most_down) c.args.h c.span_at-down.result) c.deref-2.ensures.value
    (c.span_at-down.ensures g.most_down (subst (λ (ps : List ℕ). AreUsable (classes ps g.most_down)) (sym c.deref-2.ensures.value) c.requires.usable.down) tall))
    c.in_ok-rate.ensures
