use Rattle.std.proofs.Common.{List, ℕ, ◌*◌, subst, arith}
use Rattle.std.specs.Prelude.{◌^◌}
use Rattle.std.proofs.lemmas.Bool.{ltb-true}
use Rattle.cut_classes.specs.Grids.{across_of, classes, down_of}
use Rattle.cut_classes.specs.Rates.{IsSlack}
use Rattle.cut_classes.proofs.ScaledAreas.{rated_below, worths_small}
use Rattle.cut_classes.proofs.narrow.is_narrow.Goals as goal

pub returns-in-Some : goal.returns-in-Some
returns-in-Some c = λ e.
    let g = c.args.grid.now in
    rated_below (2 ^ 32) c.args.wants.now c.args.kerf (across_of g) (down_of g) c.in-Some.rate c.slack_of-slack_across.result c.slack_of-slack_down.result c.requires.usable.across c.requires.usable.down
    (subst (λ (ps : List ℕ). IsSlack c.slack_of-slack_across.result (classes ps g.most_across)) c.deref.ensures.value c.slack_of-slack_across.ensures)
    (subst (λ (ps : List ℕ). IsSlack c.slack_of-slack_down.result (classes ps g.most_down)) c.deref-2.ensures.value c.slack_of-slack_down.ensures)
    c.in-Some.ensures (λ x has. omega (arith, worths_small c.args.wants.now c.args.kerf (across_of g) (down_of g) c.requires.counted x has))
    (ltb-true (c.in-Some.rate * (g.most_across * g.most_down)) (2 ^ 32) e)
