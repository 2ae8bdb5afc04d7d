use Rattle.std.proofs.Common.{arith}
use Rattle.cut_classes.specs.Grids.{across_of, down_of}
use Rattle.cut_classes.proofs.ScaledAreas.{rated_more, rated_ways}
use Rattle.cut_classes.proofs.narrow.want_rate.Goals as goal

pub returns : goal.returns
returns c =
    let xs = across_of c.args.grid.now in
    let ys = down_of c.args.grid.now in
    let x = c.args.want.now in
    let more = rated_more c.args.slack_across c.args.slack_down xs ys x.worth in
    rated_ways c.args.slack_across c.args.slack_down xs ys c.args.kerf x c.w.result c.h.result c.max.result c.w.ensures.value c.h.ensures.value
    (more _ _ c.in_ok-upright.upright c.max.result (omega (arith, c.max.ensures)) c.in_ok-upright.ensures)
    (more _ _ c.in_ok-turned.turned c.max.result (omega (arith, c.max.ensures)) c.in_ok-turned.ensures)
