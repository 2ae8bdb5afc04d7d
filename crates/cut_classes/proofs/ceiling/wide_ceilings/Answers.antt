use Rattle.std.proofs.Common.{◌+◌, ◌-◌, ◌*◌, ◌<◌, arith}
use Rattle.std.specs.Prelude.{◌^◌}
use Rattle.cut_measure.specs.declared.ranges.TheConstants.{MAX_HEIGHT, MAX_KERF, MAX_WIDTH, MAX_WORTH}
use Rattle.cut_classes.specs.Classes.{low_of}
use Rattle.cut_classes.specs.Grids.{across_of, down_of}
use Rattle.cut_classes.specs.Filling.{rows_of}
use Rattle.cut_classes.proofs.FilledTables.{filled_least}
use Rattle.cut_classes.proofs.RaisedRows.{count_rows}
use Rattle.cut_classes.proofs.ScaledAreas.{areas_small, scaled, scaled_ceiling, worths_small}
use Rattle.cut_classes.proofs.ceiling.wide_ceilings.Goals as goal

pub filled_rows-requires-clause-fits : goal.filled_rows-requires-clause-fits
filled_rows-requires-clause-fits c =
    let xs = across_of c.args.grid.now in
    let ys = down_of c.args.grid.now in
    let u = c.requires.usable in
    let all : MAX_WORTH * ((MAX_WIDTH + MAX_KERF) * (MAX_HEIGHT + MAX_KERF)) < 2 ^ 64 = omega arith in
    record {
      worths = λ x has. omega (arith, worths_small c.args.wants.now c.args.kerf xs ys c.requires.counted x has);
      worth = scaled MAX_WORTH xs ys;
      ceiling = scaled_ceiling c.args.wants.now c.args.kerf xs ys u.across u.down c.requires.counted MAX_WORTH (worths_small c.args.wants.now c.args.kerf xs ys c.requires.counted);
      below = λ i j il jl.
          let most = areas_small MAX_WORTH (low_of xs 1 - 1) (low_of ys 1 - 1) (MAX_WIDTH + MAX_KERF) (MAX_HEIGHT + MAX_KERF) xs ys u.across u.down u.wide u.high j i jl il in
          omega (arith, most, all);
    }

pub returns : goal.returns
returns c =
    let rows = c.in_ok-rows.rows.items in
    filled_least c.args.wants.now c.args.kerf (down_of c.args.grid.now) (across_of c.args.grid.now) (rows_of (λ v. v) rows) c.requires.usable.down c.requires.usable.across c.requires.counted
    (omega (arith, count_rows (λ v. v) rows, c.in_ok-rows.ensures.len)) c.in_ok-rows.ensures.rows
