use Rattle.std.proofs.Common.{map, arith}
use Rattle.cut_wants.proofs.NumberRows.{same_length}
use Rattle.cut_classes.specs.Grids.{across_of, down_of}
use Rattle.cut_classes.proofs.FilledRows.{joined_next, offered_still, pair_below}
use Rattle.cut_classes.proofs.RaisedRows.{list_covers}
use Rattle.cut_classes.proofs.row.join_row.Goals as goal

pub join_place-requires-clause-inside : goal.join_place-requires-clause-inside
join_place-requires-clause-inside g c =
    (list_covers (down_of c.args.grid.now) c.args.lists.now c.loop-at.at c.index-lists-at.result c.deref.result.now c.requires.lists (omega (arith, c.requires.len)) c.index-lists-at.is c.deref.ensures.value).inside

pub join_place-requires-clause-fits : goal.join_place-requires-clause-fits
join_place-requires-clause-fits g c = λ p has.
    let f = g.T.Number.value in
    let cover =
    list_covers (down_of c.args.grid.now) c.args.lists.now c.loop-at.at c.index-lists-at.result c.deref.result.now c.requires.lists (omega (arith, c.requires.len)) c.index-lists-at.is c.deref.ensures.value in
    let inside = cover.inside p has in
    pair_below g.T.Number.limit c.args.wants.now c.args.kerf (down_of c.args.grid.now) (across_of c.args.grid.now) (map f c.loop-at.row) c.args.class c.loop-at.at p.first p.second c.requires.fits
    c.loop-at.invariant.below c.requires.class (omega (arith, c.requires.pieces.len, same_length f c.args.row.now)) inside.0 inside.1 (cover.parts p has)

pub loop-at-preserved : goal.loop-at-preserved
loop-at-preserved g c =
    let f = g.T.Number.value in
    let cover =
    list_covers (down_of c.args.grid.now) c.args.lists.now c.loop-at.at c.index-lists-at.result c.deref.result.now c.requires.lists (omega (arith, c.requires.len)) c.index-lists-at.is c.deref.ensures.value in
    joined_next c.args.wants.now c.args.kerf (down_of c.args.grid.now) (across_of c.args.grid.now) (map f c.args.row.now) (map f c.loop-at.row) (map f c.join_place.new.row) c.args.class c.loop-at.at
    c.deref.result.now c.requires.usable.down c.requires.class (omega (arith, c.requires.pieces.len, same_length f c.args.row.now)) cover c.join_place.ensures.raised c.join_place.ensures.others
    c.join_place.ensures.most c.join_place.ensures.least c.loop-at.invariant

pub returns-clause-kept : goal.returns-clause-kept
returns-clause-kept g c = c.loop-at.invariant.kept

pub returns-clause-pieces : goal.returns-clause-pieces
returns-clause-pieces g c =
    let f = g.T.Number.value in
    record {
      len = omega (arith, c.requires.pieces.len, same_length f c.args.row.now, same_length f c.loop-at.row);
      offered = λ x turned has.
          offered_still (down_of c.args.grid.now) (across_of c.args.grid.now) c.args.kerf x turned (map f c.args.row.now) (map f c.loop-at.row) c.args.class c.loop-at.invariant.kept (c.requires.pieces.offered x turned has);
      below = c.loop-at.invariant.below;
    }

pub returns-clause-parts : goal.returns-clause-parts
returns-clause-parts g c = λ i a b il al bl parts.
    c.loop-at.invariant.over i a b (omega (arith, il, c.requires.pieces.len, same_length g.T.Number.value c.args.row.now)) al bl parts
