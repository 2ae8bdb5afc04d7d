use Rattle.std.proofs.Common.{List, ℕ, ◌+◌, map, sym, subst, arith}
use Rattle.cut_classes.specs.Classes.{IsInClass}
use Rattle.cut_classes.specs.Grids.{AreUsable, across_of, classes, down_of}
use Rattle.cut_classes.proofs.FilledRows.{offered_at}
use Rattle.cut_classes.proofs.row.offer_upright.Goals as goal

pub returns-then-is_in_row : goal.returns-then-is_in_row
returns-then-is_in_row g c =
    let grid = c.args.grid.now in
    let f = g.T.Number.value in
    let x = c.args.want.now in
    let inside = c.is_in_row.ensures.0 c.if-is_in_row.true in
    let at = c.class_of.result in
    let found = c.class_of.ensures grid.most_down (subst (λ (ps : List ℕ). AreUsable (classes ps grid.most_down)) (sym c.deref.ensures.value) c.requires.usable.down) inside.2 in
    let is : IsInClass (down_of grid) (x.size.h + c.args.kerf) at =
    subst (λ n. IsInClass (down_of grid) (n + c.args.kerf) at) c.h.ensures.value
    (subst (λ (ps : List ℕ). IsInClass (classes ps grid.most_down) (c.h.result + c.args.kerf) at) c.deref.ensures.value found) in
    let o =
    offered_at (down_of grid) (across_of grid) c.args.kerf x c.args.class at (x.size.h + c.args.kerf) (x.size.w + c.args.kerf) (map f c.args.row.now) (map f c.offer.new.row) is
    (omega (arith, inside.1, c.w.ensures.value)) (c.offer.ensures.at (omega (arith, is.there, c.requires.len))) c.offer.ensures.others in
    record {
      kept = o.0;
      offered = λ in_down wide. o.1;
      found = λ p more. let n = o.2 p more in (n.0, (n.2, n.1), n.3);
    }
