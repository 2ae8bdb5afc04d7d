use Rattle.std.proofs.Common.{◌≡◌, ◌-◌, ◌^◌, max, get_or, map, ◌∙◌, arith}
use Rattle.cut_wants.proofs.NumberRows.{same_length, value_at}
use Rattle.cut_bars.proofs.RaisedCells.{cell_low}
use Rattle.cut_bars.proofs.DividedSpans.{greater, greatest_more, tables_start, tables_more, tables_skip, tables_done}
use Rattle.cut_bars.proofs.divide.divide_tables.Goals.{then-cell-ne0, else-cell-ne0}
use Rattle.cut_bars.proofs.divide.divide_tables.Goals as goal

pub loop-span-init : goal.loop-span-init
loop-span-init g c =
    let f = g.T.Number.value in
    let prefix = value_at f c.args.prefix.now 0 c.index-prefix-0.result (omega (arith, c.requires.prefix)) c.index-prefix-0.is in
    let back = value_at f c.args.back.now 0 c.index-back-0.result (omega (arith, c.requires.back)) c.index-back-0.is in
    tables_start c.args.whole g.T.Number.limit (map f c.args.prefix.now) (map f c.args.back.now) (same_length f c.args.prefix.now ∙ c.requires.prefix) (same_length f c.args.back.now ∙ c.requires.back) c.requires.small_prefix
    c.requires.small_back c.worth-after.result _ (omega (arith, back, c.worth-after.ensures)) (omega (arith, prefix, c.worth.ensures))

pub overflow_add-both : goal.overflow_add-both
overflow_add-both g c =
    let f = g.T.Number.value in
    let at = c.args.whole - c.loop-span.span in
    let prefix = value_at f c.args.prefix.now at c.index-prefix-at.result (omega (arith, c.requires.prefix)) c.index-prefix-at.is in
    let back = value_at f c.args.back.now c.loop-span.span c.index-back-span.result (omega arith) c.index-back-span.is in
    let n = greater c.args.whole g.T.Number.limit (map f c.args.prefix.now) (map f c.args.back.now) (same_length f c.args.prefix.now ∙ c.requires.prefix) (same_length f c.args.back.now ∙ c.requires.back) c.requires.small_prefix
    c.requires.small_back c.loop-span.span c.loop-span.after c.max-after.result c.loop-span.invariant.0 (omega (arith, back, c.worth-in-loop-span.ensures)) in
    omega (
      arith,
      prefix,
      c.worth-cell.ensures,
      cell_low (2 ^ 30) (map f c.args.prefix.now) c.args.whole at c.requires.small_prefix.low,
      cell_low (2 ^ 30) (map f c.args.back.now) c.args.whole n.0 c.requires.small_back.low,
      n.1,
      n.2,
      c.requires.back,
    )

pub loop-span-preserved : goal.loop-span-preserved
loop-span-preserved g c =
    let f = g.T.Number.value in
    let at = c.args.whole - c.loop-span.span in
    let xs = map f c.args.prefix.now in
    let ys = map f c.args.back.now in
    let front_len = same_length f c.args.prefix.now ∙ c.requires.prefix in
    let back_len = same_length f c.args.back.now ∙ c.requires.back in
    let prefix = value_at f c.args.prefix.now at c.index-prefix-at.result (omega (arith, c.requires.prefix)) c.index-prefix-at.is in
    let back = value_at f c.args.back.now c.loop-span.span c.index-back-span.result (omega arith) c.index-back-span.is in
    let most : c.max-after.result ≡ max (get_or (map f c.args.back.now) c.loop-span.span 0) c.loop-span.after = omega (arith, back, c.worth-in-loop-span.ensures) in (
      greatest_more c.args.whole g.T.Number.limit xs ys front_len back_len c.requires.small_prefix c.requires.small_back c.loop-span.span c.loop-span.after c.max-after.result c.loop-span.invariant.0 most,
      elim c.if-cell-ne0.branch [
        | then-cell-ne0 w ↦ rw w.found-is
            (tables_more c.args.whole g.T.Number.limit xs ys front_len back_len c.requires.small_prefix c.requires.small_back c.loop-span.span c.loop-span.after c.max-after.result c.loop-span.found _ w.worthier-found.result
            c.loop-span.invariant.0 most c.loop-span.invariant.1 (omega (arith, c.requires.back)) (omega (arith, prefix, c.worth-cell.ensures)) w.worthier-found.ensures (omega arith) (omega (arith, prefix, c.worth-cell.ensures)))
        | else-cell-ne0 w ↦ rw w.found-is
            (tables_skip c.args.whole g.T.Number.limit xs ys front_len back_len c.requires.small_prefix c.requires.small_back c.loop-span.span c.loop-span.found c.loop-span.invariant.1 (omega (arith, c.requires.back))
            (omega (arith, prefix, c.worth-cell.ensures)))
      ],
    )

pub returns : goal.returns
returns g c =
    let f = g.T.Number.value in
    tables_done c.args.whole g.T.Number.limit (map f c.args.prefix.now) (map f c.args.back.now) (same_length f c.args.prefix.now ∙ c.requires.prefix) (same_length f c.args.back.now ∙ c.requires.back) c.requires.small_prefix
    c.requires.small_back c.loop-span.span c.loop-span.found (omega (arith, c.requires.back)) c.loop-span.invariant.1
