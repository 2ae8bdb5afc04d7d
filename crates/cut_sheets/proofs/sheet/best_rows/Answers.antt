use Rattle.std.proofs.Common.{◌≡◌, ◌++◌, ◌∷◌, ◌+◌, ◌-◌, [], length, length-append, subst, sym, arith}
use Rattle.cut_wants.specs.Best.{IsBestOf}
use Rattle.cut_sheets.specs.Table.{AreUseful}
use Rattle.cut_sheets.proofs.SheetTables.{table_push, useful_push, fits_lower}
use Rattle.cut_sheets.proofs.sheet.best_rows.Goals as goal

pub best_row-requires-clause-fits : goal.best_row-requires-clause-fits
best_row-requires-clause-fits g c = fits_lower g.T.Number.limit c.args.wants.now (c.args.width + 1) c.args.height _ c.requires.fits (omega arith)

pub best_row-requires-clause-useful : goal.best_row-requires-clause-useful
best_row-requires-clause-useful g c = subst (λ xs. AreUseful c.args.wants.now (c.args.width + 1) xs) (sym c.deref-in-loop.ensures.value) c.loop.invariant.3

pub loop-preserved : goal.loop-preserved
loop-preserved g c =
    let rows : c.push-in-loop.new.self.items ≡ c.loop.rows.items ++ c.in_ok-row.row ∷ [] = c.in_ok-push-2.ensures.items in
    let useful : c.push.new.self.items ≡ c.loop.useful.items ++ c.is_useful.result ∷ [] = c.in_ok-push.ensures.items in
    let same : length c.deref-in-loop-2.result.now ≡ length c.loop.useful.items = omega arith in
    rw (rows, useful) (
      omega (arith, length-append c.loop.rows.items (c.in_ok-row.row ∷ [])),
      omega (arith, length-append c.loop.useful.items (c.is_useful.result ∷ [])),
      table_push g.T.Number.value c.args.wants.now (c.args.width + 1) c.loop.rows.items c.in_ok-row.row c.loop.invariant.2 (rw c.deref.ensures.value at c.in_ok-row.ensures),
      useful_push c.args.wants.now (c.args.width + 1) c.loop.useful.items c.is_useful.result c.loop.invariant.3
          (λ is w v wp b. subst (λ n. IsBestOf c.args.wants.now 0 w (n - 1) v) same (c.is_useful.ensures.no is w v wp (subst (λ n. IsBestOf c.args.wants.now 0 w n v) (sym same) b))),
    )
