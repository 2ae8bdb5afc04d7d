use Rattle.std.proofs.Common.{sym, ◌∙◌, subst, refl, arith}
use Rattle.cut_wants.specs.Best.{IsBestOf}
use Rattle.cut_wants.proofs.NumberRows.{value_at}
use Rattle.cut_sheets.proofs.SheetTables.{row_best, row_len}
use Rattle.cut_sheets.proofs.read.worth_in.Goals as goal

pub index-requires : goal.index-requires
index-requires g c = omega (arith, row_len g.T.Number.value c.args.wants.now c.args.places c.args.rows.now c.args.h c.index-rows-h.result c.requires.table c.index-rows-h.is c.requires.h)

pub returns : goal.returns
returns g c =
    let f = g.T.Number.value in
    let len = row_len f c.args.wants.now c.args.places c.args.rows.now c.args.h c.index-rows-h.result c.requires.table c.index-rows-h.is c.requires.h in
    let best = row_best f c.args.wants.now c.args.places c.args.rows.now c.args.h c.index-rows-h.result c.index-rows-h.result.items c.requires.table c.index-rows-h.is refl c.requires.h c.args.w c.requires.w in
    subst (λ v. IsBestOf c.args.wants.now 0 c.args.w c.args.h v) (sym (c.worth.ensures ∙ value_at f c.index-rows-h.result.items c.args.w c.index.result.now (omega (arith, len)) c.index.ensures)) best
