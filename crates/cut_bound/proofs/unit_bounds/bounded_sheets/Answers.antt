use Rattle.std.proofs.Common.{◌+◌, ◌<◌, ◌≤◌, List, sym, subst, ◌∙◌, arith}
use Rattle.std.specs.Prelude.{All, IfOk}
use Rattle.std.proofs.lemmas.List.Elements.{All-weaker}
use Rattle.cut_wants.specs.declared.wants.Want.{Want}
use Rattle.cut_wants.specs.Best.{IsBestOf}
use Rattle.cut_sheets.specs.declared.sheet.TheConstants.{MAX_STEPS}
use Rattle.cut_sheets.specs.Rounded.{steps_down}
use Rattle.cut_sheets.specs.Table.{IsTable, heights}
use Rattle.cut_sheets.proofs.SheetSteps.{down_own, down_small}
use Rattle.cut_bound.specs.declared.stock.StockSize.{StockSize}
use Rattle.cut_bound.proofs.unit_bounds.bounded_sheets.Goals as goal

pub best_table-requires-clause-own : goal.best_table-requires-clause-own
best_table-requires-clause-own c = rw (c.deref.ensures.value, c.in_ok-rounded.ensures) (down_own _ _ _ c.requires.own)

pub best_table-requires-clause-small : goal.best_table-requires-clause-small
best_table-requires-clause-small c = rw (c.deref.ensures.value, c.in_ok-rounded.ensures) (down_small _ _ _ c.requires.step c.requires.worthy)

pub best_table-requires-clause-width : goal.best_table-requires-clause-width
best_table-requires-clause-width c = c.most_across-across.ensures.least MAX_STEPS c.requires.wide

pub best_table-requires-clause-height : goal.best_table-requires-clause-height
best_table-requires-clause-height c = c.most_down-down.ensures.least MAX_STEPS c.requires.tall

pub read_sheets-requires-clause-table : goal.read_sheets-requires-clause-table
read_sheets-requires-clause-table c =
    subst (λ (ws : List Want). IsTable ws (c.most_across-across.result + 1) c.in_ok-table.table) (c.deref.ensures.value ∙ sym c.deref-2.ensures.value) c.in_ok-table.ensures.table

pub read_sheets-requires-clause-wide : goal.read_sheets-requires-clause-wide
read_sheets-requires-clause-wide c =
    All-weaker (λ (z : StockSize). steps_down c.args.kerf c.args.step z.size.w ≤ c.most_across-across.result) (λ (z : StockSize). steps_down c.args.kerf c.args.step z.size.w < c.most_across-across.result + 1)
    (λ z le. omega arith) c.args.sizes.now c.most_across-across.ensures.most

pub read_sheets-requires-clause-tall : goal.read_sheets-requires-clause-tall
read_sheets-requires-clause-tall c =
    All-weaker (λ (z : StockSize). steps_down c.args.kerf c.args.step z.size.h ≤ c.most_down-down.result) (λ (z : StockSize). steps_down c.args.kerf c.args.step z.size.h < heights c.in_ok-table.table)
    (λ z le. omega (arith, c.in_ok-table.ensures.len)) c.args.sizes.now c.most_down-down.ensures.most

pub returns-clause-unit_bounds : goal.returns-clause-unit_bounds
returns-clause-unit_bounds c =
    subst (λ (ws : List Want). IfOk c.read_sheets.result (λ bounded. All (λ r. IsBestOf ws 0 (steps_down c.args.kerf c.args.step r.stock.size.w) (steps_down c.args.kerf c.args.step r.stock.size.h) r.best) bounded.items))
    (c.deref-2.ensures.value ∙ c.in_ok-rounded.ensures) c.read_sheets.ensures.unit_bounds
