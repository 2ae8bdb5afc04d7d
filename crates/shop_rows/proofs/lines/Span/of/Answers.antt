use Rattle.std.proofs.Common.{List, get_or, take, subst}
use Rattle.std.specs.Prelude.{All, IsTrue}
use Rattle.std.proofs.lemmas.List.{take_all}
use Rattle.shop_records.specs.declared.records.Demand.{Demand}
use Rattle.shop_rows.specs.Lines.{is_within}
use Rattle.shop_rows.proofs.ByLine.{all_more}
use Rattle.shop_rows.proofs.lines.Span.of.Goals as goal

pub loop-row-preserved : goal.loop-row-preserved
loop-row-preserved c =
    let rows = c.args.rows.now in
    let i = c.loop-row.row-index in
    all_more (λ (row : Demand). IsTrue (is_within c.with-span.result row.number)) rows i c.row-item.result c.loop-row-test.true c.row-item.is
    (λ k d within. c.with-span.ensures.all (get_or (take i rows) k d).number (c.loop-row.invariant k d within)) c.with-span.ensures.own

pub returns : goal.returns
returns c =
    subst (λ (rows : List Demand). All (λ row. IsTrue (is_within c.loop-row.span row.number)) rows) (take_all c.loop-row.row-index c.args.rows.now c.loop-row-test.false) c.loop-row.invariant
