use Rattle.std.proofs.Common.{Some, ap, sym, ◌∙◌}
use Rattle.std.proofs.lemmas.Result.{IfOk-weaker}
use Rattle.cut_tree.specs.Spelling.{IsSpelling}
use Rattle.cut_tree.proofs.ReadBack.{spells_itself}
use Rattle.shop_tables.proofs.valid_rows.plan_of_text.Goals as goal

pub returns-in-Ok : goal.returns-in-Ok
returns-in-Ok c plan is written w h kerf =
    let spelled : IsSpelling c.args.text.now plan.tree c.args.size.w c.args.size.h c.args.kerf = rw (sym written, w, h, kerf) at (spells_itself plan is) in
    let tree = c.in-Ok.ensures.only plan.tree spelled is.few_cuts in
    let unit = c.in-Ok.ensures.unit in
    ap Some (λ i. record { tree = tree i; w = (unit.0 ∙ sym w) i; h = (unit.1 ∙ sym h) i; kerf = (unit.2 ∙ sym kerf) i })

pub returns-in-Err : goal.returns-in-Err
returns-in-Err c plan is written w h kerf =
    let spelled : IsSpelling c.args.text.now plan.tree c.args.size.w c.args.size.h c.args.kerf = rw (sym written, w, h, kerf) at (spells_itself plan is) in
    IfOk-weaker c.no_plan.result _ _ (λ read none. absurd none) (c.no_plan.ensures (c.in-Err.ensures.only plan.tree spelled is.few_cuts))
