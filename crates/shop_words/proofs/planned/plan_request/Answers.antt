use Rattle.std.proofs.Common.{◌∙◌, sym}
use Rattle.std.proofs.lemmas.Result.{IfOk-weaker}
use Rattle.clap.specs.Words.{found_of, rows_of}
use Rattle.shop_words.proofs.Asked.{lines_asked, problem_asked}
use Rattle.shop_words.proofs.planned.plan_request.Goals as goal

pub returns-then-names_stock : goal.returns-then-names_stock
returns-then-names_stock c =
    let named = sym c.names_stock.ensures ∙ c.if-names_stock.true in
    IfOk-weaker c.lines_request.result _ _ (λ found. lines_asked (rows_of (found_of c.args.plan.now)) named found) c.lines_request.ensures

pub returns-else-names_stock : goal.returns-else-names_stock
returns-else-names_stock c =
    let named = sym c.names_stock.ensures ∙ c.if-names_stock.false in
    problem_asked (rows_of (found_of c.args.plan.now)) named c.problem_request.result c.problem_request.ensures
