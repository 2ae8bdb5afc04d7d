use Rattle.std.proofs.Common.{◌∙◌, codes, sym}
use Rattle.clap.specs.Words.{found_of, rows_of}
use Rattle.clap.proofs.WalkLemmas.{first_value-rows}
use Rattle.shop_words.proofs.Asked.{no_plan_file, single_asked, whole_asked}
use Rattle.shop_words.proofs.planned.problem_request.Goals as goal

pub returns-in_err-file : goal.returns-in_err-file
returns-in_err-file c =
    let found = found_of c.args.plan.now in
    rw c.from_residual.ensures (no_plan_file (rows_of found) (sym (c.in_err-file.ensures ∙ first_value-rows found (codes "FILE"))))

pub returns-then-is_whole : goal.returns-then-is_whole
returns-then-is_whole c =
    let found = found_of c.args.plan.now in
    let file = sym (c.in_ok-file.ensures ∙ first_value-rows found (codes "FILE")) in
    whole_asked (rows_of found) _ _ file c.in_ok-kerf.ensures (c.is_whole.ensures.0 c.if-is_whole.true) c.whole_request.result c.whole_request.ensures

pub returns-else-is_whole : goal.returns-else-is_whole
returns-else-is_whole c =
    let found = found_of c.args.plan.now in
    let file = sym (c.in_ok-file.ensures ∙ first_value-rows found (codes "FILE")) in
    single_asked (rows_of found) _ _ file c.in_ok-kerf.ensures (λ whole. absurd (cc (sym (c.is_whole.ensures.1 whole) ∙ c.if-is_whole.false))) c.single_request.result c.single_request.ensures
