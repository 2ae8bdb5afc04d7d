use Rattle.std.specs.Prelude.{option_map, string_bytes}
use Rattle.std.proofs.lemmas.Result.{err_from_is_err_and}
use Rattle.shop_commands.proofs.JudgedFiles.{bad_file, line_err}
use Rattle.shop_commands.proofs.orders.orders_line.Goals as goal

pub returns-clause-err : goal.returns-clause-err
returns-clause-err g c =
    line_err (g.R.Reads.holds c.args.rt.now) (option_map (λ p. p.now) c.args.shop) c.args.text.now _ c.as_slice-rows.result.now c.in_ok-lines.ensures.ok
    c.as_slice-rows.ensures string_bytes c.args.reported c.line_of.result c.in_ok-judge_by.ensures.ok c.line_of.ensures.err

pub returns-in_err-judge_by-clause-err : goal.returns-in_err-judge_by-clause-err
returns-in_err-judge_by-clause-err g c =
    let from = err_from_is_err_and c.from_residual-in_err-judge_by.result c.from_residual-in_err-judge_by.ensures.1 in
    rw (from.1, from.2) (bad_file (g.R.Reads.holds c.args.rt.now) (option_map (λ p. p.now) c.args.shop) c.args.text.now _ c.as_slice-rows.result.now
    c.in_ok-lines.ensures.ok c.as_slice-rows.ensures c.in_err-judge_by.field-0.0 c.in_err-judge_by.ensures.err)
