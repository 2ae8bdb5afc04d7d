use Rattle.std.proofs.Common.{◌∙◌, sym}
use Rattle.clap.specs.Words.{found_of, rows_of}
use Rattle.shop_words.proofs.Asked.{no_limit}
use Rattle.shop_words.proofs.served.limit_of.Goals as goal

pub returns-in_err-limit : goal.returns-in_err-limit
returns-in_err-limit c =
    rw c.from_residual.ensures (no_limit (rows_of (found_of c.args.serve.now)) (sym c.has_option.ensures ∙ c.if-has_option.true) c.in_err-limit.ensures)
