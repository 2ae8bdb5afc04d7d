use Rattle.std.proofs.Common.{◌∙◌, codes, sym}
use Rattle.clap.specs.Words.{first_of, found_of, rows_of}
use Rattle.clap.proofs.WalkLemmas.{first_value-rows}
use Rattle.shop_words.proofs.Asked.{no_code, no_code_of, the_code}
use Rattle.shop_words.proofs.imports.import_as.Goals as goal

pub returns-in_err-get_str : goal.returns-in_err-get_str
returns-in_err-get_str c =
    let found = found_of c.args.orders.now in
    let none = sym (c.in_err-get_str.ensures ∙ first_value-rows found (codes "order")) in
    rw c.from_residual.ensures (λ reported asked. no_code (first_of (codes "order") (rows_of found)) none reported.order asked.0)

pub returns-in_err-order : goal.returns-in_err-order
returns-in_err-order c =
    let found = found_of c.args.orders.now in
    let text = c.in_ok-get_str.ensures ∙ first_value-rows found (codes "order") in
    rw c.from_residual-in_err-order.ensures (λ reported asked. no_code_of (first_of (codes "order") (rows_of found)) _ text c.in_err-order.ensures reported.order asked.0)

pub returns : goal.returns
returns c =
    let found = found_of c.args.orders.now in (
      the_code (first_of (codes "order") (rows_of found)) _ c.in_ok-order.order (c.in_ok-get_str.ensures ∙ first_value-rows found (codes "order")) c.in_ok-order.ensures,
      c.in_ok-terminal.ensures,
      c.in_ok-number.ensures,
    )
