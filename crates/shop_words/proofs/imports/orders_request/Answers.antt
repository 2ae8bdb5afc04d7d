use Rattle.std.proofs.Common.{◌∙◌, codes, sym}
use Rattle.clap.specs.Words.{found_of, rows_of}
use Rattle.clap.proofs.WalkLemmas.{first_value-rows}
use Rattle.shop_words.proofs.Asked.{no_orders_file, no_orders_message}
use Rattle.shop_words.proofs.imports.orders_request.Goals as goal

pub returns-in_err-file : goal.returns-in_err-file
returns-in_err-file c =
    let found = found_of c.args.orders.now in
    rw c.from_residual.ensures (no_orders_file (rows_of found) (sym (c.in_err-file.ensures ∙ first_value-rows found (codes "FILE"))))

pub returns-then-not-names_message : goal.returns-then-not-names_message
returns-then-not-names_message c = (
  sym (c.in_ok-file.ensures ∙ first_value-rows (found_of c.args.orders.now) (codes "FILE")),
  sym (c.get_str-shop.ensures ∙ first_value-rows (found_of c.args.orders.now) (codes "shop")),
  sym c.names_message.ensures ∙ c.if-not-names_message.true,
)

pub returns-in_err-reported : goal.returns-in_err-reported
returns-in_err-reported c =
    let found = found_of c.args.orders.now in
    rw c.from_residual-in_err-reported.ensures (no_orders_message (rows_of found) (sym c.names_message.ensures ∙ c.if-not-names_message.false) c.in_err-reported.ensures)

pub returns : goal.returns
returns c = (
  sym (c.in_ok-file.ensures ∙ first_value-rows (found_of c.args.orders.now) (codes "FILE")),
  sym (c.get_str-shop.ensures ∙ first_value-rows (found_of c.args.orders.now) (codes "shop")),
  c.in_ok-reported.ensures,
)
