use Rattle.std.proofs.Common.{◌∙◌, codes, sym}
use Rattle.clap.specs.Words.{found_of, rows_of}
use Rattle.clap.proofs.WalkLemmas.{first_value-rows}
use Rattle.shop_words.proofs.Asked.{no_value}
use Rattle.shop_words.proofs.served.serving_of.Goals as goal

pub returns-in_err-store : goal.returns-in_err-store
returns-in_err-store c =
    let found = found_of c.args.serve.now in
    rw c.from_residual-in_err-store.ensures
    (λ serving asked. no_value (codes "store") (rows_of found) (sym (c.in_err-store.ensures ∙ first_value-rows found (codes "store"))) serving.store.now asked.1)

pub returns-in_err-shop : goal.returns-in_err-shop
returns-in_err-shop c =
    let found = found_of c.args.serve.now in
    rw c.from_residual-in_err-shop.ensures
    (λ serving asked. no_value (codes "shop") (rows_of found) (sym (c.in_err-shop.ensures ∙ first_value-rows found (codes "shop"))) serving.shop.now asked.2)

pub returns : goal.returns
returns c = (
  c.in_ok-port.ensures,
  sym (c.in_ok-store.ensures ∙ first_value-rows (found_of c.args.serve.now) (codes "store")),
  sym (c.in_ok-shop.ensures ∙ first_value-rows (found_of c.args.serve.now) (codes "shop")),
  c.in_ok-limit.ensures,
  sym (c.get_str-page.ensures ∙ first_value-rows (found_of c.args.serve.now) (codes "page")),
  sym (c.get_str-backup.ensures ∙ first_value-rows (found_of c.args.serve.now) (codes "backup")),
  c.has_flag-existing.ensures,
  c.in_ok-keep.ensures,
  c.has_good_names.ensures.0 c.if-not-has_good_names.false,
  c.requires.hosts,
  c.requires.origins,
)
