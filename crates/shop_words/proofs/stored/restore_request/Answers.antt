use Rattle.std.proofs.Common.{◌∙◌, codes, sym}
use Rattle.clap.specs.Words.{found_of, rows_of}
use Rattle.clap.proofs.WalkLemmas.{first_value-rows}
use Rattle.shop_words.proofs.Asked.{no_restore_store, no_restore_from}
use Rattle.shop_words.proofs.stored.restore_request.Goals as goal

pub returns-in_err-store : goal.returns-in_err-store
returns-in_err-store c =
    let found = found_of c.args.restore.now in
    rw c.from_residual.ensures (no_restore_store (rows_of found) (sym (c.in_err-store.ensures ∙ first_value-rows found (codes "store"))))

pub returns-in_err-from : goal.returns-in_err-from
returns-in_err-from c =
    let found = found_of c.args.restore.now in
    rw c.from_residual-in_err-from.ensures (no_restore_from (rows_of found) (sym (c.in_err-from.ensures ∙ first_value-rows found (codes "from"))))

pub returns : goal.returns
returns c = (
  sym (c.in_ok-store.ensures ∙ first_value-rows (found_of c.args.restore.now) (codes "store")),
  sym (c.in_ok-from.ensures ∙ first_value-rows (found_of c.args.restore.now) (codes "from")),
)
