use Rattle.std.proofs.Common.{◌∙◌, codes, sym}
use Rattle.clap.specs.Words.{found_of, rows_of}
use Rattle.clap.proofs.WalkLemmas.{first_value-rows}
use Rattle.shop_words.proofs.Asked.{no_history_store, no_history_after}
use Rattle.shop_words.proofs.stored.history_request.Goals as goal

pub returns-in_err-store : goal.returns-in_err-store
returns-in_err-store c =
    let found = found_of c.args.history.now in
    rw c.from_residual.ensures (no_history_store (rows_of found) (sym (c.in_err-store.ensures ∙ first_value-rows found (codes "store"))))

pub returns-in_err-after : goal.returns-in_err-after
returns-in_err-after c =
    rw c.from_residual-in_err-after.ensures (no_history_after (rows_of (found_of c.args.history.now)) c.in_err-after.ensures)

pub returns : goal.returns
returns c = (sym (c.in_ok-store.ensures ∙ first_value-rows (found_of c.args.history.now) (codes "store")), c.in_ok-after.ensures, c.has_flag-read_only.ensures)
