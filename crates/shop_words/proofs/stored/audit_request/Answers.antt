use Rattle.std.proofs.Common.{◌∙◌, codes, sym}
use Rattle.clap.specs.Words.{found_of, rows_of}
use Rattle.clap.proofs.WalkLemmas.{first_value-rows}
use Rattle.shop_words.proofs.Asked.{no_audit_store}
use Rattle.shop_words.proofs.stored.audit_request.Goals as goal

pub returns-in_err-store : goal.returns-in_err-store
returns-in_err-store c =
    let found = found_of c.args.audit.now in
    rw c.from_residual.ensures (no_audit_store (rows_of found) (sym (c.in_err-store.ensures ∙ first_value-rows found (codes "store"))))

pub returns : goal.returns
returns c = (sym (c.in_ok-store.ensures ∙ first_value-rows (found_of c.args.audit.now) (codes "store")), c.has_flag-read_only.ensures)
