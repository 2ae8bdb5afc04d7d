use Rattle.std.proofs.Common.{inr, subst, sym}
use Rattle.std.proofs.lemmas.Result.{err_from_is_err_and}
use Rattle.shop_files.specs.declared.limits.TheConstants.{MAX_TEXT_LEN}
use Rattle.shop_commands.proofs.stored.shop_entries.Goals as goal

pub returns-clause-ok : goal.returns-clause-ok
returns-clause-ok g c =
    let held = g.R.Reads.holds c.args.rt.now c.args.path.now MAX_TEXT_LEN in
    ((_, subst held (sym c.deref.ensures.value) c.in_ok-bytes.ensures.ok, c.in_ok-entries.ensures.ok.0), c.in_ok-entries.ensures.ok.1)

pub returns-in_err-entries-clause-err : goal.returns-in_err-entries-clause-err
returns-in_err-entries-clause-err g c =
    let held = g.R.Reads.holds c.args.rt.now c.args.path.now MAX_TEXT_LEN in
    let exit = err_from_is_err_and c.from_residual-in_err-entries.result c.from_residual-in_err-entries.ensures.1 in
    rw (exit.1, exit.2) (inr (_, subst held (sym c.deref.ensures.value) c.in_ok-bytes.ensures.ok, c.in_err-entries.ensures.err.0, c.in_err-entries.ensures.err.1, c.in_err-entries.ensures.err.2))
