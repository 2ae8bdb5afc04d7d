use Rattle.std.proofs.Common.{refl, sym, subst, inl, inr}
use Rattle.std.proofs.lemmas.Result.{err_from_is_err_and}
use Rattle.shop_commands.specs.Stored.{IsShopRead, IsBookServed, IsBookUnserved}
use Rattle.shop_commands.specs.Sinks.{change_of}
use Rattle.shop_commands.proofs.Opened.{of_ok, of_err}
use Rattle.shop_commands.proofs.stored.serve.Goals as goal

pub returns-in-Ok-clause-ok : goal.returns-in-Ok-clause-ok
returns-in-Ok-clause-ok g c =
    let before = c.in_ok-book.book in
    let after = c.serve_book-served.new.book in
    let entries = c.as_slice.result.now in
    let site = c.in_ok-site.site in
    let out = change_of g.W.Sink c.args.sink.now c.serve_book-served.new.sink in
    let done = of_ok (IsBookServed g.B.Book site before after entries c.args.address.now.port c.args.limit out) c.serve_book-served.result c.in-Ok.is c.serve_book-served.ensures.ok in
    (entries, subst (IsShopRead (g.R.Reads.holds c.args.rt.now) c.args.shop.now) (sym c.as_slice.ensures) c.in_ok-entries.ensures.ok.0, site, c.in_ok-site.ensures.ok, before, after, c.in_ok-book.ensures.ok, done)

pub returns-clause-err : goal.returns-clause-err
returns-clause-err g c =
    let before = c.in_ok-book.book in
    let after = c.serve_book-served.new.book in
    let entries = c.as_slice.result.now in
    let site = c.in_ok-site.site in
    let out = change_of g.W.Sink c.args.sink.now c.serve_book-served.new.sink in
    let stopped = of_err (λ f. IsBookUnserved g.B.Book site before after entries c.args.address.now.port c.args.limit f out)
    c.serve_book-served.result c.in-Err.fault c.in-Err.is c.serve_book-served.ensures.err in
    inr (entries, subst (IsShopRead (g.R.Reads.holds c.args.rt.now) c.args.shop.now) (sym c.as_slice.ensures) c.in_ok-entries.ensures.ok.0, inr (site, c.in_ok-site.ensures.ok, inr (before, after, c.in_ok-book.ensures.ok, stopped)))

pub returns-in_err-book-clause-err : goal.returns-in_err-book-clause-err
returns-in_err-book-clause-err g c =
    let exit = err_from_is_err_and c.from_residual-in_err-book.result c.from_residual-in_err-book.ensures.1 in
    rw (exit.1, exit.2) (inr (c.in_ok-entries.entries, c.in_ok-entries.ensures.ok.0, inr (c.in_ok-site.site, c.in_ok-site.ensures.ok, inl (c.in_err-book.ensures.err, refl))))

pub returns-in_err-site-clause-err : goal.returns-in_err-site-clause-err
returns-in_err-site-clause-err g c =
    let exit = err_from_is_err_and c.from_residual-in_err-site.result c.from_residual-in_err-site.ensures.1 in
    rw (exit.1, exit.2) (inr (c.in_ok-entries.entries, c.in_ok-entries.ensures.ok.0, inl (c.in_err-site.ensures.err, refl)))
