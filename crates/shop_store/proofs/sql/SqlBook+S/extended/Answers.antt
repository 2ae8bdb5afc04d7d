use Rattle.std.proofs.Common.{Err, ap, sym, subst, ◌∙◌}
use Rattle.sqlite.specs.Held.{state}
use Rattle.sqlite.specs.State.{HasCleanDisk, Survives}
use Rattle.shop_book.specs.Ledgers.{content_in}
use Rattle.shop_tables.specs.Held.{HoldsContent, LeavesOnly, StandsFor}
use Rattle.shop_statements.specs.Shown.{HasShopSchema}
use Rattle.shop_tables.specs.Renewing.{HoldsExtended, StandsExtended}
use Rattle.shop_store.specs.Storing.{IsRemembered}
use Rattle.shop_store.proofs.sql.SqlBook+S.extended.Goals as goal

pub returns-in-Ok-clause-extended : goal.returns-in-Ok-clause-extended
returns-in-Ok-clause-extended g c m was = subst (λ h. HoldsContent (state g.S.Store h) m) (sym c.over.ensures.conn) (c.in-Ok.ensures.extended m was)

pub returns-in-Ok-clause-crash : goal.returns-in-Ok-clause-crash
returns-in-Ok-clause-crash g c m was = subst (λ h. Survives (state g.S.Store c.args.conn) (state g.S.Store h) (λ db. StandsFor db m)) (sym c.over.ensures.conn) (c.in-Ok.ensures.crash m was)

pub returns-in-Ok-clause-after : goal.returns-in-Ok-clause-after
returns-in-Ok-clause-after g c m was = subst (λ h. LeavesOnly (state g.S.Store h) m) (sym c.over.ensures.conn) (c.in-Ok.ensures.after m was)

pub returns-in-Ok-clause-loaded : goal.returns-in-Ok-clause-loaded
returns-in-Ok-clause-loaded g c m was clean =
    let before : HasCleanDisk (state g.S.Store c.extend.new.conn) = subst (λ h. HasCleanDisk (state g.S.Store h)) c.over.ensures.conn clean in
    ap content_in c.over.ensures.ledger ∙ c.in-Ok.ensures.loaded m was before

pub returns-in-Err-clause-neither : goal.returns-in-Err-clause-neither
returns-in-Err-clause-neither g c is clean m was = c.in-Err.ensures.neither (ap Err is) clean m was

pub returns-in-Ok-clause-schema : goal.returns-in-Ok-clause-schema
returns-in-Ok-clause-schema g c m was = subst (λ h. HasShopSchema (state g.S.Store h)) (sym c.over.ensures.conn) (c.in-Ok.ensures.schema m was)

pub returns-in-Ok-clause-beside : goal.returns-in-Ok-clause-beside
returns-in-Ok-clause-beside g c sees = subst (λ h. HoldsExtended (state g.S.Store c.args.conn) (state g.S.Store h)) (sym c.over.ensures.conn) (c.in-Ok.ensures.beside sees)

pub returns-in-Ok-clause-beside_crash : goal.returns-in-Ok-clause-beside_crash
returns-in-Ok-clause-beside_crash g c sees = subst (λ h. Survives (state g.S.Store c.args.conn) (state g.S.Store h) (StandsExtended (state g.S.Store c.args.conn))) (sym c.over.ensures.conn) (c.in-Ok.ensures.beside_crash sees)

pub returns-in-Ok-clause-last : goal.returns-in-Ok-clause-last
returns-in-Ok-clause-last g c m was = subst (IsRemembered m) (sym c.over.ensures.remembered) (c.no_entries.ensures m was.none)
