use Rattle.std.proofs.Common.{◌≡◌, ◌∙◌, false, refl, arith, sym, subst, ap}
use Rattle.sqlite.specs.Effect.{Database}
use Rattle.sqlite.specs.Held.{state}
use Rattle.sqlite.specs.Does.{lacks_sequence}
use Rattle.sqlite.specs.State.{State, HasCleanDisk}
use Rattle.shop_tables.specs.Adopting.{HoldsBeside, IsAsBefore, IsMadeBeside, LeavesBooks, MakesTables}
use Rattle.shop_statements.specs.Layout.{no_schema}
use Rattle.shop_statements.specs.Shown.{HasShopSchema, Holds, Ran, StandsIn, Within, fresh_books}
use Rattle.shop_tables.proofs.LaidTables.{goes_back_as, made_committed, tables_committed, tables_schema}
use Rattle.shop_statements.proofs.Steps.{on_err}
use Rattle.shop_tables.proofs.Commits.{begun, failed, stands_in}
use Rattle.shop_tables.proofs.adopting.adopt_new.Goals as goal
use Rattle.shop_tables.proofs.adopting.adopt_new.Goals.{After-commit}

module _ (g : _) (c : After-commit g) where
  abbrev done : State
  done = state g.S.Store c.lay_tables.new.tx.conn.now

  abbrev last : State
  last = state g.S.Store c.commit.new.self.0

  late : HasCleanDisk last → HasCleanDisk done
  late clean = let s = c.commit.ensures.survives.clean in omega (arith, s, clean)

  laid : c.args.conn.now.schema ≡ no_schema → MakesTables (begun g.S.Store c.args.conn.now) done fresh_books
  laid has = subst (λ h. h.schema ≡ no_schema → MakesTables (state g.S.Store h) done fresh_books) c.transaction-tx.ensures.begun c.in_ok-lay_tables.ensures.laid has

  made : lacks_sequence c.args.conn.now.schema ≡ false → HasCleanDisk done → IsMadeBeside (state g.S.Store c.args.conn.now).now done.now
  made = subst (λ h. lacks_sequence h.schema ≡ false → HasCleanDisk done → IsMadeBeside (state g.S.Store h).now done.now) c.transaction-tx.ensures.begun c.in_ok-lay_tables.ensures.beside

  within : Within (begun g.S.Store c.args.conn.now) done
  within = subst (λ h. Within (state g.S.Store h) done) c.transaction-tx.ensures.begun c.lay_tables.ensures.within

  ran : Ran (begun g.S.Store c.args.conn.now) done
  ran = subst (λ h. Ran (state g.S.Store h) done) c.transaction-tx.ensures.begun c.in_ok-lay_tables.ensures.ran

pub returns-clause-fresh : goal.returns-clause-fresh
returns-clause-fresh g c has =
    let a = (goal.at.returns-clause-fresh g c).After-commit in
    let ends : c.commit.new.self.0 ≡ c.conn-2-1.given.0 = sym (c.conn-2-1.given.1 (sym (c.lay_tables.ensures.same_reference ∙ c.transaction-tx.ensures.same_reference))) in
    subst (λ h. Holds (state g.S.Store h) fresh_books) ends (tables_committed g.S.Store c.args.conn.now fresh_books (done g a) (last g a) (late g a) (laid g a has) (λ clean. (c.in_ok-commit.ensures.ok clean).1))

pub returns-clause-schema : goal.returns-clause-schema
returns-clause-schema g c has =
    let a = (goal.at.returns-clause-schema g c).After-commit in
    let ends : c.commit.new.self.0 ≡ c.conn-2-1.given.0 = sym (c.conn-2-1.given.1 (sym (c.lay_tables.ensures.same_reference ∙ c.transaction-tx.ensures.same_reference))) in
    subst (λ h. HasShopSchema (state g.S.Store h)) ends (tables_schema g.S.Store c.args.conn.now fresh_books (done g a) (last g a) (late g a) (laid g a has) (λ clean. (c.in_ok-commit.ensures.ok clean).1))

pub returns-clause-after : goal.returns-clause-after
returns-clause-after g c has =
    let a = (goal.at.returns-clause-after g c).After-commit in
    let ends : c.commit.new.self.0 ≡ c.conn-2-1.given.0 = sym (c.conn-2-1.given.1 (sym (c.lay_tables.ensures.same_reference ∙ c.transaction-tx.ensures.same_reference))) in
    subst (λ h. LeavesBooks (state g.S.Store h) fresh_books) ends
    (λ clean db left.
    let e = (c.in_ok-commit.ensures.ok clean).1 in
    let only : db ≡ (last g a).committed.trees = g.met.S.Store.settled (c.commit.new.self.0).store db e.is_open left in
    let now : db ≡ (done g a).now.trees = only ∙ ap (λ (d : Database). d.trees) e.committed_is in
    subst (λ t. StandsIn t fresh_books) (sym now) (stands_in (done g a) fresh_books ((laid g a has).shows (late g a clean))))

pub returns-clause-beside : goal.returns-clause-beside
returns-clause-beside g c counts =
    let a = (goal.at.returns-clause-beside g c).After-commit in
    let ends : c.commit.new.self.0 ≡ c.conn-2-1.given.0 = sym (c.conn-2-1.given.1 (sym (c.lay_tables.ensures.same_reference ∙ c.transaction-tx.ensures.same_reference))) in
    subst (λ h. HoldsBeside (state g.S.Store c.args.conn.now) (state g.S.Store h)) ends
    (made_committed g.S.Store c.args.conn.now (done g a) (last g a) (late g a) IsMadeBeside (made g a counts) (λ clean. ((ran g a).on clean refl).0) (g.met.S.Store.settled (c.commit.new.self.0).store) (λ clean. (c.in_ok-commit.ensures.ok clean).1))

pub returns-in_err-commit-clause-undone : goal.returns-in_err-commit-clause-undone
returns-in_err-commit-clause-undone g c =
    let a = (goal.at.returns-in_err-commit-clause-undone g c).After-commit in
    let ends : c.commit.new.self.0 ≡ c.conn-2-1.given.0 = sym (c.conn-2-1.given.1 (sym (c.lay_tables.ensures.same_reference ∙ c.transaction-tx.ensures.same_reference))) in
    on_err _ (subst (λ h. IsAsBefore (state g.S.Store c.args.conn.now) (state g.S.Store h)) ends
    (goes_back_as g.S.Store c.args.conn.now (done g a) (last g a) (late g a) c.requires.settled (within g a) (failed g.S.Store c.args.conn.now (done g a) (last g a) (late g a) (ran g a) _ c.in_err-commit.ensures.err)))
