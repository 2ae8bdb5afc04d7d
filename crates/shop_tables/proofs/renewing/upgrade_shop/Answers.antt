use Rattle.std.specs.Prelude.{not}
use Rattle.std.proofs.Common.{◌≡◌, ◌∙◌, true, refl, IsTrue, sym, subst, ap, arith}
use Rattle.sqlite.specs.State.{State, HasCleanDisk, IsRolledBack, Survives}
use Rattle.sqlite.specs.Held.{state}
use Rattle.sqlite.specs.Effect.{Database}
use Rattle.shop_tables.specs.Adopting.{HoldsMade, IsAsBefore, LeavesBooks, MakesTables, StandsMade}
use Rattle.shop_tables.specs.Renewing.{SeesEarlier}
use Rattle.shop_statements.specs.Shown.{Books, HasShopSchema, Holds, Ran, StandsIn, Within}
use Rattle.shop_tables.proofs.Commits.{begun, failed, stands_in}
use Rattle.shop_tables.proofs.LaidTables.{goes_back_as, made_committed, made_survives, tables_committed, tables_schema, tables_survive}
use Rattle.shop_statements.proofs.Steps.{on_err}
use Rattle.shop_tables.proofs.renewing.upgrade_shop.Goals as goal
use Rattle.shop_tables.proofs.renewing.upgrade_shop.Goals.{After-run, After-commit}

-- ---- once it has run, and is undone

module _ (g : _) (c : After-run g) where
  abbrev before : State
  before = state g.S.Store c.args.conn.now

  abbrev done : State
  done = state g.S.Store c.run.new.tx.conn.now

  within : Within (begun g.S.Store c.args.conn.now) done
  within = subst (λ h. Within (state g.S.Store h) done) c.transaction-tx.ensures.begun c.run.ensures.within

  settled : IsTrue before.is_open → before.now ≡ before.committed
  settled = c.is_autocommit-outside.ensures.settled (c.is_autocommit-outside.ensures.value ∙ ap not c.requires.outside)

  module _ {last end : _} (ends : last ≡ end) (late : HasCleanDisk (state g.S.Store last) → HasCleanDisk done) (back : HasCleanDisk (state g.S.Store last) → IsRolledBack done (state g.S.Store last)) where
    same : IsAsBefore before (state g.S.Store end)
    same = subst (λ h. IsAsBefore before (state g.S.Store h)) ends (goes_back_as g.S.Store c.args.conn.now done (state g.S.Store last) late settled within back)

    held : (b : Books) → g.U.Upgrade.holds before b → g.U.Upgrade.holds (state g.S.Store end) b
    held b was = g.met.U.Upgrade.stays c.args.conn.now end b (subst (λ h. HasCleanDisk (state g.S.Store h) → HasCleanDisk before) ends (λ clean. let s = within.survives.clean in let l = late clean in omega (arith, s, l))) same was

pub returns-in_err-run-clause-as_before : goal.returns-in_err-run-clause-as_before
returns-in_err-run-clause-as_before g c b was =
    let ends = sym (c.conn-1.given.1 (sym (c.run.ensures.same_reference ∙ c.transaction-tx.ensures.same_reference))) in
    on_err _ (held g ((goal.at.returns-in_err-run-clause-as_before g c).After-run) ends (λ clean. let s = c.drop-tx.ensures.survives.clean in omega (arith, s, clean)) c.drop-tx.ensures.undone b was)

pub returns-in_err-run-clause-undone : goal.returns-in_err-run-clause-undone
returns-in_err-run-clause-undone g c =
    let ends = sym (c.conn-1.given.1 (sym (c.run.ensures.same_reference ∙ c.transaction-tx.ensures.same_reference))) in
    on_err _ (same g ((goal.at.returns-in_err-run-clause-undone g c).After-run) ends (λ clean. let s = c.drop-tx.ensures.survives.clean in omega (arith, s, clean)) c.drop-tx.ensures.undone)

-- ---- once the commit has ended

module _ (g : _) (c : After-commit g) where
  abbrev old : State
  old = state g.S.Store c.args.conn.now

  abbrev ran_to : State
  ran_to = state g.S.Store c.run.new.tx.conn.now

  abbrev last : State
  last = state g.S.Store c.commit.new.self.0

  late : HasCleanDisk last → HasCleanDisk ran_to
  late clean = let s = c.commit.ensures.survives.clean in omega (arith, s, clean)

  keeps : Within (begun g.S.Store c.args.conn.now) ran_to
  keeps = subst (λ h. Within (state g.S.Store h) ran_to) c.transaction-tx.ensures.begun c.run.ensures.within

  ran : Ran (begun g.S.Store c.args.conn.now) ran_to
  ran = subst (λ h. Ran (state g.S.Store h) ran_to) c.transaction-tx.ensures.begun c.in_ok-run.ensures.ran

  was_open : HasCleanDisk ran_to → IsTrue old.is_open
  was_open clean = (ran.on clean refl).0

  makes : (b : Books) → g.U.Upgrade.holds old b → MakesTables (begun g.S.Store c.args.conn.now) ran_to b
  makes b was = subst (λ h. g.U.Upgrade.holds (state g.S.Store h) b → MakesTables (state g.S.Store h) ran_to b) c.transaction-tx.ensures.begun (c.in_ok-run.ensures.makes b)
      (g.met.U.Upgrade.stays c.args.conn.now (record c.args.conn.now { in_transaction = true }) b (λ clean. clean) (λ clean up. (refl, c.is_autocommit-outside.ensures.settled (c.is_autocommit-outside.ensures.value ∙ ap not c.requires.outside) up, up)) was)

  made : SeesEarlier old → HasCleanDisk ran_to → g.U.Upgrade.brings old.now ran_to.now
  made sees = subst (λ h. SeesEarlier (state g.S.Store h) → HasCleanDisk ran_to → g.U.Upgrade.brings (state g.S.Store h).now ran_to.now) c.transaction-tx.ensures.begun c.in_ok-run.ensures.beside (λ clean up. sees clean up)

  module _ {end : _} (ends : c.commit.new.self.0 ≡ end) where
    crash : (b : Books) → g.U.Upgrade.holds old b → Survives old (state g.S.Store end) (λ db. StandsIn db b)
    crash b was = subst (λ h. Survives old (state g.S.Store h) (λ db. StandsIn db b)) ends (tables_survive g.S.Store c.args.conn.now b ran_to last late (makes b was) keeps c.commit.ensures.survives)

    beside_crash : SeesEarlier old → Survives old (state g.S.Store end) (λ db. IsTrue old.is_open × StandsMade g.U.Upgrade.brings old.now db)
    beside_crash sees = subst (λ h. Survives old (state g.S.Store h) (λ db. IsTrue old.is_open × StandsMade g.U.Upgrade.brings old.now db)) ends
        (made_survives g.S.Store c.args.conn.now ran_to last late g.U.Upgrade.brings (made sees) was_open keeps c.commit.ensures.survives)

pub returns-in_err-commit-clause-as_before : goal.returns-in_err-commit-clause-as_before
returns-in_err-commit-clause-as_before g c b was =
    let ends = sym (c.conn-2-1.given.1 (sym (c.run.ensures.same_reference ∙ c.transaction-tx.ensures.same_reference))) in
    let at = goal.at.returns-in_err-commit-clause-as_before g c in
    let a = at.After-commit in
    let back = failed g.S.Store c.args.conn.now (ran_to g a) (last g a) (late g a) (ran g a) _ c.in_err-commit.ensures.err in
    on_err _ (held g at.After-run ends (late g a) back b was)

pub returns-in_err-commit-clause-undone : goal.returns-in_err-commit-clause-undone
returns-in_err-commit-clause-undone g c =
    let ends = sym (c.conn-2-1.given.1 (sym (c.run.ensures.same_reference ∙ c.transaction-tx.ensures.same_reference))) in
    let at = goal.at.returns-in_err-commit-clause-undone g c in
    let a = at.After-commit in
    let back = failed g.S.Store c.args.conn.now (ran_to g a) (last g a) (late g a) (ran g a) _ c.in_err-commit.ensures.err in
    on_err _ (same g at.After-run ends (late g a) back)

pub returns-in_err-commit-clause-crash : goal.returns-in_err-commit-clause-crash
returns-in_err-commit-clause-crash g c =
    let ends = sym (c.conn-2-1.given.1 (sym (c.run.ensures.same_reference ∙ c.transaction-tx.ensures.same_reference))) in
    crash g ((goal.at.returns-in_err-commit-clause-crash g c).After-commit) ends

pub returns-in_err-commit-clause-beside_crash : goal.returns-in_err-commit-clause-beside_crash
returns-in_err-commit-clause-beside_crash g c =
    let ends = sym (c.conn-2-1.given.1 (sym (c.run.ensures.same_reference ∙ c.transaction-tx.ensures.same_reference))) in
    beside_crash g ((goal.at.returns-in_err-commit-clause-beside_crash g c).After-commit) ends

pub returns-clause-crash : goal.returns-clause-crash
returns-clause-crash g c =
    let ends = sym (c.conn-2-1.given.1 (sym (c.run.ensures.same_reference ∙ c.transaction-tx.ensures.same_reference))) in
    crash g ((goal.at.returns-clause-crash g c).After-commit) ends

pub returns-clause-beside_crash : goal.returns-clause-beside_crash
returns-clause-beside_crash g c =
    let ends = sym (c.conn-2-1.given.1 (sym (c.run.ensures.same_reference ∙ c.transaction-tx.ensures.same_reference))) in
    beside_crash g ((goal.at.returns-clause-beside_crash g c).After-commit) ends

pub returns-clause-upgraded : goal.returns-clause-upgraded
returns-clause-upgraded g c b was =
    let ends = sym (c.conn-2-1.given.1 (sym (c.run.ensures.same_reference ∙ c.transaction-tx.ensures.same_reference))) in
    let a = (goal.at.returns-clause-upgraded g c).After-commit in
    subst (λ h. Holds (state g.S.Store h) b) ends (tables_committed g.S.Store c.args.conn.now b (ran_to g a) (last g a) (late g a) (makes g a b was) (λ clean. (c.in_ok-commit.ensures.ok clean).1))

pub returns-clause-schema : goal.returns-clause-schema
returns-clause-schema g c b was =
    let ends = sym (c.conn-2-1.given.1 (sym (c.run.ensures.same_reference ∙ c.transaction-tx.ensures.same_reference))) in
    let a = (goal.at.returns-clause-schema g c).After-commit in
    subst (λ h. HasShopSchema (state g.S.Store h)) ends (tables_schema g.S.Store c.args.conn.now b (ran_to g a) (last g a) (late g a) (makes g a b was) (λ clean. (c.in_ok-commit.ensures.ok clean).1))

pub returns-clause-after : goal.returns-clause-after
returns-clause-after g c b was =
    let ends = sym (c.conn-2-1.given.1 (sym (c.run.ensures.same_reference ∙ c.transaction-tx.ensures.same_reference))) in
    let a = (goal.at.returns-clause-after g c).After-commit in
    subst (λ h. LeavesBooks (state g.S.Store h) b) ends
    (λ clean db left.
    let e = (c.in_ok-commit.ensures.ok clean).1 in
    let now : db ≡ (ran_to g a).now.trees = g.met.S.Store.settled (c.commit.new.self.0).store db e.is_open left ∙ ap (λ (d : Database). d.trees) e.committed_is in
    subst (λ t. StandsIn t b) (sym now) (stands_in (ran_to g a) b ((makes g a b was).shows (late g a clean))))

pub returns-clause-beside : goal.returns-clause-beside
returns-clause-beside g c sees =
    let ends = sym (c.conn-2-1.given.1 (sym (c.run.ensures.same_reference ∙ c.transaction-tx.ensures.same_reference))) in
    let a = (goal.at.returns-clause-beside g c).After-commit in
    subst (λ h. HoldsMade g.U.Upgrade.brings (old g a) (state g.S.Store h)) ends
    (made_committed g.S.Store c.args.conn.now (ran_to g a) (last g a) (late g a) g.U.Upgrade.brings (made g a sees) (was_open g a) (g.met.S.Store.settled (c.commit.new.self.0).store) (λ clean. (c.in_ok-commit.ensures.ok clean).1))
