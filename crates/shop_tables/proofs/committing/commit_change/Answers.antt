use Rattle.std.proofs.Common.{◌≡◌, ◌∙◌, sym, subst, ap, arith}
use Rattle.sqlite.specs.State.{State, HasCleanDisk, Survives}
use Rattle.sqlite.specs.Held.{state}
use Rattle.sqlite.specs.Effect.{Database}
use Rattle.shop_records.specs.Content.{Content, changed}
use Rattle.shop_records.specs.WellFormed.{Fits}
use Rattle.shop_statements.specs.Beside.{Spares}
use Rattle.shop_statements.specs.Layout.{our_trees}
use Rattle.shop_statements.specs.Shown.{Ran, Makes, Within}
use Rattle.shop_tables.specs.Changing.{with_change}
use Rattle.shop_tables.specs.Held.{books, HoldsContent, StandsFor, LeavesOnly, LeavesOthers}
use Rattle.shop_statements.proofs.Steps.{on_err}
use Rattle.shop_tables.proofs.Commits.{begun, undone, failed, committed, survived, stands_end, dropped_others, failed_others, committed_others}
use Rattle.shop_tables.proofs.committing.commit_change.Goals as goal
use Rattle.shop_tables.proofs.committing.commit_change.Goals.{After-commit}

pub returns-in_err-write_change-clause-err : goal.returns-in_err-write_change-clause-err
returns-in_err-write_change-clause-err g c m was =
    let ends : c.drop-tx.new.self.0 ≡ c.conn-1.given.0 = sym (c.conn-1.given.1 (sym (c.write_change.ensures.same_reference ∙ c.transaction-tx.ensures.same_reference))) in
    let done = state g.S.Store c.write_change.new.tx.conn.now in
    let last = state g.S.Store c.drop-tx.new.self.0 in
    let within = subst (λ h. Within (state g.S.Store h) done) c.transaction-tx.ensures.begun c.write_change.ensures.writes.within in
    let late : HasCleanDisk last → HasCleanDisk done = λ clean. let s = c.drop-tx.ensures.survives.clean in omega (arith, s, clean) in
    on_err _ (subst (λ h. HoldsContent (state g.S.Store h) m) ends (undone g.S.Store c.args.conn.now done last late m was within c.drop-tx.ensures.undone))

-- ---- once the commit has ended

module _ (g : _) (c : After-commit g) where
  abbrev done : State
  done = state g.S.Store c.write_change.new.tx.conn.now

  abbrev last : State
  last = state g.S.Store c.commit.new.self.0

  ran : Ran (begun g.S.Store c.args.conn.now) done
  ran = subst (λ h. Ran (state g.S.Store h) done) c.transaction-tx.ensures.begun c.in_ok-write_change.ensures.ran

  within : Within (begun g.S.Store c.args.conn.now) done
  within = subst (λ h. Within (state g.S.Store h) done) c.transaction-tx.ensures.begun c.write_change.ensures.writes.within

  made : (m : Content) (was : HoldsContent (state g.S.Store c.args.conn.now) m) → Fits m c.args.change.now
      → Makes (begun g.S.Store c.args.conn.now) done (books m was.totals was.uses) (with_change c.args.change.now (books m was.totals was.uses))
  made m was fits = subst (λ h. Makes (state g.S.Store h) done (books m was.totals was.uses) (with_change c.args.change.now (books m was.totals was.uses))) c.transaction-tx.ensures.begun (c.in_ok-write_change.ensures.writes.put (books m was.totals was.uses) (was.sums, was.trail, fits))

  spares : Spares our_trees (begun g.S.Store c.args.conn.now) done
  spares = subst (λ h. Spares our_trees (state g.S.Store h) done) c.transaction-tx.ensures.begun c.in_ok-write_change.ensures.writes.others

  late : HasCleanDisk last → HasCleanDisk done
  late clean = let s = c.commit.ensures.survives.clean in omega (arith, s, clean)

  -- what a crash may leave, where the commit ends
  crash : (m : Content) (was : HoldsContent (state g.S.Store c.args.conn.now) m) → Fits m c.args.change.now → (end : _) → c.commit.new.self.0 ≡ end
      → Survives (state g.S.Store c.args.conn.now) (state g.S.Store end) (λ db. StandsFor db (changed m c.args.change.now))
  crash m was fits end ends = subst (λ h. Survives (state g.S.Store c.args.conn.now) (state g.S.Store h) (λ db. StandsFor db (changed m c.args.change.now))) ends
      (survived g.S.Store c.args.conn.now done last late ran m c.args.change.now was fits (made m was fits) within c.commit.ensures.survives)

pub returns-in_err-commit-clause-err : goal.returns-in_err-commit-clause-err
returns-in_err-commit-clause-err g c m was =
    let a = (goal.at.returns-in_err-commit-clause-err g c).After-commit in
    let ends : c.commit.new.self.0 ≡ c.conn-2-1.given.0 = sym (c.conn-2-1.given.1 (sym (c.write_change.ensures.same_reference ∙ c.transaction-tx.ensures.same_reference))) in
    on_err _ (subst (λ h. HoldsContent (state g.S.Store h) m) ends
    (undone g.S.Store c.args.conn.now (done g a) (last g a) (late g a) m was (within g a) (failed g.S.Store c.args.conn.now (done g a) (last g a) (late g a) (ran g a) _ c.in_err-commit.ensures.err)))

pub returns-in_err-commit-clause-crash : goal.returns-in_err-commit-clause-crash
returns-in_err-commit-clause-crash g c m was fits =
    crash g (goal.at.returns-in_err-commit-clause-crash g c).After-commit m was fits c.conn-2-1.given.0
    (sym (c.conn-2-1.given.1 (sym (c.write_change.ensures.same_reference ∙ c.transaction-tx.ensures.same_reference))))

pub returns-clause-ok : goal.returns-clause-ok
returns-clause-ok g c m was fits =
    let a = (goal.at.returns-clause-ok g c).After-commit in
    let ends : c.commit.new.self.0 ≡ c.conn-2-1.given.0 = sym (c.conn-2-1.given.1 (sym (c.write_change.ensures.same_reference ∙ c.transaction-tx.ensures.same_reference))) in
    subst (λ h. HoldsContent (state g.S.Store h) (changed m c.args.change.now)) ends
    (committed g.S.Store c.args.conn.now (done g a) (last g a) (late g a) (ran g a) m c.args.change.now was fits (made g a m was fits) (λ clean. (c.in_ok-commit.ensures.ok clean).1))

pub returns-clause-crash : goal.returns-clause-crash
returns-clause-crash g c m was fits =
    crash g (goal.at.returns-clause-crash g c).After-commit m was fits c.conn-2-1.given.0
    (sym (c.conn-2-1.given.1 (sym (c.write_change.ensures.same_reference ∙ c.transaction-tx.ensures.same_reference))))

pub returns-clause-lasts : goal.returns-clause-lasts
returns-clause-lasts g c m was fits =
    let a = (goal.at.returns-clause-lasts g c).After-commit in
    let ends : c.commit.new.self.0 ≡ c.conn-2-1.given.0 = sym (c.conn-2-1.given.1 (sym (c.write_change.ensures.same_reference ∙ c.transaction-tx.ensures.same_reference))) in
    subst (λ h. LeavesOnly (state g.S.Store h) (changed m c.args.change.now)) ends
    (λ clean db left.
    let e = (c.in_ok-commit.ensures.ok clean).1 in
    let only : db ≡ (last g a).committed.trees = g.met.S.Store.settled (c.commit.new.self.0).store db e.is_open left in
    let now : db ≡ (done g a).now.trees = only ∙ ap (λ (d : Database). d.trees) e.committed_is in
    subst (λ t. StandsFor t (changed m c.args.change.now)) (sym now) (stands_end g.S.Store c.args.conn.now (done g a) (last g a) (late g a) (ran g a) m c.args.change.now was fits (made g a m was fits) (late g a clean)))

pub returns-in_err-write_change-clause-others : goal.returns-in_err-write_change-clause-others
returns-in_err-write_change-clause-others g c is =
    let ends : c.drop-tx.new.self.0 ≡ c.conn-1.given.0 = sym (c.conn-1.given.1 (sym (c.write_change.ensures.same_reference ∙ c.transaction-tx.ensures.same_reference))) in
    let old = c.args.conn.now in
    let done = state g.S.Store c.write_change.new.tx.conn.now in
    let last = state g.S.Store c.drop-tx.new.self.0 in
    let within = subst (λ h. Within (state g.S.Store h) done) c.transaction-tx.ensures.begun c.write_change.ensures.writes.within in
    let late : HasCleanDisk last → HasCleanDisk done = λ clean. let s = c.drop-tx.ensures.survives.clean in omega (arith, s, clean) in
    subst (λ h. LeavesOthers (state g.S.Store old) (state g.S.Store h)) ends
    (dropped_others g.S.Store old (λ db. g.met.S.Store.settled old.store db) done last late within c.drop-tx.ensures.undone c.drop-tx.ensures.survives)

pub returns-in_err-commit-clause-others : goal.returns-in_err-commit-clause-others
returns-in_err-commit-clause-others g c is =
    let a = (goal.at.returns-in_err-commit-clause-others g c).After-commit in
    let ends : c.commit.new.self.0 ≡ c.conn-2-1.given.0 = sym (c.conn-2-1.given.1 (sym (c.write_change.ensures.same_reference ∙ c.transaction-tx.ensures.same_reference))) in
    let old = c.args.conn.now in
    subst (λ h. LeavesOthers (state g.S.Store old) (state g.S.Store h)) ends
    (failed_others g.S.Store old (λ db. g.met.S.Store.settled old.store db) (done g a) (last g a) (late g a) (within g a) is (spares g a) c.commit.ensures.survives (failed g.S.Store old (done g a) (last g a) (late g a) (ran g a) _ c.in_err-commit.ensures.err))

pub returns-clause-others : goal.returns-clause-others
returns-clause-others g c is =
    let a = (goal.at.returns-clause-others g c).After-commit in
    let ends : c.commit.new.self.0 ≡ c.conn-2-1.given.0 = sym (c.conn-2-1.given.1 (sym (c.write_change.ensures.same_reference ∙ c.transaction-tx.ensures.same_reference))) in
    let old = c.args.conn.now in
    subst (λ h. LeavesOthers (state g.S.Store old) (state g.S.Store h)) ends
    (committed_others g.S.Store old (λ db. g.met.S.Store.settled old.store db) (done g a) (last g a) (late g a) (within g a) is (spares g a) c.commit.ensures.survives (λ clean. (c.in_ok-commit.ensures.ok clean).1))
