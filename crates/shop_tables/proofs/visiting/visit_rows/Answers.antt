use Rattle.std.proofs.Common.{◌≡◌, ◌∙◌, Some, None, Ok, false, inl, inr, refl, sym, subst, arith}
use Rattle.sqlite.specs.Given.{Advances, row_if}
use Rattle.sqlite.specs.Held.{state}
use Rattle.sqlite.specs.Values.{bound}
use Rattle.shop_tables.specs.Visiting.{IsBorrowed}
use Rattle.shop_tables.specs.declared.visiting.VisitEnd.TheVariants as borrowed
use Rattle.shop_statements.specs.Shown.{Leaves}
use Rattle.shop_tables.proofs.Going.{started, no_answer, leaves_stays, none_borrowed, broken_off, invalid_at, all_borrowed, stopped_at, went_to}
use Rattle.shop_statements.proofs.Kept.{fails_stays, query_survives}
use Rattle.shop_statements.proofs.Reading.{leaves_then}
use Rattle.shop_tables.proofs.visiting.visit_rows.Goals as goal

pub returns-in_err-rows-clause-borrowed : goal.returns-in_err-rows-clause-borrowed
returns-in_err-rows-clause-borrowed g c = none_borrowed g.S.Store g.V.PartVisitor.looks c.args.sql.now (bound c.args.params.now) c.args.conn.now c.args.visitor.now _ _ (no_answer _ c.from_residual.ensures.0)

pub returns-in_err-rows-clause-leaves : goal.returns-in_err-rows-clause-leaves
returns-in_err-rows-clause-leaves g c =
    let held = rw c.in_err-rows.was at c.query.follows.holds-at-none in
    leaves_stays (state g.S.Store c.args.conn.now) (state g.S.Store c.query.follows.lender-at-none)
    (query_survives c.args.sql.now (bound c.args.params.now) _ _ c.requires held.survives)
    (λ clean. fails_stays c.args.sql.now (bound c.args.params.now) _ _ _ (held.err clean))

pub rows-init : goal.rows-init
rows-init g c =
    let made = c.in_ok-rows.ensures in
    (refl, made.mode, started g.S.Store g.V.PartVisitor.looks c.args.sql.now (bound c.args.params.now) c.args.conn.now c.args.visitor.now c.in_ok-rows.rows.conn.now c.requires made.begun made.survives)

-- ---- the rows failed

pub returns-in_err-advance : goal.returns-in_err-advance
returns-in_err-advance g c =
    let ends : c.advance.new.self.conn.now ≡ c.conn-in_err-advance-1.given.0 = sym (c.conn-in_err-advance-1.given.1 (sym (c.advance.ensures.same_reference ∙ c.rows.invariant.0 ∙ c.in_ok-rows.ensures.same_reference)) ∙ c.drop-rows.ensures) in
    record {
      borrowed = subst (λ h. IsBorrowed g.S.Store c.args.sql.now (bound c.args.params.now) c.args.conn.now g.V.PartVisitor.looks h c.args.visitor.now c.from_residual-in_err-advance.result c.rows.visitor) ends (broken_off g.S.Store g.V.PartVisitor.looks c.args.sql.now (bound c.args.params.now) c.args.conn.now c.args.visitor.now c.rows.rows.conn.now c.advance.new.self.conn.now c.rows.visitor _ (no_answer _ c.from_residual-in_err-advance.ensures.0) c.rows.invariant.2 (λ clean. omega (arith, c.advance.ensures.survives.clean)));
      leaves = subst (λ h. Leaves (state g.S.Store c.args.conn.now) (state g.S.Store h)) ends (leaves_then _ _ _ c.rows.invariant.2.leaves (leaves_stays (state g.S.Store c.rows.rows.conn.now) (state g.S.Store c.advance.new.self.conn.now) c.advance.ensures.survives (λ clean. elim (c.in_err-advance.ensures.kept clean) [ inl fails ↦ inr fails.3 | inr same ↦ inl same ])));
      mode = λ outside. subst (λ h. h.in_transaction ≡ false) ends (c.advance.ensures.mode (c.rows.invariant.1 outside));
    }

-- ---- no row was left

pub returns-in_default : goal.returns-in_default
returns-in_default g c =
    let ends : c.advance.new.self.conn.now ≡ c.conn-in_default-1.given.0 = sym (c.conn-in_default-1.given.1 (sym (c.advance.ensures.same_reference ∙ c.rows.invariant.0 ∙ c.in_ok-rows.ensures.same_reference)) ∙ c.drop-rows-in_default.ensures) in
    record {
      borrowed = subst (λ h. IsBorrowed g.S.Store c.args.sql.now (bound c.args.params.now) c.args.conn.now g.V.PartVisitor.looks h c.args.visitor.now (Ok borrowed.All) c.rows.visitor) ends (let none : None ≡ row_if c.advance.new.self.has_row c.advance.new.self.conn.now = c.in_default.ensures in all_borrowed g.S.Store g.V.PartVisitor.looks c.args.sql.now (bound c.args.params.now) c.args.conn.now c.args.visitor.now c.rows.rows.conn.now c.advance.new.self.conn.now c.rows.visitor c.rows.invariant.2 (leaves_stays (state g.S.Store c.rows.rows.conn.now) (state g.S.Store c.advance.new.self.conn.now) c.advance.ensures.survives (λ clean. inl (c.in_ok-advance.ensures.same clean))) (λ clean. subst (λ o. Advances g.S.Store c.rows.rows.conn.now c.advance.new.self.conn.now o) (sym none) (c.in_ok-advance.ensures.ok clean)));
      leaves = subst (λ h. Leaves (state g.S.Store c.args.conn.now) (state g.S.Store h)) ends (leaves_then _ _ _ c.rows.invariant.2.leaves (leaves_stays (state g.S.Store c.rows.rows.conn.now) (state g.S.Store c.advance.new.self.conn.now) c.advance.ensures.survives (λ clean. inl (c.in_ok-advance.ensures.same clean))));
      mode = λ outside. subst (λ h. h.in_transaction ≡ false) ends (c.advance.ensures.mode (c.rows.invariant.1 outside));
    }

-- ---- a row was no part

pub returns-in_err-part : goal.returns-in_err-part
returns-in_err-part g c =
    let ends : c.advance.new.self.conn.now ≡ c.conn-in_err-part-1.given.0 = sym (c.conn-in_err-part-1.given.1 (sym (c.advance.ensures.same_reference ∙ c.rows.invariant.0 ∙ c.in_ok-rows.ensures.same_reference)) ∙ c.drop-rows-in_err-part.ensures) in
    record {
      borrowed = subst (λ h. IsBorrowed g.S.Store c.args.sql.now (bound c.args.params.now) c.args.conn.now g.V.PartVisitor.looks h c.args.visitor.now c.from_residual-in_err-part.result c.rows.visitor) ends (broken_off g.S.Store g.V.PartVisitor.looks c.args.sql.now (bound c.args.params.now) c.args.conn.now c.args.visitor.now c.rows.rows.conn.now c.advance.new.self.conn.now c.rows.visitor _ (no_answer _ c.from_residual-in_err-part.ensures.0) c.rows.invariant.2 (λ clean. omega (arith, c.advance.ensures.survives.clean)));
      leaves = subst (λ h. Leaves (state g.S.Store c.args.conn.now) (state g.S.Store h)) ends (leaves_then _ _ _ c.rows.invariant.2.leaves (leaves_stays (state g.S.Store c.rows.rows.conn.now) (state g.S.Store c.advance.new.self.conn.now) c.advance.ensures.survives (λ clean. inl (c.in_ok-advance.ensures.same clean))));
      mode = λ outside. subst (λ h. h.in_transaction ≡ false) ends (c.advance.ensures.mode (c.rows.invariant.1 outside));
    }

pub returns-in_default-2 : goal.returns-in_default-2
returns-in_default-2 g c =
    let ends : c.advance.new.self.conn.now ≡ c.conn-in_default-2-1.given.0 = sym (c.conn-in_default-2-1.given.1 (sym (c.advance.ensures.same_reference ∙ c.rows.invariant.0 ∙ c.in_ok-rows.ensures.same_reference)) ∙ c.drop-rows-in_default-2.ensures) in
    record {
      borrowed = subst (λ h. IsBorrowed g.S.Store c.args.sql.now (bound c.args.params.now) c.args.conn.now g.V.PartVisitor.looks h c.args.visitor.now (Ok borrowed.Invalid) c.rows.visitor) ends (let row : Some c.in-Some.row.now ≡ row_if c.advance.new.self.has_row c.advance.new.self.conn.now = c.in-Some.ensures in invalid_at g.S.Store g.V.PartVisitor.looks c.args.sql.now (bound c.args.params.now) c.args.conn.now c.args.visitor.now c.rows.rows.conn.now c.advance.new.self.conn.now c.rows.visitor c.in-Some.row.now c.rows.invariant.2 (leaves_stays (state g.S.Store c.rows.rows.conn.now) (state g.S.Store c.advance.new.self.conn.now) c.advance.ensures.survives (λ clean. inl (c.in_ok-advance.ensures.same clean))) (λ clean. subst (λ o. Advances g.S.Store c.rows.rows.conn.now c.advance.new.self.conn.now o) (sym row) (c.in_ok-advance.ensures.ok clean)) (rw c.in_default-2.is at c.in_ok-part.ensures.invalid));
      leaves = subst (λ h. Leaves (state g.S.Store c.args.conn.now) (state g.S.Store h)) ends (leaves_then _ _ _ c.rows.invariant.2.leaves (leaves_stays (state g.S.Store c.rows.rows.conn.now) (state g.S.Store c.advance.new.self.conn.now) c.advance.ensures.survives (λ clean. inl (c.in_ok-advance.ensures.same clean))));
      mode = λ outside. subst (λ h. h.in_transaction ≡ false) ends (c.advance.ensures.mode (c.rows.invariant.1 outside));
    }

-- ---- the visitor looked at a part

pub returns-then-not-part : goal.returns-then-not-part
returns-then-not-part g c =
    let ends : c.advance.new.self.conn.now ≡ c.conn-then-not-part-1.given.0 = sym (c.conn-then-not-part-1.given.1 (sym (c.advance.ensures.same_reference ∙ c.rows.invariant.0 ∙ c.in_ok-rows.ensures.same_reference)) ∙ c.drop-rows-then-not-part.ensures) in
    record {
      borrowed = subst (λ h. IsBorrowed g.S.Store c.args.sql.now (bound c.args.params.now) c.args.conn.now g.V.PartVisitor.looks h c.args.visitor.now (Ok borrowed.Stopped) c.part.new.self) ends (let row : Some c.in-Some.row.now ≡ row_if c.advance.new.self.has_row c.advance.new.self.conn.now = c.in-Some.ensures in stopped_at g.S.Store g.V.PartVisitor.looks c.args.sql.now (bound c.args.params.now) c.args.conn.now c.args.visitor.now c.rows.rows.conn.now c.advance.new.self.conn.now c.rows.visitor c.part.new.self c.in-Some.row.now c.in-Some-2.part c.rows.invariant.2 (leaves_stays (state g.S.Store c.rows.rows.conn.now) (state g.S.Store c.advance.new.self.conn.now) c.advance.ensures.survives (λ clean. inl (c.in_ok-advance.ensures.same clean))) (λ clean. subst (λ o. Advances g.S.Store c.rows.rows.conn.now c.advance.new.self.conn.now o) (sym row) (c.in_ok-advance.ensures.ok clean)) (rw c.in-Some-2.is at c.in_ok-part.ensures.read) (subst (λ b. g.V.PartVisitor.looks c.rows.visitor c.in-Some-2.part b c.part.new.self) c.if-not-part.true c.part.ensures));
      leaves = subst (λ h. Leaves (state g.S.Store c.args.conn.now) (state g.S.Store h)) ends (leaves_then _ _ _ c.rows.invariant.2.leaves (leaves_stays (state g.S.Store c.rows.rows.conn.now) (state g.S.Store c.advance.new.self.conn.now) c.advance.ensures.survives (λ clean. inl (c.in_ok-advance.ensures.same clean))));
      mode = λ outside. subst (λ h. h.in_transaction ≡ false) ends (c.advance.ensures.mode (c.rows.invariant.1 outside));
    }

pub rows-preserved : goal.rows-preserved
rows-preserved g c =
    let row : Some c.in-Some.row.now ≡ row_if c.advance.new.self.has_row c.advance.new.self.conn.now = c.in-Some.ensures in (
      c.advance.ensures.same_reference ∙ c.rows.invariant.0,
      λ outside. c.advance.ensures.mode (c.rows.invariant.1 outside),
      went_to g.S.Store g.V.PartVisitor.looks c.args.sql.now (bound c.args.params.now) c.args.conn.now c.args.visitor.now c.rows.rows.conn.now c.advance.new.self.conn.now c.rows.visitor c.part.new.self c.in-Some.row.now c.in-Some-2.part c.rows.invariant.2
          (leaves_stays _ _ c.advance.ensures.survives (λ clean. inl (c.in_ok-advance.ensures.same clean)))
          (λ clean. subst (λ o. Advances g.S.Store c.rows.rows.conn.now c.advance.new.self.conn.now o) (sym row) (c.in_ok-advance.ensures.ok clean))
          c.in_ok-advance.ensures.same
          (rw c.in-Some-2.is at c.in_ok-part.ensures.read)
          (subst (λ b. g.V.PartVisitor.looks c.rows.visitor c.in-Some-2.part b c.part.new.self) c.if-not-part.false c.part.ensures),
    )

-- ---- more rows than a table has

pub returns : goal.returns
returns g c =
    let ends : c.rows.rows.conn.now ≡ c.conn-2-1.given.0 = sym (c.conn-2-1.given.1 (sym (c.rows.invariant.0 ∙ c.in_ok-rows.ensures.same_reference)) ∙ c.drop-rows-2.ensures) in
    record {
      borrowed = subst (λ h. IsBorrowed g.S.Store c.args.sql.now (bound c.args.params.now) c.args.conn.now g.V.PartVisitor.looks h c.args.visitor.now _ c.rows.visitor) ends (broken_off g.S.Store g.V.PartVisitor.looks c.args.sql.now (bound c.args.params.now) c.args.conn.now c.args.visitor.now c.rows.rows.conn.now c.rows.rows.conn.now c.rows.visitor _ tt c.rows.invariant.2 (λ clean. clean));
      leaves = subst (λ h. Leaves (state g.S.Store c.args.conn.now) (state g.S.Store h)) ends (c.rows.invariant.2.leaves);
      mode = λ outside. subst (λ h. h.in_transaction ≡ false) ends (c.rows.invariant.1 outside);
    }
