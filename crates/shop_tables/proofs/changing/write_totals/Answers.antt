use Rattle.sqlite.specs.Held.{state}
use Rattle.std.proofs.Common.{◌≡◌, true, false, not, Some, None, Option, is_some, refl, ap, ◌∙◌}
use Rattle.shop_tables.proofs.InTurn.{of_ours, ran_writes, writes_nothing}
use Rattle.shop_tables.proofs.changing.write_totals.Goals as goal

none_at : {X : Type 0} (found : Option X) → is_some found ≡ false → found ≡ None
none_at None h = refl
none_at (Some x) h = absurd (cc)

some_at : {X : Type 0} (found : Option X) → is_some found ≡ true → (x : X) × (found ≡ Some x)
some_at None h = absurd (cc)
some_at (Some x) h = (x, refl)

pub returns-then-is_new-clause-writes : goal.returns-then-is_new-clause-writes
returns-then-is_new-clause-writes g c = rw c.in-Some.is (ran_writes c.put_totals.ensures.ran (λ b new. c.put_totals.ensures.put b (none_at _ (new ∙ ap not c.if-is_new.true))) (of_ours (state g.S.Store c.args.tx.now.conn.now) (state g.S.Store c.put_totals.new.tx.conn.now) c.put_totals.result 17 (λ t far. far.1.1.1.1.1.1.1.1.1.0) c.put_totals.ensures.others) c.put_totals.ensures.within)

pub returns-else-is_new-clause-writes : goal.returns-else-is_new-clause-writes
returns-else-is_new-clause-writes g c =
    rw c.in-Some.is
    (ran_writes c.set_totals.ensures.ran (λ b there. let was = some_at _ (there ∙ ap not c.if-is_new.false) in c.set_totals.ensures.put b was.0 was.1) (of_ours (state g.S.Store c.args.tx.now.conn.now) (state g.S.Store c.set_totals.new.tx.conn.now) c.set_totals.result 17 (λ t far. far.1.1.1.1.1.1.1.1.1.0) c.set_totals.ensures.others) c.set_totals.ensures.within)

pub returns-in_default-clause-writes : goal.returns-in_default-clause-writes
returns-in_default-clause-writes g c = rw c.in_default.is (writes_nothing (λ b. refl))
