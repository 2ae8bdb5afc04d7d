use Rattle.std.proofs.Common.{sym, ap, ◌∙◌}
use Rattle.std.specs.Prelude.{◌&&◌}
use Rattle.std.proofs.lemmas.Bool.{false_from_ne_true, true≢false}
use Rattle.shop_machine.specs.Ending.{has_begun}
use Rattle.cut_tree.proofs.Tested.{allowed}
use Rattle.cut_tree.specs.Stops.{can_save}
use Rattle.shop_machine.proofs.ending.can_end.Goals as goal

pub returns-then-allows-clause-test : goal.returns-then-allows-clause-test
returns-then-allows-clause-test c =
    let tree = c.args.plan.now.tree in
    let halt = c.in-After.halt in
    rw c.in-After.is
    (c.has_begun.ensures ∙ ap (λ b. b && has_begun halt) (sym ((allowed tree halt).1 (c.allows.ensures.0 c.if-allows.true))))

pub returns-else-allows-clause-test : goal.returns-else-allows-clause-test
returns-else-allows-clause-test c =
    let tree = c.args.plan.now.tree in
    let halt = c.in-After.halt in
    rw c.in-After.is
    (c.if-allows.false ∙ ap (λ b. b && has_begun halt) (sym (false_from_ne_true _ (λ is. true≢false (sym (c.allows.ensures.1 ((allowed tree halt).0 is)) ∙ c.if-allows.false)))))

pub returns-then-allows-2-clause-test : goal.returns-then-allows-2-clause-test
returns-then-allows-2-clause-test c =
    let tree = c.args.plan.now.tree in
    let halt = c.in-Saved.halt in
    rw c.in-Saved.is
    (c.can_save.ensures ∙ ap (λ b. b && can_save c.args.plan.now halt c.in-Saved.rest) (sym ((allowed tree halt).1 (c.allows-in-Saved.ensures.0 c.if-allows-2.true))))

pub returns-else-allows-2-clause-test : goal.returns-else-allows-2-clause-test
returns-else-allows-2-clause-test c =
    let tree = c.args.plan.now.tree in
    let halt = c.in-Saved.halt in
    rw c.in-Saved.is
    (c.if-allows-2.false ∙ ap (λ b. b && can_save c.args.plan.now halt c.in-Saved.rest) (sym (false_from_ne_true _ (λ is. true≢false (sym (c.allows-in-Saved.ensures.1 ((allowed tree halt).0 is)) ∙ c.if-allows-2.false)))))
