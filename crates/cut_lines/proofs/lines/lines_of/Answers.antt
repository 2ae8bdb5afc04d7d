use Rattle.std.proofs.Common.{◌≡◌, ◌∙◌, ◌+◌, ◌++◌, ◌∷◌, [], ap, false, true, map, drop, rules, sym, get_or}
use Rattle.std.specs.List.{list_any}
use Rattle.cut_tree.specs.SamePatterns.{same_pattern}
use Rattle.cut_bound.specs.declared.planned.PlannedUnit.{PlannedUnit}
use Rattle.cut_lines.specs.Lines.{distinct, plan_line, reported}
use Rattle.cut_lines.proofs.Distinct.{again, for_good, from_one, one_more}
use Rattle.cut_lines.proofs.lines.lines_of.Goals.{then-not-comes_again+in_ok-line_of+in_ok-push, else-not-comes_again}
use Rattle.cut_lines.proofs.lines.lines_of.Goals as goal

pub loop-i-preserved : goal.loop-i-preserved
loop-i-preserved c =
    let units = c.args.units.now in
    let i = c.loop-i.i in
    let u = c.index-units-i.result in
    let f = λ (v : PlannedUnit). plan_line units v.plan in
    let found : u ≡ get_or units i u = search rules in
    let on = from_one units i u (search rules) found in
    elim c.if-not-comes_again.branch [
      | then-not-comes_again+in_ok-line_of+in_ok-push w ↦
          let last : list_any (λ v. same_pattern v.plan u.plan) (drop (i + 1) units) ≡ false = search rules in
          let line : reported w.in_ok-line_of.field-0 ≡ plan_line units u.plan = w.in_ok-line_of.ensures ∙ ap f (sym found) in
          let items : c.if-not-comes_again.list.items ≡ c.loop-i.list.items ++ w.in_ok-line_of.field-0 ∷ [] = rw w.list-is w.in_ok-push.ensures.items in
          let after = map f (distinct (drop (i + 1) units)) in
          ap (λ ls. map reported ls ++ after) items ∙ one_more c.loop-i.list.items _ _ after line
          ∙ ap (λ ls. map reported c.loop-i.list.items ++ ls) (sym (for_good f _ _ u on last)) ∙ c.loop-i.invariant
      | else-not-comes_again w ↦
          let more : list_any (λ v. same_pattern v.plan u.plan) (drop (i + 1) units) ≡ true = search rules in
          rw w.list-is (ap (λ ls. map reported c.loop-i.list.items ++ ls) (sym (again f _ _ u on more)) ∙ c.loop-i.invariant)
    ]
