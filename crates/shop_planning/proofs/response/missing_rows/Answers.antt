use Rattle.std.proofs.Common.{◌≡◌, ◌∙◌, ◌+◌, ◌<◌, ◌++◌, ap, drop, false, get_or, inl, inr, length, rules, true, arith}
use Rattle.std.specs.Prelude.{◌==◌}
use Rattle.std.proofs.lemmas.Bool.{cases_lt, eq-eqb, ne_eqb}
use Rattle.shop_planning.specs.Answers.{missing_rows}
use Rattle.shop_planning.proofs.EntryLists.{missing_end, none_missing, some_missing}
use Rattle.shop_planning.proofs.response.missing_rows.Goals.{then-pieces-ne0+in_ok-push, else-pieces-ne0}
use Rattle.shop_planning.proofs.response.missing_rows.Goals as goal

pub loop-i-preserved : goal.loop-i-preserved
loop-i-preserved c =
    let wants = c.args.wants.now in
    let numbers = c.args.missing.now in
    let i = c.loop-i.i in
    let want = c.index-wants-i.result in
    let n = get_or numbers i 0 in
    let in_wants : i < length wants = omega arith in
    let in_numbers : i < length numbers = omega arith in
    let is_x : want ≡ get_or wants i want = search rules in
    let is_n : n ≡ get_or numbers i n = search rules in
    elim c.if-pieces-ne0.branch [
      | then-pieces-ne0+in_ok-push w ↦
          let test : (n == 0) ≡ false = ne_eqb n 0 (λ e. w.if-pieces-ne0.true e) in
          ap (λ l. l ++ missing_rows (drop (i + 1) wants) (drop (i + 1) numbers)) (rw w.rows-is w.in_ok-push.ensures.items)
          ∙ some_missing wants numbers i want n in_wants is_x in_numbers is_n c.loop-i.rows.items (missing_rows wants numbers) test c.loop-i.invariant
      | else-pieces-ne0 w ↦
          let test : (n == 0) ≡ true = eq-eqb n 0 w.if-pieces-ne0.false in
          rw w.rows-is (none_missing wants numbers i want n in_wants is_x in_numbers is_n c.loop-i.rows.items (missing_rows wants numbers) test c.loop-i.invariant)
    ]

pub returns : goal.returns
returns c =
    missing_end c.args.wants.now c.args.missing.now c.loop-i.i c.loop-i.rows.items (missing_rows c.args.wants.now c.args.missing.now)
    (elim (cases_lt c.loop-i.i (length c.args.wants.now)) [
      | inl inside ↦ inr (omega arith)
      | inr all ↦ inl all
    ]) c.loop-i.invariant
