use Rattle.std.proofs.Common.{◌≡◌, ◌<◌, take, length, map, arith, ap, ◌∙◌}
use Rattle.std.proofs.lemmas.List.{length-map}
use Rattle.cut_tree.specs.Nodes.{tree_of}
use Rattle.cut_tree.specs.Spelling.{words, tokens}
use Rattle.cut_tree.proofs.WholeTexts.{spelled_text, cuts_in-tokens, demands_read}
use Rattle.std.proofs.lemmas.Result.{err_from_is_err_and}
use Rattle.cut_tree.proofs.FirstWords.{read_fault, after_fault, all_taken}
use Rattle.cut_tree.proofs.SpelledTexts.{spelled_numbers}
use Rattle.cut_tree.proofs.plan.Plan.parse.Goals as goal

pub of-requires : goal.of-requires
of-requires c =
    let r = c.in_ok-read.ensures.ok in
    record {
      shaped = rw (← c.w.ensures.value, ← c.h.ensures.value) r.shaped;
      few_cuts = omega (arith, r.counted, r.few_cuts, cuts_in-tokens (tree_of c.in_ok-read.read.node));
      demands = demands_read _ 0 (tree_of c.in_ok-read.read.node) r.spelled;
      some_width = rw (← c.w.ensures.value) c.w.ensures.least;
      width_in_range = rw (← c.w.ensures.value) c.w.ensures.most;
      some_height = rw (← c.h.ensures.value) c.h.ensures.least;
      height_in_range = rw (← c.h.ensures.value) c.h.ensures.most;
      narrow = c.requires;
    }

pub returns-in_err-read-clause-fault : goal.returns-in_err-read-clause-fault
returns-in_err-read-clause-fault c =
    let p = err_from_is_err_and c.from_residual.result c.from_residual.ensures.1 in
    rw (p.1, p.2, ← c.w.ensures.value, ← c.h.ensures.value)
    (read_fault (map (λ w. w.now) c.as_slice-words.result.now) c.args.text.now c.w.result c.h.result c.args.kerf _ _
    (ap (map (λ w. w.now)) c.as_slice-words.ensures.value ∙ c.in-Ok.ensures) c.in_err-read.ensures.early c.in_err-read.ensures.err)

pub returns-then-read-words-clause-fault : goal.returns-then-read-words-clause-fault
returns-then-read-words-clause-fault c =
    let r = c.in_ok-read.ensures.ok in
    rw (c.after.ensures.token, ← c.w.ensures.value, ← c.h.ensures.value)
    (after_fault (map (λ w. w.now) c.as_slice-words.result.now) c.args.text.now c.w.result c.h.result c.args.kerf c.in_ok-read.read.next c.in_ok-read.read.cuts c.after.result.cause
    (tree_of c.in_ok-read.read.node) (ap (map (λ w. w.now)) c.as_slice-words.ensures.value ∙ c.in-Ok.ensures)
    (omega (arith, c.in_ok-read.ensures.near, r.few_cuts)) r c.after.ensures.cause)

pub returns-in-Ok-of-clause-spelled : goal.returns-in-Ok-of-clause-spelled
returns-in-Ok-of-clause-spelled c =
    let r = c.in_ok-read.ensures.ok in
    let is : map (λ w. w.now) c.as_slice-words.result.now ≡ take 512 (words c.args.text.now) = ap (map (λ w. w.now)) c.as_slice-words.ensures.value ∙ c.in-Ok.ensures in
    let short : length (take 512 (words c.args.text.now)) < 512 =
    rw (← is, length-map) (omega (arith, c.if-read-words.false, c.in_ok-read.ensures.near, r.few_cuts)) in
    rw c.in-Ok-of.ensures
    (record {
      shaped = rw (← c.w.ensures.value, ← c.h.ensures.value) r.shaped;
      numbers = spelled_numbers _ 0 (tokens (tree_of c.in_ok-read.read.node)) r.spelled;
      text_is = spelled_text c.args.text.now (map (λ w. w.now) c.as_slice-words.result.now) (tree_of c.in_ok-read.read.node)
          (is ∙ all_taken 512 (words c.args.text.now) short) r.spelled
          (rw length-map (omega (arith, r.upto, c.if-read-words.false)));
    })
