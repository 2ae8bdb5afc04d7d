use Rattle.std.proofs.Common.{lit<, ◌∙◌}
use Rattle.std.proofs.lemmas.Str.Pattern.{split_parts}
use Rattle.cut_measure.proofs.LengthTexts.{no_whole, pointed}
use Rattle.cut_measure.proofs.lengths.tenths_of.Goals as goal

pub returns-in_err-read_whole-in-None : goal.returns-in_err-read_whole-in-None
returns-in_err-read_whole-in-None c =
    let none = rw c.in-None.is at (split_parts 46 c.args.text.now c.split_once.result c.split_once.ensures.cases (lit< tt)) in
    rw c.from_residual.ensures (no_whole c.args.text.now none (rw c.as_bytes.ensures.value at c.in_err-read_whole-in-None.ensures.whole))

pub returns-in_err-whole-in-Some : goal.returns-in_err-whole-in-Some
returns-in_err-whole-in-Some c =
    let parts = rw c.in-Some.is at (split_parts 46 c.args.text.now c.split_once.result c.split_once.ensures.cases (lit< tt)) in
    rw c.from_residual-in_err-whole-in-Some.ensures
    (λ n h. let not = rw c.as_bytes-in-Some.ensures.value at c.in_err-whole-in-Some.ensures.whole in not (pointed c.args.text.now c.in-Some.whole.now c.in-Some.tenth.now parts.0 parts.1 n h).3)

pub returns-in_err-tenth-in-Some : goal.returns-in_err-tenth-in-Some
returns-in_err-tenth-in-Some c =
    let parts = rw c.in-Some.is at (split_parts 46 c.args.text.now c.split_once.result c.split_once.ensures.cases (lit< tt)) in
    rw c.from_residual-in_err-tenth-in-Some.ensures
    (λ n h. (
    let p = pointed c.args.text.now c.in-Some.whole.now c.in-Some.tenth.now parts.0 parts.1 n h in
    c.in_err-tenth-in-Some.ensures p.0 p.1 (c.as_bytes-in-Some-2.ensures.value ∙ p.2)))
