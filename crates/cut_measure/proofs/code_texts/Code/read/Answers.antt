use Rattle.std.proofs.Common.{◌≡◌, ◌++◌, ◌-◌, ◌≤◌, ℕ, IsTrue, true, List, length, take, drop, sym, ap, ◌∙◌, arith}
use Rattle.std.specs.Prelude.{replicate}
use Rattle.std.proofs.lemmas.Grind.{common_steps}
use Rattle.cut_measure.specs.declared.ranges.TheConstants.{MAX_CODE_LEN}
use Rattle.cut_measure.specs.Codes.{is_code}
use Rattle.cut_measure.proofs.CodeFields.{all_kept, zeros_after, text_before, code_short}
use Rattle.cut_measure.proofs.code_texts.Code.read.Goals as goal

kept : (text copied given : List ℕ) → copied ≡ text → text ≡ given → true ≡ is_code given
    → (length (copied ++ drop (length text) (replicate MAX_CODE_LEN 0)) ≡ MAX_CODE_LEN) × (length text ≤ MAX_CODE_LEN) × (drop (length text) (copied ++ drop (length text) (replicate MAX_CODE_LEN 0)) ≡ replicate (MAX_CODE_LEN - length text) 0) × IsTrue (is_code (take (length text) (copied ++ drop (length text) (replicate MAX_CODE_LEN 0))))
kept text copied given same is code =
    let of_text : is_code text ≡ true = ap is_code is ∙ sym code in
    let short : length text ≤ MAX_CODE_LEN = code_short text of_text in
    rw same (all_kept text short, short, zeros_after text short, rw (text_before text short) of_text)

pub invariant_of-result : goal.invariant_of-result
invariant_of-result c = kept c.as_bytes-bytes.result.now c.copy_from_slice.new.self c.args.text.now c.copy_from_slice.ensures.after c.as_bytes-bytes.ensures.value c.if-not-is_code_text.ensures

pub returns : goal.returns
returns c = grind (arith, common_steps)
