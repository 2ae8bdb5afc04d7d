-- The sixteen bytes of a code that was just copied.
use Rattle.std.proofs.Common.{◌≡◌, ◌++◌, ◌∷◌, [], ◌-◌, ◌≤◌, ◌<◌, ℕ, zero, suc, get_or, lit<, true, nat_le, List, length, take, drop, ◌∙◌, arith, length-append, length-drop}
use Rattle.std.specs.Prelude.{replicate}
use Rattle.std.proofs.Math.Seq.{take-append_seam, drop-append_seam}
use Rattle.std.proofs.lemmas.List.{length-replicate, drop-replicate}
use Rattle.std.proofs.lemmas.Bool.Decides.{nat_tests}
use Rattle.std.specs.List.{list_all}
use Rattle.std.specs.Str.{IsUtf8}
use Rattle.std.proofs.lemmas.Str.{IsUtf8-from_ascii}
use Rattle.std.proofs.lemmas.Bool.{and_parts}
use Rattle.cut_measure.specs.declared.ranges.TheConstants.{MAX_CODE_LEN}
use Rattle.cut_measure.specs.Codes.{is_code, is_code_byte}

module _ (text : List ℕ) (short : length text ≤ MAX_CODE_LEN) where
  pub all_kept : length (text ++ drop (length text) (replicate MAX_CODE_LEN 0)) ≡ MAX_CODE_LEN
  all_kept = omega (arith, length-append text (drop (length text) (replicate MAX_CODE_LEN 0)), length-drop {A = ℕ} (length text) (replicate MAX_CODE_LEN 0), length-replicate {A = ℕ} MAX_CODE_LEN 0)

  pub zeros_after : drop (length text) (text ++ drop (length text) (replicate MAX_CODE_LEN 0)) ≡ replicate (MAX_CODE_LEN - length text) 0
  zeros_after = drop-append_seam text _ ∙ drop-replicate (length text) MAX_CODE_LEN 0

  pub text_before : take (length text) (text ++ drop (length text) (replicate MAX_CODE_LEN 0)) ≡ text
  text_before = take-append_seam text _

pub code_short : (text : List ℕ) → is_code text ≡ true → length text ≤ MAX_CODE_LEN
code_short text e = let t : nat_le (length text) MAX_CODE_LEN ≡ true = (and_parts (nat_le 1 (length text)) _ (and_parts _ _ e).0).1 in grind (arith, nat_tests)

small_byte : (b : ℕ) → is_code_byte b ≡ true → b < 128
small_byte b e = grind (arith, nat_tests)

all_small : (text : List ℕ) → list_all is_code_byte text ≡ true → (i : ℕ) → get_or text i 0 < 128
all_small [] e i = lit< tt
all_small (b ∷ bs) e zero = small_byte b (and_parts _ _ e).0
all_small (b ∷ bs) e (suc i) = all_small bs (and_parts (is_code_byte b) _ e).1 i

pub code_utf8 : (text : List ℕ) → is_code text ≡ true → IsUtf8 text
code_utf8 text e = IsUtf8-from_ascii text (all_small text (and_parts _ (list_all is_code_byte text) e).1)
