-- A code is kept in sixteen bytes, those past its end being zero.
use Rattle.std.specs.Prelude.{◌≡◌, ℕ, ◌-◌, ◌≤◌, List, ◌++◌, length, take, drop, replicate}
use Rattle.std.proofs.Common.{sym, ap, ◌∙◌, arith}
use Rattle.std.proofs.lemmas.List.{take-append-drop, length-take-le}
use Rattle.cut_measure.specs.declared.ranges.TheConstants.{MAX_CODE_LEN}
use Rattle.cut_measure.specs.declared.code_texts.Code.TheInside.{Inside}

same_fields : {s t : List ℕ} {m n : ℕ} → s ≡ t → m ≡ n → ◌≡◌ {A = Inside} (record { text = s; len = m }) (record { text = t; len = n })
same_fields p q = λ i. record { text = p i; len = q i }

-- a code and the zeros after it are what is kept
pub fields_back : (a : Inside) → length a.text ≡ MAX_CODE_LEN → a.len ≤ MAX_CODE_LEN → drop a.len a.text ≡ replicate (MAX_CODE_LEN - a.len) 0
    → ◌≡◌ {A = Inside} (record { text = take a.len a.text ++ replicate (MAX_CODE_LEN - length (take a.len a.text)) 0; len = length (take a.len a.text) }) a
fields_back a full short zeros =
    let most : a.len ≤ length a.text = omega arith in
    let same : length (take a.len a.text) ≡ a.len = length-take-le a.len a.text most in
    same_fields (ap (λ n. take a.len a.text ++ replicate (MAX_CODE_LEN - n) 0) same ∙ ap (λ z. take a.len a.text ++ z) (sym zeros) ∙ take-append-drop a.len a.text) same
