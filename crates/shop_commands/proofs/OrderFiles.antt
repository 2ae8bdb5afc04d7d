-- What is said of an order file.
use Rattle.std.proofs.Common.{◌≡◌, ◌≢◌, ◌∙◌, ℕ, suc, ◌+◌, ◌<◌, Bool, true, false, not, List, ◌∷◌, length, drop, take, get_or, Option, Result, Ok, Err, inr, sym, ap, arith}
use Rattle.std.specs.Prelude.{◌||◌, ◌==◌, IfErr, if◌then◌else◌}
use Rattle.std.specs.List.{list_any, prefix_len}
use Rattle.std.proofs.Math.Seq.{drop-cons}
use Rattle.std.proofs.lemmas.Bool.{eq-eqb, ne_eqb}
use Rattle.shop_files.specs.declared.limits.TheConstants.{MAX_TEXT_LEN}
use Rattle.shop_words.specs.declared.words.ImportAs.{ImportAs}
use Rattle.shop_commands.specs.Orders.{first_line_has, IsOrdersLine, IsOrdersStopped}
use Rattle.shop_commands.specs.Sinks.{SinkChange, AddsPrefix, SinkFailed}
use Rattle.shop_commands.specs.declared.faults.Fault.{Fault}
use Rattle.shop_commands.specs.declared.faults.Fault.TheVariants.{Write}

-- ---- the first line

module _ (wanted b : ℕ) (rest : List ℕ) where
  -- how much of the rest stands on the first line
  more : ℕ
  more = prefix_len (λ x. not (x == 10)) rest

  among : ℕ → Bool
  among k = list_any (λ c. c == wanted) (take k (b ∷ rest))

  -- the first byte stands on the first line, or ends it
  begun : Bool → Bool
  begun inside = among (if inside then 1 + more else 0)

  ended : (b == 10) ≡ true → first_line_has wanted (b ∷ rest) ≡ false
  unfolding begun among more
  ended e = ap begun (ap not e)

  goes_on : (b == 10) ≡ false → first_line_has wanted (b ∷ rest) ≡ ((b == wanted) || first_line_has wanted rest)
  unfolding begun among more
  goes_on e = let next : 1 + more ≡ suc more = omega arith in ap begun (ap not e) ∙ ap among next

module _ (wanted : ℕ) (text : List ℕ) (i d : ℕ) (within : i < length text) where
  from_here : first_line_has wanted (drop i text) ≡ first_line_has wanted (get_or text i d ∷ drop (suc i) text)
  from_here = ap (first_line_has wanted) (drop-cons text i d within)

  -- the line ends here
  pub ends_here : get_or text i d ≡ 10 → first_line_has wanted (drop i text) ≡ false
  ends_here is = from_here ∙ ended wanted (get_or text i d) (drop (suc i) text) (eq-eqb (get_or text i d) 10 is)

  -- the byte stands here
  pub stands_here : get_or text i d ≢ 10 → get_or text i d ≡ wanted → first_line_has wanted (drop i text) ≡ true
  stands_here other is =
      from_here ∙ goes_on wanted (get_or text i d) (drop (suc i) text) (ne_eqb (get_or text i d) 10 other)
      ∙ ap (λ t. t || first_line_has wanted (drop (suc i) text)) (eq-eqb (get_or text i d) wanted is)

  -- another byte stands here
  pub passed : get_or text i d ≢ 10 → get_or text i d ≢ wanted → first_line_has wanted (drop (i + 1) text) ≡ first_line_has wanted (drop i text)
  passed other is =
      let next : i + 1 ≡ suc i = omega arith in
      ap (λ k. first_line_has wanted (drop k text)) next
      ∙ sym (from_here ∙ goes_on wanted (get_or text i d) (drop (suc i) text) (ne_eqb (get_or text i d) 10 other)
      ∙ ap (λ t. t || first_line_has wanted (drop (suc i) text)) (ne_eqb (get_or text i d) wanted is))

-- ---- a line that isn't written to its end

pub unwritten : {X : Type 0} (holds : List ℕ → ℕ → List ℕ → Type 0) (file : List ℕ) (path : Option (List ℕ)) (reported : Option ImportAs) (bytes line : List ℕ) (out : SinkChange) → holds file MAX_TEXT_LEN bytes
    → IsOrdersLine holds path reported bytes line → AddsPrefix out line
    → (result : Result X Fault) → IfErr result (λ fault. (fault ≡ Write) × SinkFailed out) → IfErr result (λ fault. IsOrdersStopped holds file path reported fault out)
unwritten holds file path reported bytes line out has made prefix (Ok x) is = tt
unwritten holds file path reported bytes line out has made prefix (Err fault) is = inr (inr (bytes, line, has, made, is.0, prefix, is.1))
