-- The lines of a fault that has an advice.
use Rattle.std.proofs.Common.{◌≡◌, ◌++◌, ℕ, List, Result, Ok, Err, false, inr, refl}
use Rattle.std.specs.Prelude.{IfOk}
use Rattle.shop_commands.specs.declared.advice.Advice.{Advice}
use Rattle.shop_commands.specs.declared.faults.Fault.{Fault}
use Rattle.shop_commands.specs.Advice.{IsAdviceOf, IsFaultReported, advice_line, fault_line, is_order}

module _ {X E : Type 0} (bytes : X → List ℕ) (fault : Fault) (a : Advice) where
  pub advised : (made : Result X E) → is_order fault ≡ false → IsAdviceOf fault a → IfOk made (λ text. bytes text ≡ fault_line fault ++ advice_line a)
      → IfOk made (λ text. IsFaultReported fault (bytes text))
  advised (Ok text) other of is = (advice_line a, inr (other, inr (a, of, refl)), is)
  advised (Err e) other of is = tt
