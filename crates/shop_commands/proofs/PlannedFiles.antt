-- The plans of the lines of an order file, from a shop file.
use Rattle.std.proofs.Common.{◌≡◌, List, ℕ, Bor, None, Result, Ok, Err, inl, inr, map, subst, sym}
use Rattle.std.specs.Prelude.{IfErr, IfOk}
use Rattle.std.proofs.lemmas.Result.{IfErr-weaker}
use Rattle.shop_files.specs.Orders.{IsOrders}
use Rattle.shop_files.specs.declared.orders.OrderLine.{OrderLine}
use Rattle.shop_files.specs.declared.shops.MaterialEntry.{MaterialEntry}
use Rattle.shop_problems.specs.Judged.{first_bad_field}
use Rattle.shop_problems.specs.Orders.{IsLinesText}
use Rattle.shop_problems.specs.Stock.{first_bad_entry}
use Rattle.shop_words.specs.declared.words.OrderPlan.{OrderPlan}
use Rattle.shop_commands.specs.declared.faults.Fault.{Fault}
use Rattle.shop_commands.specs.Orders.{IsBadBy}
use Rattle.shop_commands.specs.Plans.{IsFileLines, IsFileLinesFault, IsPlanFaultBy, IsShopLines, IsShopLinesFault, sizes_asked}
use Rattle.shop_commands.specs.Stored.{IsShopRead}

-- with the texts of the sizes that were asked for
pub taken_ok : (lines : List OrderLine) (entries : List MaterialEntry) (asked : OrderPlan) (slice : List (Bor (List ℕ))) (text : List ℕ)
    → slice ≡ asked.sizes.items → IsLinesText lines entries asked.material.now (map (λ t. t.now) slice) asked.stages text
    → IsLinesText lines entries asked.material.now (sizes_asked asked) asked.stages text
taken_ok lines entries asked slice text is reported =
    subst (λ sizes. IsLinesText lines entries asked.material.now (map (λ t. t.now) sizes) asked.stages text) is reported

module _ (holds : List ℕ → ℕ → List ℕ → Type 0) where
  module _ {X : Type 0} (bytes : X → List ℕ) (asked : OrderPlan) (result : Result X Fault) where
    pub from_shop : (lines : List OrderLine) (entries slice : List MaterialEntry) → IsShopRead holds asked.shop.now entries → slice ≡ entries
        → IfOk result (λ text. (first_bad_entry slice ≡ None) × IsLinesText lines slice asked.material.now (sizes_asked asked) asked.stages (bytes text))
        → IfOk result (λ text. IsShopLines holds lines asked (bytes text))
    from_shop lines entries slice read is = made result
      where
        made : (r : Result X Fault) → IfOk r (λ text. (first_bad_entry slice ≡ None) × IsLinesText lines slice asked.material.now (sizes_asked asked) asked.stages (bytes text))
            → IfOk r (λ text. IsShopLines holds lines asked (bytes text))
        made (Ok text) reported = record { entries = slice; read = subst (IsShopRead holds asked.shop.now) (sym is) read; taken = reported.0; reported = reported.1 }
        made (Err fault) reported = tt

    pub from_shop_fault : (lines : List OrderLine) (entries slice : List MaterialEntry) → IsShopRead holds asked.shop.now entries → slice ≡ entries
        → IfErr result (IsPlanFaultBy lines slice asked) → IfErr result (IsShopLinesFault holds lines asked)
    from_shop_fault lines entries slice read is by =
        IfErr-weaker result _ _ (λ f found. inr (slice, subst (IsShopRead holds asked.shop.now) (sym is) read, found)) by

    module _ (file : List ℕ) (lines slice : List OrderLine) (spelt : IsOrders file lines) (is : slice ≡ lines) where
      pub from_file : first_bad_field None slice ≡ None → IfOk result (λ text. IsShopLines holds slice asked (bytes text))
          → IfOk result (λ text. IsFileLines holds file asked (bytes text))
      from_file good = made result
        where
          made : (r : Result X Fault) → IfOk r (λ text. IsShopLines holds slice asked (bytes text)) → IfOk r (λ text. IsFileLines holds file asked (bytes text))
          made (Ok text) planned = record { lines = slice; spelt = subst (IsOrders file) (sym is) spelt; good = good; planned = planned }
          made (Err fault) planned = tt

      pub from_file_fault : first_bad_field None slice ≡ None → IfErr result (IsShopLinesFault holds slice asked) → IfErr result (IsFileLinesFault holds file asked)
      from_file_fault good by = IfErr-weaker result _ _ (λ f found. inr (slice, subst (IsOrders file) (sym is) spelt, inr (good, found))) by

  pub bad_rows : (file : List ℕ) (asked : OrderPlan) (lines slice : List OrderLine) → IsOrders file lines → slice ≡ lines → (fault : Fault)
      → IsBadBy None slice fault → IsFileLinesFault holds file asked fault
  bad_rows file asked lines slice spelt is fault bad = inr (slice, subst (IsOrders file) (sym is) spelt, inl bad)
