-- Lines that are judged, and what is reported about a file that has them.
use Rattle.std.proofs.Common.{◌≡◌, List, ℕ, Bor, Option, Some, None, Result, Ok, Err, inl, inr, length, refl, subst, sym}
use Rattle.std.specs.Prelude.{IfErr, IfOk, OnOk, option_map}
use Rattle.std.proofs.lemmas.Result.{IfErr-weaker, on_ok_weaker}
use Rattle.shop_files.specs.Orders.{IsOrders}
use Rattle.shop_files.specs.declared.orders.OrderLine.{OrderLine}
use Rattle.shop_files.specs.declared.shops.MaterialEntry.{MaterialEntry}
use Rattle.shop_problems.specs.Judged.{first_bad_field}
use Rattle.shop_words.specs.declared.words.ImportAs.{ImportAs}
use Rattle.shop_commands.specs.declared.faults.Fault.{Fault}
use Rattle.shop_commands.specs.Orders.{IsBadBy, IsJudgedBad, IsJudgedGood, IsOrderFileFault, IsOrdersLine, IsUnsaid, orders_line}
use Rattle.shop_commands.specs.Stored.{IsShopRead}

module _ (holds : List ℕ → ℕ → List ℕ → Type 0) where
  module _ {A : Type 0} (path : List ℕ) (entries slice : List MaterialEntry) (lines : List OrderLine) (result : Result A Fault) (read : IsShopRead holds path entries) (is : slice ≡ entries) where
    pub good_by_shop : OnOk result (first_bad_field (Some slice) lines ≡ None) → OnOk result (IsJudgedGood holds (Some path) lines)
    good_by_shop good = on_ok_weaker result (λ none. (Some slice, subst (IsShopRead holds path) (sym is) read, none)) good

    pub bad_by_shop : IfErr result (IsBadBy (Some slice) lines) → IfErr result (IsJudgedBad holds (Some path) lines)
    bad_by_shop bad = IfErr-weaker result _ _ (λ f by. inr (Some slice, subst (IsShopRead holds path) (sym is) read, by)) bad

  module _ {A : Type 0} (shop : Option (Bor (List ℕ))) (lines : List OrderLine) (result : Result A Fault) where
    abbrev Path : Option (Bor (List ℕ)) → Option (List ℕ)
    Path s = option_map (λ p. p.now) s

    pub alone_ok : shop ≡ None → OnOk result (first_bad_field None lines ≡ None) → OnOk result (IsJudgedGood holds (option_map (λ p. p.now) shop) lines)
    alone_ok is good = subst (λ s. OnOk result (IsJudgedGood holds (Path s) lines)) (sym is) (on_ok_weaker result (λ none. (None, refl, none)) good)

    pub alone_err : shop ≡ None → IfErr result (IsBadBy None lines) → IfErr result (IsJudgedBad holds (option_map (λ p. p.now) shop) lines)
    alone_err is bad =
        subst (λ s. IfErr result (IsJudgedBad holds (Path s) lines)) (sym is) (IfErr-weaker result _ _ (λ f by. inr (None, refl, by)) bad)

    pub known_ok : (path : Bor (List ℕ)) → shop ≡ Some path → OnOk result (IsJudgedGood holds (Some path.now) lines)
        → OnOk result (IsJudgedGood holds (option_map (λ p. p.now) shop) lines)
    known_ok path is good = subst (λ s. OnOk result (IsJudgedGood holds (Path s) lines)) (sym is) good

    pub known_err : (path : Bor (List ℕ)) → shop ≡ Some path → IfErr result (IsJudgedBad holds (Some path.now) lines)
        → IfErr result (IsJudgedBad holds (option_map (λ p. p.now) shop) lines)
    known_err path is bad = subst (λ s. IfErr result (IsJudgedBad holds (Path s) lines)) (sym is) bad

  module _ (path : Option (List ℕ)) (text : List ℕ) (lines slice : List OrderLine) (spelt : IsOrders text lines) (is : slice ≡ lines) where
    pub bad_file : (fault : Fault) → IsJudgedBad holds path slice fault → IsOrderFileFault holds path text fault
    bad_file fault bad = inr (slice, subst (IsOrders text) (sym is) spelt, inl bad)

    module _ {X : Type 0} (bytes : X → List ℕ) (reported : Option ImportAs) (result : Result X Fault) (good : IsJudgedGood holds path slice) where
      pub line_ok : IfOk result (λ line. bytes line ≡ orders_line reported text (length slice)) → IfOk result (λ line. IsOrdersLine holds path reported text (bytes line))
      line_ok = made result
        where
          made : (r : Result X Fault) → IfOk r (λ line. bytes line ≡ orders_line reported text (length slice)) → IfOk r (λ line. IsOrdersLine holds path reported text (bytes line))
          made (Ok line) says = (slice, subst (IsOrders text) (sym is) spelt, good, says)
          made (Err fault) says = tt

      pub line_err : IfErr result (IsUnsaid text) → IfErr result (IsOrderFileFault holds path text)
      line_err unsaid = IfErr-weaker result _ _ (λ f by. inr (slice, subst (IsOrders text) (sym is) spelt, inr (good, by))) unsaid
