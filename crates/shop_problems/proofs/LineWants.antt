-- The demands of the lines of a material are in range.
use Rattle.std.proofs.Common.{◌+◌, ◌≤◌, ℕ, suc, Bool, List, [], ◌∷◌, arith, length, refl}
use Rattle.std.specs.Prelude.{not}
use Rattle.std.specs.Str.{bytes_eq}
use Rattle.std.proofs.lemmas.List.Elements.{All-cons, All-nil}
use Rattle.std.proofs.lemmas.List.Filters.{length-filter_both}
use Rattle.cut_plan.specs.Proposals.{AreDemands, HasDemandNumber}
use Rattle.shop_files.specs.declared.orders.OrderLine.{OrderLine}
use Rattle.shop_files.specs.declared.limits.TheConstants.{MAX_LINES}
use Rattle.shop_problems.specs.Orders.{lines_of, want_of, wants_from, wants_in}

-- demands numbered one after another are in range
pub demands_of : (demand : ℕ) (lines : List OrderLine) → 1 ≤ demand → demand + length lines ≤ 2147483648 → AreDemands (wants_from demand lines)
demands_of demand [] some few = All-nil HasDemandNumber
demands_of demand (line ∷ lines) some few =
    All-cons HasDemandNumber (want_of demand line) (wants_from (suc demand) lines) (some, omega (arith, few))
    (demands_of (suc demand) lines (omega arith) (omega (arith, few)))

-- those for the lines of a material are
pub demands_in : (material : List ℕ) (lines : List OrderLine) → length lines ≤ MAX_LINES → AreDemands (wants_in material lines)
demands_in material lines few =
    let own : OrderLine → Bool = λ line. bytes_eq line.material material in
    let parts = length-filter_both own (λ line. not (own line)) (λ line. refl) lines in
    demands_of 1 (lines_of material lines) (omega arith) (omega (arith, few, parts))
