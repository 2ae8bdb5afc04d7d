-- The lines that a text spells are few.
use Rattle.std.proofs.Common.{◌≡◌, ◌≤◌, ℕ, suc, List, [], ◌∷◌, ap, arith, length, refl}
use Rattle.shop_files.specs.Orders.{AreLineRecords, Fields, IsOrders}
use Rattle.shop_files.specs.declared.limits.TheConstants.{MAX_LINES}
use Rattle.shop_files.specs.declared.orders.OrderLine.{OrderLine}

one_each : (rows : List Fields) (lines : List OrderLine) → AreLineRecords rows lines → length lines ≡ length rows
one_each [] [] are = refl
one_each [] (line ∷ lines) are = absurd are
one_each (fields ∷ rows) [] are = absurd are
one_each (fields ∷ rows) (line ∷ lines) (one, others) = ap suc (one_each rows lines others)

pub few_lines : (text : List ℕ) (lines : List OrderLine) → IsOrders text lines → length lines ≤ MAX_LINES
few_lines text lines are =
    let few = are.few in
    let same = one_each are.rows lines are.are_lines in
    omega (arith, few, same)
