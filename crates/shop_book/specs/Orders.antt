-- The orders in memory, and which demands lie with those of their orders.
use Rattle.std.specs.Prelude.{◌≡◌, ℕ, List, map, Bool, false, IsTrue, Option, Some, None}
use Rattle.std.specs.List.{find}
use Rattle.std.specs.Ordering.{is_eq}
use Rattle.cut_measure.specs.Codes.{code_cmp}
use Rattle.shop_records.specs.declared.records.Demand.{Demand}
use Rattle.shop_rows.specs.Lines.{is_within}
use Rattle.shop_book.specs.declared.known_orders.KnownOrder.{KnownOrder}

abbrev pub codes_in : List KnownOrder → List (List ℕ)
codes_in orders = map (λ (order : KnownOrder). order.code) orders

-- the order of a code, if it is there
abbrev pub order_at : List ℕ → List KnownOrder → Option KnownOrder
order_at code orders = find (λ order. is_eq (code_cmp code order.code)) orders

-- whether a number is one among those of an order that was found
abbrev pub is_among : Option KnownOrder → ℕ → Bool
is_among None number = false
is_among (Some order) number = is_within order.span number

-- whether a demand lies with those of its order
abbrev pub is_placed : List KnownOrder → Demand → Bool
is_placed orders demand = is_among (order_at demand.order orders) demand.number

-- orders that were there are there with the same numbers
abbrev pub AreKept : List KnownOrder → List KnownOrder → Type 0
AreKept old new = (code : List ℕ) (order : KnownOrder) → order_at code old ≡ Some order → order_at code new ≡ Some order

-- a number that lay with those of an order lies with them still
abbrev pub ReachAsFar : List KnownOrder → List KnownOrder → Type 0
ReachAsFar old new = (code : List ℕ) (number : ℕ) → IsTrue (is_among (order_at code old) number) → IsTrue (is_among (order_at code new) number)
