-- The lines of an order, their sums, and what is reported about orders.
use Rattle.std.proofs.Common.{◌≡◌, ℕ, zero, suc, ◌+◌, ◌*◌, ◌^◌, ◌<◌, ◌≤◌, inl, inr, List, [], ◌∷◌, ◌++◌, get_or, length, map, take, Bool, true, false, refl, sym, ap, ◌∙◌, arith}
use Rattle.std.specs.Prelude.{Some, AllPairs, sum_by}
use Rattle.std.proofs.lemmas.List.Sums.{sum_by_more}
use Rattle.shop_records.specs.declared.records.Demand.{Demand}
use Rattle.shop_records.specs.declared.records.OrderRow.{OrderRow}
use Rattle.shop_records.specs.declared.messages.Reply.{Reply}
use Rattle.shop_records.specs.declared.messages.Reply.TheVariants as reply
use Rattle.shop_records.specs.Content.{Content, demand_at}
use Rattle.shop_records.specs.Elements.{IsIn}
use Rattle.shop_records.specs.Lists.{AreLines, demand_row, order_row}
use Rattle.shop_records.proofs.Basics.{all_in}
use Rattle.shop_records.proofs.Puts.{Pairwise, pairs_in}
use Rattle.shop_answers.specs.Listing.{IsAdded, are_more, first_reported, IsOrderRow, AreOrderRows, IsOrdersAnswer, IsLinesAnswer}

-- ---- lines that rise

abbrev pub Rise : List Demand → Type 0
Rise lines = AllPairs (λ (a b : Demand). a.line < b.line) lines

-- a line's number is no less than its place
pub place_of : (lines : List Demand) (i : ℕ) (d : Demand) → Rise lines → i < length lines → i ≤ (get_or lines i d).line
place_of lines zero d up within = omega arith
place_of lines (suc i) d up within =
    let before = place_of lines i d up (omega (arith, within)) in
    let less : (get_or lines i d).line < (get_or lines (suc i) d).line = up i (suc i) d (omega arith) within in
    omega (arith, before, less)

-- a sum over the first lines, exact where all of them rise
pub record IsSum (f : Demand → ℕ) (lines : List Demand) (i sum : ℕ) : Type 0 where
  pub few : sum ≤ i * 4294967295
  pub exact : Rise lines → sum ≡ sum_by f (take i lines)

pub sum_more : (f : Demand → ℕ) (lines : List Demand) (i : ℕ) (line : Demand) (sum after : ℕ) → i < length lines → line ≡ get_or lines i line → line.line < 2 ^ 32
    → IsAdded sum (f line) after → IsSum f lines i sum → IsSum f lines (i + 1) after
sum_more f lines i line sum after within is range added before =
    let few = before.few in
    let small : f line < 2 ^ 32 = added.few in
    let most : after ≤ sum + f line = added.most in
    record { few = omega (arith, few, small, most); exact = exact }
  where
    exact : Rise lines → after ≡ sum_by f (take (i + 1) lines)
    exact up =
        let few = before.few in
        let small : f line < 2 ^ 32 = added.few in
        let place : i ≤ (get_or lines i line).line = place_of lines i line up within in
        let same : line.line ≡ (get_or lines i line).line = ap (λ (d : Demand). d.line) is in
        let fits : sum + f line < 2 ^ 64 = omega (arith, few, small, place, same, range) in
        let whole : after ≡ sum + f line = added.exact fits in
        let so_far : sum ≡ sum_by f (take i lines) = before.exact up in
        let here : f line ≡ f (get_or lines i line) = ap f is in
        let more = sum_by_more f lines i line within in
        omega (arith, whole, so_far, here, more)

-- lists that rise and have the same elements are one
rise_alike : (xs ys : List Demand) → Pairwise (λ (a b : Demand). a.line < b.line) xs → Pairwise (λ (a b : Demand). a.line < b.line) ys
    → ((x : Demand) → IsIn x xs → IsIn x ys) → ((y : Demand) → IsIn y ys → IsIn y xs) → xs ≡ ys
rise_alike [] [] p q f g = refl
rise_alike [] (y ∷ ys) p q f g = absurd (g y (inl refl))
rise_alike (x ∷ xs) [] p q f g = absurd (f x (inl refl))
rise_alike (x ∷ xs) (y ∷ ys) p q f g = ap (λ z. z ∷ xs) first ∙ ap (λ l. y ∷ l) (rise_alike xs ys p.1 q.1 forth back)
  where
    irreflexive : (a b : Demand) → a ≡ b → a.line < b.line → ⊥
    irreflexive a b e less = let same : a.line ≡ b.line = ap (λ (d : Demand). d.line) e in omega (arith, same, less)

    first : x ≡ y
    first =
        elim (f x (inl refl)) [
          | inl e ↦ e
          | inr i ↦
              elim (g y (inl refl)) [
                | inl e ↦ sym e
                | inr j ↦ let less : y.line < x.line = q.0 x i in let more : x.line < y.line = p.0 y j in absurd (omega (arith, less, more))
              ]
        ]

    forth : (z : Demand) → IsIn z xs → IsIn z ys
    forth z i =
        elim (f z (inr i)) [
          | inl e ↦ absurd (irreflexive x z (first ∙ sym e) (p.0 z i))
          | inr j ↦ j
        ]

    back : (z : Demand) → IsIn z ys → IsIn z xs
    back z i =
        elim (g z (inr i)) [
          | inl e ↦ absurd (irreflexive y z (sym first ∙ sym e) (q.0 z i))
          | inr j ↦ j
        ]

-- ---- one answer

-- the lines of an order are one list
pub lines_alike : (content : Content) (order : List ℕ) (one other : List Demand) → AreLines content order one → AreLines content order other → one ≡ other
lines_alike content order one other a b =
    rise_alike one other (pairs_in (λ (x y : Demand). x.line < y.line) one a.rising) (pairs_in (λ (x y : Demand). x.line < y.line) other b.rising) (within one other a b) (within other one b a)
  where
    within : (xs ys : List Demand) → AreLines content order xs → AreLines content order ys → (x : Demand) → IsIn x xs → IsIn x ys
    within xs ys p q x i =
        let there = all_in (λ (row : Demand). (demand_at content row.number ≡ Some row) × (row.order ≡ order)) xs p.there x i in
        q.all x.number x there.0 there.1

row_alike : (content : Content) (order : List ℕ) (one other : OrderRow) → IsOrderRow content order one → IsOrderRow content order other → one ≡ other
row_alike content order one other a b = a.is ∙ ap (order_row content order) (lines_alike content order a.lines b.lines a.all b.all) ∙ sym b.is

rows_alike : (content : Content) (orders : List (List ℕ)) (one other : List OrderRow) → AreOrderRows content orders one → AreOrderRows content orders other → one ≡ other
rows_alike content [] [] [] a b = refl
rows_alike content [] [] (y ∷ ys) a b = absurd b
rows_alike content [] (x ∷ xs) ys a b = absurd a
rows_alike content (order ∷ orders) [] ys a b = absurd a
rows_alike content (order ∷ orders) (x ∷ xs) [] a b = absurd b
rows_alike content (order ∷ orders) (x ∷ xs) (y ∷ ys) a b =
    ap (λ z. z ∷ xs) (row_alike content order x y a.0 b.0) ∙ ap (λ l. y ∷ l) (rows_alike content orders xs ys a.1 b.1)

pub orders_alike : (content : Content) (orders : List (List ℕ)) (one other : Reply) → IsOrdersAnswer content orders one → IsOrdersAnswer content orders other → one ≡ other
orders_alike content orders one other a b =
    a.2 ∙ ap (reply.Orders (are_more orders)) (rows_alike content (first_reported orders) a.0 b.0 a.1 b.1) ∙ sym b.2

pub order_alike : (content : Content) (order : List ℕ) (there : Bool) (one other : Reply) → IsLinesAnswer content order there one → IsLinesAnswer content order there other → one ≡ other
order_alike content order false one other a b = a ∙ sym b
order_alike content order true one other a b =
    a.2 ∙ ap (λ lines. reply.Lines (map (demand_row content) lines) order) (lines_alike content order a.0 b.0 a.1 b.1) ∙ sym b.2

-- ---- one order more

pub reported_more : (content : Content) (orders : List (List ℕ)) (rows : List OrderRow) (order : List ℕ) (row : OrderRow) → AreOrderRows content orders rows → IsOrderRow content order row
    → AreOrderRows content (orders ++ order ∷ []) (rows ++ row ∷ [])
reported_more content [] [] order row all one = (one, tt)
reported_more content [] (r ∷ rows) order row all one = absurd all
reported_more content (o ∷ orders) [] order row all one = absurd all
reported_more content (o ∷ orders) (r ∷ rows) order row all one = (all.0, reported_more content orders rows order row all.1 one)
