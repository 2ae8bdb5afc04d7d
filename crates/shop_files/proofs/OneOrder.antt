-- A text has one list of records, and spells one list of order lines at most.
use Rattle.std.proofs.Common.{◌≡◌, ◌<◌, ◌+◌, ℕ, zero, suc, List, [], ◌∷◌, ◌++◌, length, get_or, drop, Bool, true, false, refl, ap, sym, ◌∙◌, subst, inl, inr, arith, length-append, append_assoc}
use Rattle.std.specs.Prelude.{Option, Some, None, Result, Ok, Err, IfOk, IfErr, MatchResult, unwrap_or}
use Rattle.std.proofs.lemmas.Option.{none-some}
use Rattle.cut_measure.proofs.LengthTexts.{one_length}
use Rattle.csv.specs.Machine.{Read, next_record}
use Rattle.csv.specs.Reading.{Reached, AreRecords}
use Rattle.csv.specs.declared.parser.Config.{Config}
use Rattle.csv.specs.declared.parser.State.{State}
use Rattle.shop_files.specs.declared.orders.OrderLine.{OrderLine}
use Rattle.shop_files.specs.declared.orders.OrdersFault.{OrdersFault}
use Rattle.shop_files.specs.declared.orders.OrdersFault.TheVariants.{At, NoMemory}
use Rattle.shop_files.specs.Orders.{Fields, FieldSays, SaysFrom, IsLineRecord, IsBadLine, IsBadHeader, AllRecords, AreLineRecords, IsOrders, IsOrdersFault, HasOrdersFault, header, turn_word, IsShortNumber}

none-of : {A : Type 0} {o : Option A} {x : A} → o ≡ None → o ≡ Some x → ⊥
none-of {A} {o} {x} p q = none-some x (sym p ∙ q)

pub one_of : {o : Option Read} (p q : Read) → o ≡ Some p → o ≡ Some q → p ≡ q
one_of p q a b = ap (λ r. unwrap_or r p) (sym a ∙ b)

pub first_rows : (cfg : Config) (s : State) (xs : List ℕ) (prefix rows : List Fields) (s1 : State) (y1 : List ℕ) → Reached cfg s xs prefix s1 y1 → AreRecords cfg s xs rows → (more : List Fields) × (rows ≡ prefix ++ more)
unfolding Reached
first_rows cfg s xs [] rows s1 y1 h all = (rows, refl)
first_rows cfg s xs (r ∷ prefix) [] s1 y1 h all =
    absurd (none-of (ap (λ a. next_record cfg a [] [] xs) all.2.0 ∙ ap (next_record cfg all.0 [] []) all.2.1 ∙ all.3) h.1)
first_rows cfg s xs (r ∷ prefix) (q ∷ rows) s1 y1 h all =
    let same = one_of h.0 all.2.0 h.1 all.2.1 in
    let rest = first_rows cfg h.0.1 h.0.2 prefix rows s1 y1 h.3
    (all.0, all.1, subst (λ (p : Read). Reached cfg p.1 p.2 rows all.0 all.1) (sym same) all.2.3, all.3) in
    let first : q ≡ r = all.2.2 ∙ ap (λ (p : Read). p.0) (sym same) ∙ sym h.2 in
    (rest.0, λ i. first i ∷ rest.1 i)

same_rows : (text : List ℕ) (rows others : List Fields) → AllRecords text rows → AllRecords text others → rows ≡ others
same_rows text rows others a b =
    let p = first_rows _ _ _ rows others a.0 a.1 a.2 b in
    let q = first_rows _ _ _ others rows b.0 b.1 b.2 a in
    let short : length p.0 ≡ 0 = omega (arith, ap length p.1, ap length q.1, length-append rows p.0, length-append others q.0) in
    sym (p.1 ∙ no_more rows p.0 short) where
      no_more : (xs more : List Fields) → length more ≡ 0 → xs ++ more ≡ xs
      no_more [] [] e = refl
      no_more [] (m ∷ more) e = absurd (omega (arith, e))
      no_more (x ∷ xs) more e = ap (λ l. x ∷ l) (no_more xs more e)

says_length : (line : OrderLine) (i : ℕ) (fields : Fields) → SaysFrom line i fields → i + length fields ≡ 7
says_length line i [] h = omega (arith, h)
says_length line i (f ∷ fs) h = omega (arith, says_length line (suc i) fs h.1)

says_at : (line : OrderLine) (i : ℕ) (fields : Fields) → SaysFrom line i fields → (j : ℕ) → j < length fields → FieldSays line (i + j) (get_or fields j [])
says_at line i [] h j l = absurd (omega arith)
says_at line i (f ∷ fs) h zero l = let e : i ≡ i + 0 = omega arith in subst (λ n. FieldSays line n f) e h.0
says_at line i (f ∷ fs) h (suc j) l = let e : suc i + j ≡ i + suc j = omega arith in subst (λ n. FieldSays line n (get_or fs j [])) e (says_at line (suc i) fs h.1 j (omega arith))

same_number : (f : List ℕ) (m n : ℕ) → IsShortNumber f m → IsShortNumber f n → m ≡ n
same_number f m n a b = a.3 ∙ sym b.3

same_turn : (a b : Bool) → turn_word a ≡ turn_word b → a ≡ b
same_turn true true e = refl
same_turn true false e = absurd (omega (arith, ap length e))
same_turn false true e = absurd (omega (arith, ap length e))
same_turn false false e = refl

same_line : (fields : Fields) (a b : OrderLine) → IsLineRecord fields a → IsLineRecord fields b → a ≡ b
same_line fields a b h k =
    let seven : length fields ≡ 7 = omega (arith, says_length a 0 fields h) in
    let p = says_at a 0 fields h in
    let q = says_at b 0 fields k in
    let line = same_number _ a.line b.line (p 0 (omega (arith, seven))) (q 0 (omega (arith, seven))) in
    let material : a.material ≡ b.material = ap (λ o. unwrap_or o a.material) (sym (p 1 (omega (arith, seven))) ∙ q 1 (omega (arith, seven))) in
    let w = one_length _ a.w b.w (p 2 (omega (arith, seven))) (q 2 (omega (arith, seven))) in
    let h = one_length _ a.h b.h (p 3 (omega (arith, seven))) (q 3 (omega (arith, seven))) in
    let turn = same_turn a.turn b.turn (sym (p 4 (omega (arith, seven))) ∙ q 4 (omega (arith, seven))) in
    let count = same_number _ a.count b.count (p 5 (omega (arith, seven))) (q 5 (omega (arith, seven))) in
    let worth = same_number _ a.worth b.worth (p 6 (omega (arith, seven))) (q 6 (omega (arith, seven))) in
    λ i. record { line = line i; material = material i; w = w i; h = h i; turn = turn i; count = count i; worth = worth i }

same_lines : (rows : List Fields) (xs ys : List OrderLine) → AreLineRecords rows xs → AreLineRecords rows ys → xs ≡ ys
same_lines [] [] [] h k = refl
same_lines [] [] (y ∷ ys) h k = absurd k
same_lines [] (x ∷ xs) ys h k = absurd h
same_lines (r ∷ rows) [] ys h k = absurd h
same_lines (r ∷ rows) (x ∷ xs) [] h k = absurd k
same_lines (r ∷ rows) (x ∷ xs) (y ∷ ys) h k =
    let first = same_line r x y h.0 k.0 in
    let rest = same_lines rows xs ys h.1 k.1 in
    λ i. first i ∷ rest i

rows_tail : {r q : Fields} {xs ys : List Fields} → r ∷ xs ≡ q ∷ ys → xs ≡ ys
rows_tail e = ap (drop 1) e

pub one_order : (text : List ℕ) (xs ys : List OrderLine) → IsOrders text xs → IsOrders text ys → xs ≡ ys
one_order text xs ys a b =
    let e = rows_tail (same_rows text (header ∷ a.rows) (header ∷ b.rows) a.records b.records) in
    same_lines b.rows xs ys (subst (λ rows. AreLineRecords rows xs) e a.are_lines) b.are_lines

-- of rows that are lines, each one is a line
line_after : (prefix : List Fields) (fields : Fields) (more : List Fields) (lines : List OrderLine) → AreLineRecords (prefix ++ fields ∷ more) lines → (line : OrderLine) × IsLineRecord fields line
line_after [] fields more [] h = absurd h
line_after [] fields more (line ∷ lines) h = (line, h.0)
line_after (f ∷ prefix) fields more [] h = absurd h
line_after (f ∷ prefix) fields more (line ∷ lines) h = line_after prefix fields more lines h.1

pub line_not_bad : (fields : Fields) (line : OrderLine) → IsLineRecord fields line → (i : ℕ) → IsBadLine fields i → ⊥
line_not_bad fields line is i bad =
    elim bad [
      | inl h ↦ h.0 (let e = says_length line 0 fields is in omega (arith, e))
      | inr h ↦
          let says = says_at line 0 fields is i (omega (arith, h.0, h.1)) in
          let same : 0 + i ≡ i = omega arith in
          h.2 line (subst (λ n. FieldSays line n (get_or fields i [])) same says)
    ]

pub header_not_bad : (i : ℕ) → IsBadHeader header i → ⊥
header_not_bad i bad = elim bad [ inl h ↦ h.0 refl | inr h ↦ h.2 refl ]

no_rows : {r : Fields} {xs : List Fields} → [] ≡ r ∷ xs → ⊥
no_rows e = omega (arith, ap length e)

rows_head : {r q : Fields} {xs ys : List Fields} → r ∷ xs ≡ q ∷ ys → r ≡ q
rows_head {r} e = ap (λ l. get_or l 0 r) e

pub no_orders_fault : (text : List ℕ) (lines : List OrderLine) → IsOrders text lines → (row field : ℕ) → IsOrdersFault text row field → ⊥
no_orders_fault text lines is row field fault =
    elim fault [
      | inl head ↦
          elim head.1 [
            | inl long ↦ omega (arith, long.0, is.short)
            | inr rest ↦
                elim rest [
                  | inl none ↦ no_rows (same_rows text [] (header ∷ is.rows) none.1 is.records)
                  | inr first ↦
                      let p = first_rows _ _ _ (first.1.0 ∷ []) (header ∷ is.rows) first.1.1.0 first.1.1.1 first.1.1.2 is.records in
                      let same : first.1.0 ≡ header = sym (rows_head p.1) in
                      header_not_bad field (subst (λ (f : Fields). IsBadHeader f field) same first.1.2)
                ]
          ]
      | inr line ↦
          let f = line.2 in
          let p = first_rows _ _ _ (header ∷ f.rows ++ f.fields ∷ []) (header ∷ is.rows) f.records.0 f.records.1 f.records.2 is.records in
          let rows : is.rows ≡ f.rows ++ f.fields ∷ p.0 = rows_tail p.1 ∙ append_assoc f.rows (f.fields ∷ []) p.0 in
          elim f.bad [
            | inl b ↦
                let l = line_after f.rows f.fields p.0 lines (subst (λ r. AreLineRecords r lines) rows is.are_lines) in
                line_not_bad f.fields l.0 l.1 field b.1
            | inr b ↦ omega (arith, ap length rows, length-append f.rows (f.fields ∷ p.0), f.number, b.0, is.few)
          ]
    ]

pub only_orders : (text : List ℕ) (r : Result (List OrderLine) OrdersFault) → IfOk r (λ l. IsOrders text l) → IfErr r (λ f. HasOrdersFault text f)
    → (lines : List OrderLine) → IsOrders text lines → MatchResult r (λ l. l ≡ lines) (λ f. f ≡ NoMemory)
only_orders text (Ok l) ok err lines is = one_order text l lines ok is
only_orders text (Err (At row field)) ok err lines is = absurd (no_orders_fault text lines is row field err)
only_orders text (Err NoMemory) ok err lines is = refl
