-- Writings, one after another.
use Rattle.std.proofs.Common.{◌≡◌, ◌≢◌, ℕ, List, [], ◌∷◌, ◌++◌, Option, length, take, drop, get_or, refl, sym, ap, Some, None, Ok, Result, OnOk, ◌∙◌, subst, arith}
use Rattle.std.specs.Result.{IsErr}
use Rattle.std.proofs.lemmas.List.{take-append-drop}
use Rattle.std.proofs.lemmas.Result.{IfOk-from_err}
use Rattle.sqlite.specs.State.{State}
use Rattle.shop_statements.specs.declared.faults.TableFault.{TableFault}
use Rattle.shop_statements.specs.Beside.{IsNone, Spares}
use Rattle.shop_statements.specs.Layout.{our_trees}
use Rattle.shop_statements.specs.Shown.{Books, Makes, Ran, Shows, Within}
use Rattle.shop_statements.proofs.Beside.{spares_itself, spares_more, spares_then}
use Rattle.shop_statements.proofs.Steps.{on_ok_then, on_ok_both, went_as, went_nowhere, went_then, makes_then, within_itself, within_then}
use Rattle.shop_tables.specs.Changing.{AreInTurn, Writes, with_all, with_some}

-- one of our trees is among them all
pub of_ours : (a b : State) (r : Result (Unit {0}) TableFault) (own : ℕ) → ((t : ℕ) → IsNone our_trees t → own ≢ t) → OnOk r (Spares (own ∷ []) a b) → OnOk r (Spares our_trees a b)
of_ours a b r own far = spares_more r (own ∷ []) our_trees a b (λ t none. (far t none, tt))

module _ {a b : State} {r : Result (Unit {0}) TableFault} {Needs : Books → Type 0} {makes : Books → Books} where
  -- a statement
  pub ran_writes : OnOk r (Ran a b) → ((x : Books) → Needs x → OnOk r (Makes a b x (makes x))) → OnOk r (Spares our_trees a b) → Within a b → Writes a b r Needs makes
  ran_writes ran put others within = record { went = on_ok_then r (went_as a b) ran; put = put; others = others; within = within }

  -- less is needed, or the books are said in other words
  pub writes_so : {Others : Books → Type 0} {others : Books → Books} → ((x : Books) → Others x → Needs x) → ((x : Books) → makes x ≡ others x) → Writes a b r Needs makes → Writes a b r Others others
  writes_so needs same w = record { went = w.went; put = λ x has. subst (λ y. OnOk r (Makes a b x y)) (same x) (w.put x (needs x has)); others = w.others; within = w.within }

  -- it fails
  pub stops : IsErr r → Within a b → Writes a b r Needs makes
  stops failed within = record { went = IfOk-from_err r _ failed; put = λ x needs. IfOk-from_err r _ failed; others = IfOk-from_err r _ failed; within = within }

-- no statement
pub writes_nothing : {a : State} {Needs : Books → Type 0} {makes : Books → Books} → ((x : Books) → makes x ≡ x) → Writes a a (Ok tt) Needs makes
writes_nothing {a} same = record { went = went_nowhere a; put = λ x needs clean inside has. subst (Shows a) (sym (same x)) has; others = spares_itself our_trees a; within = within_itself a }

-- two writings
pub writes_then : {a b c : State} {r : Result (Unit {0}) TableFault} {N M : Books → Type 0} {m n : Books → Books} → Writes a b (Ok tt) N m → Writes b c r M n → Writes a c r (λ x. N x × M (m x)) (λ x. n (m x))
writes_then {a} {b} {c} {r} {N} {M} {m} {n} one two = record {
  went = on_ok_then r (went_then a b c one.went) two.went;
  put = λ x needs. on_ok_both r two.went (two.put (m x) needs.1) (λ more makes. makes_then a b c x (m x) (n (m x)) one.went more (one.put x needs.0) makes);
  others = on_ok_both r two.went two.others (λ more spares. spares_then our_trees a b c one.went more one.others spares);
  within = within_then a b c one.within two.within;
}

-- ---- a row that may be there

module _ {X : Type 0} {with_one : X → Books → Books} (with_option : Option X → Books → Books) (none : (x : Books) → x ≡ with_option None x) (some : (row : X) (x : Books) → with_one row x ≡ with_option (Some row) x) where
  option_is : (o : Option X) (x : Books) → with_some with_one o x ≡ with_option o x
  option_is None x = none x
  option_is (Some row) x = some row x

  pub of_some : {a b : State} {r : Result (Unit {0}) TableFault} {Needs : Books → Type 0} (o : Option X) → Writes a b r Needs (with_some with_one o) → Writes a b r Needs (with_option o)
  of_some o w = writes_so (λ x needs. needs) (option_is o) w

-- ---- rows

module _ {X : Type 0} {with_one : X → Books → Books} (with_list : List X → Books → Books) (none : (x : Books) → x ≡ with_list [] x) (more : (row : X) (rows : List X) (x : Books) → with_list rows (with_one row x) ≡ with_list (row ∷ rows) x) where
  list_is : (rows : List X) (x : Books) → with_all with_one rows x ≡ with_list rows x
  list_is [] x = none x
  list_is (row ∷ rows) x = list_is rows (with_one row x) ∙ more row rows x

  pub of_all : {a b : State} {r : Result (Unit {0}) TableFault} {Needs : Books → Type 0} (rows : List X) → Writes a b r Needs (with_all with_one rows) → Writes a b r Needs (with_list rows)
  of_all rows w = writes_so (λ x needs. needs) (list_is rows) w

module _ {X : Type 0} (Needs : X → Books → Type 0) (with_one : X → Books → Books) where
  with_both : (xs ys : List X) (b : Books) → with_all with_one ys (with_all with_one xs b) ≡ with_all with_one (xs ++ ys) b
  with_both [] ys b = refl
  with_both (x ∷ xs) ys b = with_both xs ys (with_one x b)

  each_in_turn : (xs ys : List X) (b : Books) → AreInTurn Needs with_one (xs ++ ys) b → AreInTurn Needs with_one xs b × AreInTurn Needs with_one ys (with_all with_one xs b)
  each_in_turn [] ys b both = (tt, both)
  each_in_turn (x ∷ xs) ys b both = let more = each_in_turn xs ys (with_one x b) both.1 in ((both.0, more.0), more.1)

  pub none_written : {a : State} (rows : List X) → length rows ≡ 0 → Writes a a (Ok tt) (AreInTurn Needs with_one rows) (with_all with_one rows)
  none_written [] none = writes_nothing (λ b. refl)
  none_written (x ∷ rows) none = absurd (omega (arith, none))

  pub one_written : {a b : State} {r : Result (Unit {0}) TableFault} (rows : List X) (row : X) → length rows ≡ 1 → row ≡ get_or rows 0 row → Writes a b r (Needs row) (with_one row) → Writes a b r (AreInTurn Needs with_one rows) (with_all with_one rows)
  one_written [] row one is w = absurd (omega (arith, one))
  one_written {a} {b} {r} (x ∷ []) row one is w = writes_so (λ y needs. needs.0) (λ y. refl) (subst (λ (z : X). Writes a b r (Needs z) (with_one z)) is w)
  one_written (x ∷ y ∷ rows) row one is w = absurd (omega (arith, one))

  pub both_written : {a b c : State} {r : Result (Unit {0}) TableFault} (n : ℕ) (rows first others : List X) → first ≡ take n rows → others ≡ drop n rows → Writes a b (Ok tt) (AreInTurn Needs with_one first) (with_all with_one first)
      → Writes b c r (AreInTurn Needs with_one others) (with_all with_one others) → Writes a c r (AreInTurn Needs with_one rows) (with_all with_one rows)
  both_written {a} {b} {c} {r} n rows first others front back one two =
      subst (λ (ws : List X). Writes a c r (AreInTurn Needs with_one ws) (with_all with_one ws)) (ap (λ l. l ++ others) front ∙ ap (λ l. take n rows ++ l) back ∙ take-append-drop n rows)
      (writes_so (each_in_turn first others) (with_both first others) (writes_then one two))
