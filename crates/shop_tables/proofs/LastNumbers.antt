-- The greatest number under which a message of a terminal is kept.
use Rattle.std.proofs.Common.{◌≡◌, ◌⊎◌, ◌≤◌, ◌&&◌, ◌==◌, ℕ, pos, Bool, true, false, cond, List, [], ◌∷◌, drop, filter, Option, Some, None, IsSome, is_some, inl, inr, refl, sym, ap, subst, ◌∙◌, arith}
use Rattle.std.specs.List.{AllByRecursion}
use Rattle.std.specs.Ordering.{eq_by_cmp}
use Rattle.std.specs.FinMap.{entries, get}
use Rattle.std.specs.Option.{option_to_list}
use Rattle.sqlite_value.specs.declared.value.Value.TheVariants.{Int}
use Rattle.sqlite_value.specs.Order.{Row, column}
use Rattle.sqlite_trees.proofs.ListLemmas.{all-filter}
use Rattle.sqlite.specs.Query.{Output}
use Rattle.sqlite.specs.State.{State, Shown}
use Rattle.sqlite.specs.Term.{lit}
use Rattle.sqlite.proofs.Callers.{reads_as}
use Rattle.shop_records.specs.Content.{Content, kept_at}
use Rattle.shop_records.specs.Lists.{IsLastNumber}
use Rattle.shop_records.specs.declared.texts.Kept.{Kept}
use Rattle.shop_records.specs.declared.texts.MessageId.{MessageId}
use Rattle.shop_tables.specs.ListedRows.{IsLastRow, number_row}
use Rattle.shop_statements.specs.Rows.{kept_row}
use Rattle.shop_statements.specs.Shown.{Books, Shows}
use Rattle.shop_tables.proofs.Falling.{IsTop, falling_first}
use Rattle.shop_statements.proofs.Finding.{is_number, message_id_same, message_id_total}
use Rattle.shop_tables.proofs.Firsts.{each_entry, first_answer}
use Rattle.shop_statements.proofs.Keys.{and_true, equal, equal-Int, same_number}
use Rattle.shop_tables.proofs.ListTexts.{falling, last_number_is, last_number_terms, last_number_tests, last_number_text}
use Rattle.shop_statements.proofs.Maps.{entry_at_is, listed}
use Rattle.shop_statements.proofs.Texts.{shop, shop_is}

abbrev pub Message : Type 0
Message = MessageId × Kept

abbrev number_of : Message → ℕ
number_of e = e.0.number

abbrev number_shown : Message → Row
number_shown e = number_row e.0.number

-- a message of this terminal
abbrev is_of : ℕ → Message → Bool
is_of terminal e = e.0.terminal == terminal

later : (terminal : ℕ) (r : Row) → (equal (column r 1) (Int (pos terminal)) && true) ≡ is_number terminal (drop 1 r)
later terminal [] = refl
later terminal (x ∷ d) = refl

passes : (terminal : ℕ) (e : Message) → is_number terminal (kept_row e) ≡ is_of terminal e
passes terminal e = and_true _ ∙ equal-Int e.0.terminal terminal ∙ same_number e.0.terminal terminal

shown_later : (r : Row) → ◌≡◌ {A = Output} (column r 2 ∷ [], column r 2 ∷ []) (column (drop 1 r) 1 ∷ [], column (drop 1 r) 1 ∷ [])
shown_later [] = refl
shown_later (x ∷ d) = refl

module _ (m : Content) (terminal : ℕ) where
  -- the terminal's messages
  abbrev mine : List Message
  mine = filter (is_of terminal) (entries m.kept)

  abbrev IsKept : Message → Type 0
  IsKept e = IsSome (kept_at m (record { terminal = terminal; number = e.0.number }))

  from_filter : (P : Message → Type 0) (es : List Message) → AllByRecursion P (filter (is_of terminal) es) → AllByRecursion (λ e. is_of terminal e ≡ true → P e) es
  from_filter P [] h = tt
  from_filter P (e ∷ es) h =
      elim (is_of terminal e) as (λ x. AllByRecursion P (cond x (e ∷ filter (is_of terminal) es) (filter (is_of terminal) es)) → (x ≡ true → P e) × AllByRecursion (λ f. is_of terminal f ≡ true → P f) es)
      [ true ↦ λ all. (λ _. all.0, from_filter P es all.1) | false ↦ λ all. (λ no. absurd (cc), from_filter P es all) ] h

  to_filter : (P : Message → Type 0) (es : List Message) → AllByRecursion (λ e. is_of terminal e ≡ true → P e) es → AllByRecursion P (filter (is_of terminal) es)
  to_filter P [] h = tt
  to_filter P (e ∷ es) h =
      elim (is_of terminal e) as (λ x. (x ≡ true → P e) → AllByRecursion P (cond x (e ∷ filter (is_of terminal) es) (filter (is_of terminal) es)))
      [ true ↦ λ here. (here refl, to_filter P es h.1) | false ↦ λ here. to_filter P es h.1 ] h.0

  same_terminal : (n : ℕ) → (n == terminal) ≡ true → n ≡ terminal
  same_terminal n h = grind (arith)

  -- each of them is found
  all_kept : AllByRecursion IsKept mine
  all_kept =
      to_filter IsKept (entries m.kept)
      (each_entry message_id_total message_id_same m.kept (λ e. is_of terminal e ≡ true → IsKept e)
      (λ k x found is. ap is_some (subst (λ (t : ℕ). get m.kept (record { terminal = t; number = k.number }) ≡ Some x) (same_terminal k.terminal is) found)))

  -- what holds of each of them holds of each that is found
  of_found : (P : Message → Type 0) → AllByRecursion P mine → (number : ℕ) (x : Kept) → kept_at m (record { terminal = terminal; number = number }) ≡ Some x → P (record { terminal = terminal; number = number }, x)
  of_found P all number x found =
      let k : MessageId = record { terminal = terminal; number = number } in
      let there = all-filter (λ e. is_of terminal e ≡ true → P e) (λ (e : Message). eq_by_cmp Rattle.shop_records.specs.Content.message_id_cmp e.0 k) (entries m.kept) (from_filter P (entries m.kept) all) in
      (subst (AllByRecursion (λ e. is_of terminal e ≡ true → P e)) (entry_at_is Kept message_id_total message_id_same m.kept k ∙ ap (listed Kept message_id_total message_id_same k) found) there).0 (itself terminal)
    where
      itself : (n : ℕ) → (n == n) ≡ true
      itself n = grind (arith)

  last_is : (last : ℕ) → (last ≡ 0 ⊎ IsSome (kept_at m (record { terminal = terminal; number = last }))) → AllByRecursion (λ e. e.0.number ≤ last) mine → IsLastNumber m terminal last
  last_is last kept all = record { greatest = λ number there. greatest number (kept_at m (record { terminal = terminal; number = number })) refl there; kept = kept }
    where
      greatest : (number : ℕ) (found : Option Kept) → kept_at m (record { terminal = terminal; number = number }) ≡ found → IsSome found → number ≤ last
      greatest number None is there = absurd (cc)
      greatest number (Some x) is there = of_found (λ e. e.0.number ≤ last) all number x is

  -- the row of the greatest one
  pub last_row_is : (rows : List Row) → IsTop number_of number_shown IsKept mine rows → (row : Option Row) → ((o : Option Row) → rows ≡ option_to_list o → row ≡ o) → IsLastRow m terminal row
  last_row_is rows (inl none) row only =
      subst (IsLastRow m terminal) (sym (only None none.1)) (last_is 0 (inl refl) (subst (AllByRecursion (λ e. e.0.number ≤ 0)) (sym none.0) tt))
  last_row_is rows (inr top) row only =
      subst (IsLastRow m terminal) (sym (only (Some (number_shown top.0)) top.1)) (top.0.0.number, refl, last_is top.0.0.number (inr (top.2 all_kept)) top.3)

pub finds_last : (old new : State) (b : Books) → Shows old b → (terminal : ℕ) (rows : List Row) → Shown last_number_text (Int (pos terminal) ∷ []) old new rows → (row : Option Row) → ((o : Option Row) → rows ≡ option_to_list o → row ≡ o)
    → IsLastRow b.content terminal row
finds_last old new b has terminal rows shown row only =
    let is = last_number_is old.now.schema has.schema in
    let params = Int (pos terminal) ∷ [] in
    let a = (reads_as last_number_text params old new (shop old.now.schema has.schema) (shop_is old.now.schema has.schema) _ is.command is.plain is.listing rows shown).answer in
    let whole = first_answer 11 last_number_tests last_number_terms (falling 2) (lit (Int (pos 1))) old.now.trees params rows a in
    let top = falling_first number_of number_shown (IsKept b.content terminal) 11 2 last_number_tests last_number_terms old.now.trees params refl 1 kept_row (is_of terminal) (is_number terminal) (later terminal) (passes terminal)
    (λ d. (column d 1 ∷ [], column d 1 ∷ [])) shown_later (λ e. refl) whole.0 (entries b.content.kept) has.stands.kept whole.1 in
    last_row_is b.content terminal rows (subst (IsTop number_of number_shown (IsKept b.content terminal) (mine b.content terminal)) (sym whole.2) top) row only
