-- The rows of the table of numbers, as they stand.
use Rattle.std.proofs.Common.{◌≡◌, ℕ, Bool, true, ◌&&◌, List, [], ◌∷◌, map, filter, Contains, All, Option, Some, None, IfSome, codes, inl, inr, refl, sym, ap, ◌∙◌, arith, IsPermutation}
use Rattle.std.proofs.lemmas.Bool.{cases_Bool}
use Rattle.std.proofs.lemmas.List.Elements.{All-cons, All-map, All-contains, Contains-append_left, Contains-append_right, Contains-push}
use Rattle.std.proofs.lemmas.List.Sorted.{Contains-permutation, IsPermutation-sym}
use Rattle.std.specs.declared.cmp.Ordering.{Ordering}
use Rattle.std.specs.declared.cmp.Ordering.TheVariants.{Less, Equal, Greater}
use Rattle.std.specs.Ordering.{is_eq}
use Rattle.sqlite_value.specs.declared.value.Value.{Value}
use Rattle.sqlite_value.specs.declared.value.Value.TheVariants.{Null, Int, Real, Text, Blob}
use Rattle.sqlite_value.specs.Order.{Row, column, value_cmp}
use Rattle.sqlite_value.proofs.OrderLemmas.{value_cmp-Text}
use Rattle.sqlite_value.proofs.KeyLemmas.{class_tied}
use Rattle.sqlite_sql.specs.Ops.{binary}
use Rattle.sqlite_tied.specs.Compute.{everything}
use Rattle.sqlite.specs.Listing.{understood}
use Rattle.sqlite.specs.Schema.{Schema}
use Rattle.sqlite.specs.State.{State, Shown}
use Rattle.sqlite.proofs.Callers.{reads_as}
use Rattle.shop_statements.specs.Found.{IsNumberRow}
use Rattle.shop_statements.specs.Earlier.{earlier_schema, second_schema, HasSomeTables}
use Rattle.shop_statements.specs.Shown.{GivesRow}
use Rattle.shop_statements.proofs.Finding.{code_same}
use Rattle.shop_statements.proofs.Keys.{and_true, equal, reported}
use Rattle.shop_statements.proofs.Selects.{selects, selected}
use Rattle.shop_statements.proofs.Terms.{Reads, from_table}
use Rattle.shop_statements.proofs.Texts.{by_one, get_meta_text, get_meta_terms, get_meta_is, shop, shop_is}

-- ---- what SQL finds equal to a text is that text

tied : (o : Ordering) → is_eq o ≡ true → o ≡ Equal
tied Less h = absurd (cc)
tied Equal h = refl
tied Greater h = absurd (cc)

tied_word : (v : Value) (t : List ℕ) → is_eq (value_cmp v (Text t)) ≡ true → v ≡ Text t
tied_word (Text s) t h = ap (λ (w : List ℕ). Text w) (code_same s t (sym (value_cmp-Text s t) ∙ tied _ h))
tied_word Null t h = absurd (omega (arith, class_tied Null (Text t) (tied _ h)))
tied_word (Int n) t h = absurd (omega (arith, class_tied (Int n) (Text t) (tied _ h)))
tied_word (Real x) t h = absurd (omega (arith, class_tied (Real x) (Text t) (tied _ h)))
tied_word (Blob b) t h = absurd (omega (arith, class_tied (Blob b) (Text t) (tied _ h)))

pub equal_word : (v : Value) (t : List ℕ) → equal v (Text t) ≡ true → v ≡ Text t
unfolding binary
equal_word Null t h = absurd (cc)
equal_word (Int n) t h = tied_word (Int n) t (sym (reported _) ∙ h)
equal_word (Real x) t h = tied_word (Real x) t (sym (reported _) ∙ h)
equal_word (Text s) t h = tied_word (Text s) t (sym (reported _) ∙ h)
equal_word (Blob b) t h = tied_word (Blob b) t (sym (reported _) ∙ h)

-- ---- what is shown stands

module _ {A B : Type 0} (f : A → B) (p : A → Bool) (stored : List A) where
  -- this is shown of an element that passes
  abbrev pub IsShownOf : B → Type 0
  IsShownOf y = (x : A) × Contains stored x × (p x ≡ true) × (f x ≡ y)

  each : (xs : List A) → ((x : A) → Contains xs x → Contains stored x) → All (λ x. IsShownOf (f x)) (filter p xs)
  each [] within = λ k d l. absurd (omega (arith, l))
  each (x ∷ xs) within =
      let later = each xs (λ y there. within y (Contains-append_right (x ∷ []) xs y there)) in
      elim (cases_Bool (p x)) [
        | inl pass ↦ let here : IsShownOf (f x) = (x, within x (Contains-append_left (x ∷ []) xs x (Contains-push [] x)), pass, refl) in rw pass (All-cons (λ y. IsShownOf (f y)) x (filter p xs) here later)
        | inr fail ↦ rw fail later
      ]

  pub shown_of : (ys : List B) (y : B) → IsPermutation (map f (filter p stored)) ys → Contains ys y → IsShownOf y
  shown_of ys y same there =
      All-contains IsShownOf (map f (filter p stored)) y (All-map IsShownOf f (filter p stored) (each stored (λ x h. h))) (Contains-permutation ys (map f (filter p stored)) y (IsPermutation-sym _ _ same) there)

-- ---- a row that the query of a number gave

pub earlier_meta_is : Reads earlier_schema get_meta_text (from_table 0 by_one get_meta_terms []) (codes "value" ∷ [])
unfolding understood everything
earlier_meta_is = record { command = refl; listing = refl; plain = (refl, refl) }

pub second_meta_is : Reads second_schema get_meta_text (from_table 0 by_one get_meta_terms []) (codes "value" ∷ [])
unfolding understood everything
second_meta_is = record { command = refl; listing = refl; plain = (refl, refl) }

-- what a query of a number shows of a row
abbrev value_of : Row → Row
value_of r = column r 2 ∷ []

number_under : (old new : State) (schema : Schema) (has : old.now.schema ≡ schema) (names : List (List ℕ)) → Reads schema get_meta_text (from_table 0 by_one get_meta_terms []) names → (word : List ℕ) (rows : List Row) (given : Row)
    → Contains rows given → Shown get_meta_text (Text word ∷ []) old new rows → IsNumberRow old word given
number_under old new schema has names is word rows given there shown =
    let a = (reads_as get_meta_text (Text word ∷ []) old new schema has _ is.command is.plain is.listing rows shown).answer in
    let all = selected 0 by_one get_meta_terms [] old.now.trees (Text word ∷ []) refl rows (selects 0 by_one get_meta_terms [] old.now.trees (Text word ∷ []) refl rows a) in
    let it = shown_of value_of (λ r. equal (column r 1) (Text word) && true) (old.now.trees 0) rows given all there in
    (it.0, it.1, equal_word (column it.0 1) word (sym (and_true _) ∙ it.2), sym it.3)

pub number_stands : (old new : State) → HasSomeTables old.now.schema → (word : List ℕ) (rows : List Row) (given : Row) → Contains rows given → Shown get_meta_text (Text word ∷ []) old new rows → IsNumberRow old word given
number_stands old new (inl h) word rows given there shown = number_under old new (shop old.now.schema h) (shop_is old.now.schema h) _ (get_meta_is old.now.schema h) word rows given there shown
number_stands old new (inr (inl h)) word rows given there shown = number_under old new second_schema h _ second_meta_is word rows given there shown
number_stands old new (inr (inr h)) word rows given there shown = number_under old new earlier_schema h _ earlier_meta_is word rows given there shown

abbrev alone : Value → Row
alone v = v ∷ []

-- the row's value is this
pub number_read : (s : State) (word : List ℕ) (row : Row) (value : Value) → IsNumberRow s word row → column row 0 ≡ value → IsNumberRow s word (value ∷ [])
number_read s word row value it is = (it.0, it.1, it.2, ap alone (sym is ∙ ap (λ (r : Row). column r 0) it.3))

pub given_stands : (old new : State) → HasSomeTables old.now.schema → (word : List ℕ) (row : Option Row) → GivesRow get_meta_text (Text word ∷ []) old new row → IfSome row (IsNumberRow old word)
given_stands old new which word None it = tt
given_stands old new which word (Some given) it = number_stands old new which word it.rows given it.among it.shown
