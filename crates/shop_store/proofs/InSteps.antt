-- Entries that are looked for some at a time.
use Rattle.std.proofs.Common.{◌≡◌, ◌-◌, ◌<◌, ◌≤◌, ℕ, zero, suc, inl, inr, Bool, true, false, cond, None, List, [], ◌∷◌, ◌++◌, length, filter, take, drop, Some, refl, sym, ap, ◌∙◌, arith}
use Rattle.std.specs.Prelude.{nat_lt}
use Rattle.std.specs.FinMap.{values}
use Rattle.std.specs.List.{slice_get}
use Rattle.std.proofs.lemmas.Bool.{lt-ltb, ltb-true}
use Rattle.std.proofs.lemmas.List.{append_assoc, append-nil, length-append, take-append-drop}
use Rattle.std.proofs.lemmas.List.Elements.{filter-append}
use Rattle.shop_records.specs.Content.{Content}
use Rattle.shop_records.specs.Elements.{IsIn}
use Rattle.shop_records.specs.Lists.{entries_about, entries_behind, is_about}
use Rattle.shop_records.specs.declared.journal.Entry.{Entry}
use Rattle.shop_records.specs.declared.journal.Subject.{Subject}
use Rattle.shop_records.specs.declared.journal.Subject.TheVariants as subject
use Rattle.shop_rows.proofs.ByLine.{in_filter}
use Rattle.shop_book.specs.FiledEntries.{HasKey, SkipsNone}
use Rattle.shop_book.specs.Ledgers.{bare}
use Rattle.shop_book.specs.Storages.{IsRead}

module _ {X : Type 0} where
  take_more : (n : ℕ) (xs ys : List X) → take n (take n xs ++ ys) ≡ take n (xs ++ ys)
  take_more zero [] ys = refl
  take_more zero (x ∷ xs) ys = refl
  take_more (suc n) [] ys = refl
  take_more (suc n) (x ∷ xs) ys = ap (λ l. x ∷ l) (take_more n xs ys)

  pub take_full : (n : ℕ) (xs ys : List X) → n ≡ length xs → take n (xs ++ ys) ≡ xs
  take_full zero [] [] e = refl
  take_full zero [] (y ∷ ys) e = refl
  take_full zero (x ∷ xs) ys e = absurd (omega (arith, e))
  take_full (suc n) [] ys e = absurd (omega (arith, e))
  take_full (suc n) (x ∷ xs) ys e = ap (λ l. x ∷ l) (take_full n xs ys (omega (arith, e)))

  take_whole : (n : ℕ) (xs : List X) → length xs ≤ n → take n xs ≡ xs
  take_whole zero [] few = refl
  take_whole zero (x ∷ xs) few = absurd (omega (arith, few))
  take_whole (suc n) [] few = refl
  take_whole (suc n) (x ∷ xs) few = ap (λ l. x ∷ l) (take_whole n xs (omega (arith, few)))

  pub take_few : (n : ℕ) (xs : List X) → length (take n xs) ≤ n
  take_few zero [] = omega arith
  take_few zero (x ∷ xs) = omega arith
  take_few (suc n) [] = omega arith
  take_few (suc n) (x ∷ xs) = let e = take_few n xs in omega (arith, e)

  pub take_first : (n : ℕ) (xs : List X) → take (length (take n xs)) xs ≡ take n xs
  take_first zero [] = refl
  take_first zero (x ∷ xs) = refl
  take_first (suc n) [] = refl
  take_first (suc n) (x ∷ xs) = ap (λ l. x ∷ l) (take_first n xs)

  pub none_of : (n : ℕ) (xs : List X) → 0 < n → take n xs ≡ [] → xs ≡ []
  none_of n [] some is = refl
  none_of zero (x ∷ xs) some is = absurd (omega (arith, some))
  none_of (suc n) (x ∷ xs) some is = absurd (cc)

  from_end : (x : X) (xs : List X) → (before : List X) × (last : X) × (x ∷ xs ≡ before ++ last ∷ [])
  from_end x [] = ([], x, refl)
  from_end x (y ∷ xs) = let s = from_end y xs in (x ∷ s.0, s.1, ap (λ l. x ∷ l) s.2)

  at_place : (xs : List X) (x : X) → slice_get (xs ++ x ∷ []) (length xs) ≡ Some x
  at_place [] x = refl
  at_place (y ∷ xs) x = at_place xs x

  at_end : (xs : List X) (x : X) → slice_get (xs ++ x ∷ []) (length (xs ++ x ∷ []) - 1) ≡ Some x
  at_end xs x = ap (slice_get (xs ++ x ∷ [])) (let e = length-append xs (x ∷ []) in omega (arith, e)) ∙ at_place xs x

  -- what comes before the last one
  pub before_last : (xs : List X) (x : X) → slice_get xs (length xs - 1) ≡ Some x → (before : List X) × (xs ≡ before ++ x ∷ [])
  before_last [] x is = absurd (cc)
  before_last (y ∷ xs) x is =
      let s = from_end y xs in
      let found : Some s.1 ≡ Some x = sym (at_end s.0 s.1) ∙ ap (λ l. slice_get l (length l - 1)) (sym s.2) ∙ is in
      let same : s.1 ≡ x = cc in
      (s.0, s.2 ∙ ap (λ z. s.0 ++ z ∷ []) same)

-- ---- a story

-- entries are about a subject whatever texts and entries there are
bare_about : (m : Content) (about : Subject) → is_about (bare m) about ≡ is_about m about
bare_about m (subject.Order code) = refl
bare_about m (subject.Job number) = refl
bare_about m (subject.Part name) = refl

module _ (m : Content) (about : Subject) (most : ℕ) (old : List Entry) (at : ℕ) where
  -- enough were found before
  pub full_step : (most ≤ length old) → (length old ≤ most) → take most (old ++ entries_about m about at) ≡ old
  full_step full few = take_full most old (entries_about m about at) (omega (arith, full, few))

  -- there are no others
  pub last_step : (count : ℕ) → 0 < count → (chunk : List Entry) → chunk ≡ take count (entries_behind m at) → chunk ≡ [] → length old ≤ most → take most (old ++ entries_about m about at) ≡ old
  last_step count some chunk are none few =
      let ended = none_of count (entries_behind m at) some (sym are ∙ none) in
      ap (λ rows. take most (old ++ filter (is_about m about) rows)) ended ∙ ap (take most) (append-nil old) ∙ take_whole most old few

  -- there are none
  pub none_step : entries_about m about at ≡ [] → length old ≤ most → take most (old ++ entries_about m about at) ≡ old
  none_step none few = ap (λ l. take most (old ++ l)) none ∙ ap (take most) (append-nil old) ∙ take_whole most old few

  pub next_step : (held : Content) → held ≡ bare m → (count : ℕ) (chunk : List Entry) → chunk ≡ take count (entries_behind m at) → (next : ℕ) → entries_behind m next ≡ drop (length chunk) (entries_behind m at)
      → (new : List Entry) → new ≡ take most (old ++ filter (is_about held about) chunk) → take most (old ++ entries_about m about at) ≡ take most (new ++ entries_about m about next)
  next_step held is count chunk are next behind new pushed =
      let all = entries_behind m at in
      let p = is_about m about in
      let firsts : take (length chunk) all ≡ chunk = ap (λ c. take (length c) all) are ∙ take_first count all ∙ sym are in
      let split : all ≡ chunk ++ entries_behind m next = sym (take-append-drop (length chunk) all) ∙ ap (λ l. l ++ drop (length chunk) all) firsts ∙ ap (λ l. chunk ++ l) (sym behind) in
      let about_both : filter p all ≡ filter p chunk ++ filter p (entries_behind m next) = ap (filter p) split ∙ filter-append p chunk (entries_behind m next) in
      let same : is_about held about ≡ p = ap (λ c. is_about c about) is ∙ bare_about m about in
      ap (λ l. take most (old ++ l)) about_both ∙ ap (take most) (sym (append_assoc old (filter p chunk) (filter p (entries_behind m next))))
      ∙ sym (take_more most (old ++ filter p chunk) (filter p (entries_behind m next)))
      ∙ ap (λ l. take most (l ++ filter p (entries_behind m next))) (sym (pushed ∙ ap (λ q. take most (old ++ filter q chunk)) same))

-- ---- entries that are skipped

module _ {X : Type 0} (p : X → Bool) where
  dropped : (x : X) (b : Bool) (ys : List X) → p x ≡ false → filter p (cond b (x ∷ ys) ys) ≡ filter p ys
  dropped x true ys e = ap (λ c. cond c (x ∷ filter p ys) (filter p ys)) e
  dropped x false ys e = refl

  -- tests that agree on what passes
  same_filtered : (q r : X → Bool) (xs : List X) → ((x : X) → IsIn x xs → p x ≡ true → q x ≡ r x) → filter p (filter q xs) ≡ filter p (filter r xs)
  same_filtered q r [] same = refl
  same_filtered q r (x ∷ xs) same = by (same_filtered q r xs (λ y there. same y (inr there))) (p x) refl
    where
      alike : filter p (filter q xs) ≡ filter p (filter r xs) → (b : Bool) → filter p (cond b (x ∷ filter q xs) (filter q xs)) ≡ filter p (cond b (x ∷ filter r xs) (filter r xs))
      alike rest true = λ i. cond (p x) (x ∷ rest i) (rest i)
      alike rest false = rest

      by : filter p (filter q xs) ≡ filter p (filter r xs) → (b : Bool) → p x ≡ b → filter p (filter q (x ∷ xs)) ≡ filter p (filter r (x ∷ xs))
      by rest true e = alike rest (q x) ∙ ap (λ b. filter p (cond b (x ∷ filter r xs) (filter r xs))) (same x (inl refl) e)
      by rest false e = dropped x (q x) (filter q xs) e ∙ rest ∙ sym (dropped x (r x) (filter r xs) e)

  none_filtered : (xs : List X) → filter p (filter (λ x. false) xs) ≡ []
  none_filtered [] = refl
  none_filtered (x ∷ xs) = none_filtered xs

module _ (m : Content) (about : Subject) (at : ℕ) (acts : List ℕ) (held : Content) (is : held ≡ bare m) (keys : (entry : Entry) → is_about held about entry ≡ true → HasKey about acts entry) where
  key_of : (entry : Entry) → is_about m about entry ≡ true → HasKey about acts entry
  key_of entry own = keys entry (ap (λ (q : Entry → Bool). q entry) (ap (λ c. is_about c about) is ∙ bare_about m about) ∙ own)

  behind_none : (entry : Entry) → IsIn entry (values m.entries) → at < entry.number → IsIn entry (entries_behind m 0)
  behind_none entry there more = in_filter (λ (e : Entry). nat_lt 0 e.number) (values m.entries) entry there (lt-ltb 0 entry.number (omega (arith, more)))

  -- those behind a number are those behind the next one
  pub skip_to : (next : ℕ) → SkipsNone (entries_behind m 0) about acts at (Some next) → entries_about m about at ≡ entries_about m about next
  skip_to next skips = same_filtered (is_about m about) (λ (e : Entry). nat_lt at e.number) (λ (e : Entry). nat_lt next e.number) (values m.entries) (λ entry there own. by entry there own (nat_lt at entry.number) (nat_lt next entry.number) refl refl)
    where
      by : (entry : Entry) → IsIn entry (values m.entries) → is_about m about entry ≡ true → (b c : Bool) → nat_lt at entry.number ≡ b → nat_lt next entry.number ≡ c → nat_lt at entry.number ≡ nat_lt next entry.number
      by entry there own true c e f =
          let more = ltb-true at entry.number e in
          let lt : next < entry.number = skips.none entry (behind_none entry there more) more (key_of entry own) in
          e ∙ sym (lt-ltb next entry.number lt)
      by entry there own false true e f =
          let lt = ltb-true next entry.number f in
          let le : at ≤ next = skips.left in
          lt-ltb at entry.number (omega (arith, lt, le)) ∙ sym f
      by entry there own false false e f = e ∙ sym f

  -- there are none
  pub skip_all : SkipsNone (entries_behind m 0) about acts at None → entries_about m about at ≡ []
  skip_all skips = same_filtered (is_about m about) (λ (e : Entry). nat_lt at e.number) (λ (e : Entry). false) (values m.entries) (λ entry there own. by entry there own (nat_lt at entry.number) refl) ∙ none_filtered (is_about m about) (values m.entries)
    where
      by : (entry : Entry) → IsIn entry (values m.entries) → is_about m about entry ≡ true → (b : Bool) → nat_lt at entry.number ≡ b → nat_lt at entry.number ≡ false
      by entry there own true e = let more = ltb-true at entry.number e in absurd (skips.none entry (behind_none entry there more) more (key_of entry own))
      by entry there own false e = e

-- ---- readings, one after another

module _ {S Left : Type 0} (clean : S → Type 0) (holds : S → Content → Type 0) (may_leave : S → Left → Type 0) where
  pub read_nothing : (s : S) → IsRead clean holds may_leave s s
  read_nothing s = record { clean_disk = λ it. it; stays = λ it m was. was; crash = λ it m was left may. may }

  pub read_then : (a b c : S) → IsRead clean holds may_leave a b → IsRead clean holds may_leave b c → IsRead clean holds may_leave a c
  read_then a b c one two = record {
    clean_disk = λ it. one.clean_disk (two.clean_disk it);
    stays = λ it m was. two.stays it m (one.stays (two.clean_disk it) m was);
    crash = λ it m was left may. one.crash (two.clean_disk it) m was left (two.crash it m (one.stays (two.clean_disk it) m was) left may);
  }
