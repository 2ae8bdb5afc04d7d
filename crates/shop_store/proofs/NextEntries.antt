-- The entries behind the last of some that were read, and what is remembered of entries.
use Rattle.std.proofs.Common.{◌≡◌, ◌≤◌, ◌<◌, ◌+◌, ℕ, inl, inr, nat_le, Bool, true, false, List, [], ◌∷◌, ◌++◌, length, map, take, drop, Option, Some, None, Ok, Err, Result, IfOk, IfSome, IsTrue, refl, sym, ap, subst, ◌∙◌, arith}
use Rattle.std.specs.Prelude.{◌⊎◌, IsSome, cond, filter, is_some, nat_lt, option_map, unwrap_or}
use Rattle.std.specs.declared.cmp.Ordering.TheVariants.{Greater}
use Rattle.std.specs.Cmp.{nat_cmp_is, nat_cmp_total}
use Rattle.std.specs.FinMap.{entries, entries-insert, find, get, get-entries, get-insert, insert, len, len-insert, nat_cmp-IsAntisymmetric, put, values}
use Rattle.std.specs.FinMap.Entries.{by_order}
use Rattle.std.specs.Option.{option_or, option_to_list}
use Rattle.std.specs.Ordering.{is_eq, nat_cmp}
use Rattle.std.proofs.lemmas.Bool.{leb-false, leb-true, lt-ltb, ltb-true}
use Rattle.std.proofs.lemmas.List.{map-append, take-append-drop}
use Rattle.std.proofs.lemmas.List.Elements.{filter-append}
use Rattle.sqlite.specs.State.{State, HasCleanDisk}
use Rattle.shop_records.specs.Content.{Content, changed, entry_count, of_found, with_entry}
use Rattle.shop_records.specs.Lists.{entries_behind}
use Rattle.shop_records.specs.declared.journal.Entry.{Entry}
use Rattle.shop_records.specs.declared.changes.Change.{Change}
use Rattle.shop_records.specs.WellFormed.{Fits, IsNewEntry}
use Rattle.shop_records.specs.Elements.{IsIn}
use Rattle.shop_records.proofs.Basics.{in_append, tied}
use Rattle.shop_rows.specs.Keys.{entry_key}
use Rattle.shop_rows.proofs.ByLine.{filter_in, in_filter}
use Rattle.shop_book.specs.Ends.{AddEnds, AreEnds, end_time, kept_time}
use Rattle.shop_book.specs.declared.end_rows.JobEnds.{JobEnds}
use Rattle.shop_book.specs.declared.number_index.NumberIndex.{NumberIndex}
use Rattle.shop_book.specs.FiledEntries.{AreEntriesFiled, IsEntryFiled}
use Rattle.shop_book.specs.Filing.{StaysFiled}
use Rattle.shop_book.proofs.EntriesFiled.{entries_stay, entry_stays}
use Rattle.shop_book.proofs.Behind.{behind_first}
use Rattle.shop_book.proofs.Ends.{ends_in_turn, or_in_turn, or_none}
use Rattle.shop_book.proofs.Loaded.{values_rise}
use Rattle.shop_statements.specs.declared.faults.TableFault.{TableFault}
use Rattle.shop_statements.specs.Shown.{Books, Holds}
use Rattle.shop_tables.specs.Changing.{AreNumbered}
use Rattle.shop_tables.specs.Held.{books, HoldsContent}
use Rattle.shop_store.specs.Entries.{time_from, FiledTo}
use Rattle.shop_store.specs.Storing.{IsRemembered}
use Rattle.shop_store.specs.declared.remembered.Remembered.{Remembered}
use Rattle.shop_store.proofs.InSteps.{none_of, take_first}

-- of books that are held
pub next_in : (s : State) (b : Books) (after most : ℕ) (rows : List Entry) → HasCleanDisk s → Holds s b → IsTrue s.is_open → rows ≡ take most (entries_behind b.content after)
    → (before : List Entry) (last : Entry) → rows ≡ before ++ last ∷ [] → entries_behind b.content last.number ≡ drop (length rows) (entries_behind b.content after)
next_in s b after most rows clean was up are = behind_first b.content (values_rise nat_cmp nat_cmp_total nat_cmp-IsAntisymmetric entry_key b.content.entries (was clean up).shows.keyed.entries) after most rows are

pub next_entries : (s : State) (m : Content) (after most : ℕ) (r : Result (List Entry) TableFault) → HasCleanDisk s → HoldsContent s m → IfOk r (λ _. IsTrue s.is_open) → IfOk r (λ rows. rows ≡ take most (entries_behind m after))
    → IfOk r (λ rows. (before : List Entry) (last : Entry) → rows ≡ before ++ last ∷ [] → entries_behind m last.number ≡ drop (length rows) (entries_behind m after))
next_entries s m after most (Err e) clean was up are = tt
next_entries s m after most (Ok rows) clean was up are = next_in s (books m was.totals was.uses) after most rows clean was.holds up are

-- ---- the ends of which entries report, some at a time

module _ (m : Content) (old : JobEnds) (at count : ℕ) (chunk : List Entry) (are : chunk ≡ take count (entries_behind m at)) where
  -- there are no others
  pub all_ends : 0 < count → chunk ≡ [] → (job : ℕ) → time_from m old at job ≡ kept_time job old
  all_ends some none job = ap (λ (es : List Entry). option_or (kept_time job old) (end_time job es)) (none_of count (entries_behind m at) some (sym are ∙ none)) ∙ or_none (kept_time job old)

  pub more_ends : (next : ℕ) → entries_behind m next ≡ drop (length chunk) (entries_behind m at) → (new : JobEnds) → AddEnds chunk old new → (job : ℕ) → time_from m old at job ≡ time_from m new next job
  more_ends next behind new added job =
      let all = entries_behind m at in
      let split : all ≡ chunk ++ entries_behind m next = sym (take-append-drop (length chunk) all) ∙ ap (λ l. l ++ drop (length chunk) all) (ap (λ c. take (length c) all) are ∙ take_first count all ∙ sym are) ∙ ap (λ l. chunk ++ l) (sym behind) in
      ap (λ (es : List Entry). option_or (kept_time job old) (end_time job es)) split ∙ ap (option_or (kept_time job old)) (ends_in_turn job chunk (entries_behind m next))
      ∙ sym (or_in_turn (kept_time job old) (end_time job chunk) (end_time job (entries_behind m next))) ∙ ap (λ found. option_or found (end_time job (entries_behind m next))) (sym (added job))

-- ---- the entries that are filed, some at a time

module _ (m : Content) (old : NumberIndex) (at count : ℕ) (chunk : List Entry) (are : chunk ≡ take count (entries_behind m at)) where
  -- one that isn't up to a number is behind it
  behind_at : (entry : Entry) → IsIn entry (entries_behind m 0) → at < entry.number → IsIn entry (entries_behind m at)
  behind_at entry there more = in_filter (λ (e : Entry). nat_lt at e.number) (values m.entries) entry (filter_in _ (values m.entries) entry there).0 (lt-ltb at entry.number more)

  -- there are no others
  pub all_filed : 0 < count → chunk ≡ [] → FiledTo m at old → AreEntriesFiled old (entries_behind m 0)
  all_filed some none to entry there = by (nat_le entry.number at) refl
    where
      by : (b : Bool) → nat_le entry.number at ≡ b → IsEntryFiled old entry
      by true e = to entry there (leb-true entry.number at e)
      by false e =
          let more : at < entry.number = let l = leb-false entry.number at e in omega (arith, l) in
          absurd (subst (IsIn entry) (none_of count (entries_behind m at) some (sym are ∙ none)) (behind_at entry there more))

  pub more_filed : (next : ℕ) → entries_behind m next ≡ drop (length chunk) (entries_behind m at) → (new : NumberIndex) → StaysFiled old new → AreEntriesFiled new chunk → FiledTo m at old → FiledTo m next new
  more_filed next behind new stays own to entry there up = by (nat_le entry.number at) refl
    where
      all : List Entry
      all = entries_behind m at

      split : all ≡ chunk ++ entries_behind m next
      split = sym (take-append-drop (length chunk) all) ∙ ap (λ l. l ++ drop (length chunk) all) (ap (λ c. take (length c) all) are ∙ take_first count all ∙ sym are) ∙ ap (λ l. chunk ++ l) (sym behind)

      either_one : IsIn entry chunk ⊎ IsIn entry (entries_behind m next) → IsEntryFiled new entry
      either_one (inl i) = own entry i
      either_one (inr i) = absurd (let lt : next < entry.number = ltb-true next entry.number (filter_in _ (values m.entries) entry i).1 in omega (arith, lt, up))

      by : (b : Bool) → nat_le entry.number at ≡ b → IsEntryFiled new entry
      by true e = entry_stays old new entry stays (to entry there (leb-true entry.number at e))
      by false e =
          let more : at < entry.number = let l = leb-false entry.number at e in omega (arith, l) in
          either_one (in_append entry chunk (entries_behind m next) (subst (IsIn entry) split (behind_at entry there more)))

-- none is up to 0
pub none_up_to : (m : Content) (index : NumberIndex) → FiledTo m 0 index
none_up_to m index entry there up = absurd (let lt : 0 < entry.number = ltb-true 0 entry.number (filter_in _ (values m.entries) entry there).1 in omega (arith, lt, up))

-- ---- what is remembered, after a change

-- an entry above all that are there is put behind them
put_behind : (es : List (ℕ × Entry)) (n : ℕ) (x : Entry) → ((k : ℕ) → IsSome (find nat_cmp k es) → k < n) → put nat_cmp n x es ≡ es ++ (n, x) ∷ []
put_behind [] n x below = refl
put_behind (e ∷ es) n x below =
    let tie : find nat_cmp e.0 (e ∷ es) ≡ Some e.1 = ap (λ b. cond b (Some e.1) (find nat_cmp e.0 es)) (tied nat_cmp_total nat_cmp-IsAntisymmetric e.0 e.0 refl) in
    let above : nat_cmp n e.0 ≡ Greater = sym (nat_cmp_is n e.0 Greater (below e.0 (ap is_some tie))) in
    ap (λ r. by_order r ((n, x) ∷ e ∷ es) ((e.0, x) ∷ es) (e ∷ put nat_cmp n x es)) above
    ∙ ap (λ l. e ∷ l) (put_behind es n x (λ k there. below k (there_too (is_eq (nat_cmp k e.0)) (find nat_cmp k es) there)))
  where
    there_too : (b : Bool) (found : Option Entry) → IsSome found → IsSome (cond b (Some e.1) found)
    there_too true found there = refl
    there_too false found there = there

-- the entries behind none are those before and the new one
behind_after : (m : Content) (entry : Entry) → AreNumbered m → entry.number ≡ entry_count m + 1
    → filter (λ (e : Entry). nat_lt 0 e.number) (values (insert m.entries entry.number entry)) ≡ entries_behind m 0 ++ entry ∷ []
behind_after m entry numbered next =
    let p = λ (e : Entry). nat_lt 0 e.number in
    let below : (k : ℕ) → IsSome (find nat_cmp k (entries m.entries)) → k < entry.number = λ k there. let b = (numbered k (subst IsSome (sym (get-entries m.entries k)) there)).1 in omega (arith, b, next) in
    let first : nat_lt 0 entry.number ≡ true = lt-ltb 0 entry.number (omega (arith, next)) in
    ap (λ (es : List (ℕ × Entry)). filter p (map (λ (e : ℕ × Entry). e.1) es)) (entries-insert nat_cmp_total m.entries entry.number entry ∙ put_behind (entries m.entries) entry.number entry below)
    ∙ ap (filter p) (map-append (λ (e : ℕ × Entry). e.1) (entries m.entries) ((entry.number, entry) ∷ [])) ∙ filter-append p (values m.entries) (entry ∷ [])
    ∙ ap (λ b. entries_behind m 0 ++ cond b (entry ∷ []) []) first

-- of the ends that were kept before and that of which the new entry reports
ends_after : (m : Content) (entry : Option Entry) → AreNumbered m → IfSome entry (λ e. e.number ≡ entry_count m + 1) → (old mid new : JobEnds) → AreEnds (entries_behind m 0) old
    → ((job : ℕ) → kept_time job mid ≡ kept_time job old) → AddEnds (option_to_list entry) mid new → AreEnds (filter (λ (e : Entry). nat_lt 0 e.number) (values (with_entry entry m.entries))) new
ends_after m None numbered next old mid new are same added = λ job. added job ∙ or_none (kept_time job mid) ∙ same job ∙ are job
ends_after m (Some entry) numbered next old mid new are same added =
    λ job. added job ∙ ap (λ found. option_or found (end_time job (entry ∷ []))) (same job ∙ are job) ∙ sym (ends_in_turn job (entries_behind m 0) (entry ∷ []))
    ∙ ap (end_time job) (sym (behind_after m entry numbered next))

-- those that were filed and the new one are
filed_after : (m : Content) (entry : Option Entry) → AreNumbered m → IfSome entry (λ e. e.number ≡ entry_count m + 1) → (old new : NumberIndex) → AreEntriesFiled old (entries_behind m 0) → StaysFiled old new
    → AreEntriesFiled new (option_to_list entry) → AreEntriesFiled new (filter (λ (e : Entry). nat_lt 0 e.number) (values (with_entry entry m.entries)))
filed_after m None numbered next old new were stays own other there = entries_stay old new (entries_behind m 0) stays were other there
filed_after m (Some entry) numbered next old new were stays own other there = by (in_append other (entries_behind m 0) (entry ∷ []) (subst (IsIn other) (behind_after m entry numbered next) there))
  where
    by : IsIn other (entries_behind m 0) ⊎ IsIn other (entry ∷ []) → IsEntryFiled new other
    by (inl i) = entry_stays old new other stays (were other i)
    by (inr i) = own other i

-- the new entry is the last one, and its end and its keys are remembered
pub remembered_after : (m : Content) (change : Change) → Fits m change → AreNumbered m → (old new : Remembered) (mid : JobEnds) → IsRemembered m old
    → ((job : ℕ) → kept_time job mid ≡ kept_time job old.ends)
    → new.number ≡ unwrap_or (option_map (λ (entry : Entry). entry.number) change.entry) old.number → new.at ≡ unwrap_or (option_map (λ (entry : Entry). entry.at) change.entry) old.at
    → AddEnds (option_to_list change.entry) mid new.ends → (index : NumberIndex) → StaysFiled old.index index → AreEntriesFiled index (option_to_list change.entry) → new.index ≡ index → IsRemembered (changed m change) new
remembered_after m change fits numbered old new mid was same number at added index stays own is =
    let last = by change.entry fits.entry in
    let next = next_of change.entry fits.entry in
    record {
      of_last = number ∙ last.0;
      time = at ∙ last.1;
      of_jobs = ends_after m change.entry numbered next old.ends mid new.ends was.of_jobs same added;
      filed = subst (λ (it : NumberIndex). AreEntriesFiled it (entries_behind (changed m change) 0)) (sym is) (filed_after m change.entry numbered next old.index index was.filed stays own);
    }
  where
    next_of : (entry : Option Entry) → IfSome entry (IsNewEntry m change.kept) → IfSome entry (λ e. e.number ≡ entry_count m + 1)
    next_of None new = tt
    next_of (Some entry) new = new.next

    by : (entry : Option Entry) → IfSome entry (IsNewEntry m change.kept)
        → (unwrap_or (option_map (λ (e : Entry). e.number) entry) old.number ≡ len (with_entry entry m.entries)) × (unwrap_or (option_map (λ (e : Entry). e.at) entry) old.at ≡ of_found (λ (e : Entry). e.at) (get (with_entry entry m.entries) (len (with_entry entry m.entries))))
    by None new = (was.of_last, was.time)
    by (Some entry) new =
        let count : len (insert m.entries entry.number entry) ≡ entry_count m + 1 = len-insert nat_cmp_total m.entries entry.number entry ∙ ap (λ (found : Option Entry). cond (is_some found) (entry_count m) (entry_count m + 1)) new.new in
        let found : get (insert m.entries entry.number entry) entry.number ≡ Some entry = get-insert nat_cmp_total m.entries entry.number entry entry.number ∙ ap (λ b. cond b (Some entry) (get m.entries entry.number)) (tied nat_cmp_total nat_cmp-IsAntisymmetric entry.number entry.number refl) in
        (new.next ∙ sym count, sym (ap (λ n. of_found (λ (e : Entry). e.at) (get (insert m.entries entry.number entry) n)) (count ∙ sym new.next) ∙ ap (of_found (λ (e : Entry). e.at)) found))

-- room and further keys change nothing of it
pub still_remembered : (m : Content) (old : Remembered) (ends : JobEnds) (index : NumberIndex) → IsRemembered m old → ((job : ℕ) → kept_time job ends ≡ kept_time job old.ends) → StaysFiled old.index index
    → IsRemembered m (record old { ends = ends; index = index })
still_remembered m old ends index was same stays =
    record { of_last = was.of_last; time = was.time; of_jobs = λ job. same job ∙ was.of_jobs job; filed = entries_stay old.index index (entries_behind m 0) stays was.filed }
