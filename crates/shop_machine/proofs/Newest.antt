-- The entries of a content are the newest part of each history that gives it, and what is written of an entry stays.
use Rattle.std.proofs.Common.{◌≡◌, ℕ, zero, suc, ◌+◌, ◌≤◌, List, [], ◌∷◌, ◌++◌, length, length-append, refl, sym, ap, ◌∙◌, arith, inl, inr, cond}
use Rattle.std.specs.Prelude.{Option, Some, None, IsSome, MatchOption, is_some, max}
use Rattle.std.specs.Cmp.{nat_cmp_total}
use Rattle.std.specs.Ordering.{nat_cmp}
use Rattle.std.specs.FinMap.{FinMap, empty, get, insert, len, len-empty, len-insert, nat_cmp-IsAntisymmetric}
use Rattle.shop_records.specs.declared.journal.Entry.{Entry as EntryRow}
use Rattle.shop_records.specs.declared.texts.MessageId.{MessageId}
use Rattle.shop_records.specs.declared.texts.Kept.{Kept}
use Rattle.shop_records.specs.declared.messages.Message.{Message}
use Rattle.shop_records.specs.declared.messages.Reply.{Reply}
use Rattle.shop_records.specs.declared.refusals.Refusal.{Refusal}
use Rattle.shop_records.specs.Messages.{Texts, refusal_in, message_id_of}
use Rattle.shop_records.specs.Readings.{Reading}
use Rattle.shop_records.specs.Content.{Content, message_id_cmp, kept_at, entry_at, entry_count, last_time}
use Rattle.shop_records.specs.WellFormed.{AreEntries, IsWellFormed}
use Rattle.shop_machine.specs.Machine.{Accepts, Refuses, StepNew, StepAgain, Step, entry_of}
use Rattle.shop_machine.specs.History.{Entry, Gives, GivesAll, MayForget, message_id_before, message_ids_to, message_ids_of, entered_message_ids, AreNewest}
use Rattle.shop_records.proofs.Basics.{get_same, get_other}
use Rattle.shop_records.proofs.Puts.{some_known, message_ids_total}
use Rattle.shop_machine.proofs.Entered.{count_after, stays_with}
use Rattle.shop_machine.proofs.StaysWellFormed.{gives_well_formed}

next_is : (n : ℕ) → n + 1 ≡ suc n
next_is n = omega arith

-- ---- message IDs of entries

-- two contents with the same entries up to a number have the same message IDs up to it
message_ids_same : (a b : Content) (n : ℕ) → ((k : ℕ) → k ≤ n → entry_at a k ≡ entry_at b k) → message_ids_to n a ≡ message_ids_to n b
message_ids_same a b zero same = refl
message_ids_same a b (suc n) same =
    ap (λ (o : Option EntryRow). message_id_before o (message_ids_to n a)) (same (suc n) (omega arith))
    ∙ ap (message_id_before (entry_at b (suc n))) (message_ids_same a b n (λ k le. same k (omega (arith, le))))

one_longer : {X : Type 0} (x : X) (xs : List X) (n : ℕ) → length xs ≡ n → length (x ∷ xs) ≡ suc n
one_longer x xs n e = omega (arith, e)

-- where no number lacks an entry there are as many message IDs
message_ids_many : (content : Content) (n : ℕ) → ((k : ℕ) → 1 ≤ k → k ≤ n → IsSome (entry_at content k)) → length (message_ids_to n content) ≡ n
message_ids_many content zero there = refl
message_ids_many content (suc n) there =
    by (some_known (entry_at content (suc n)) (there (suc n) (omega arith) (omega arith))) (message_ids_many content n (λ k least most. there k least (omega (arith, most))))
  where
    by : (entry : EntryRow) × (entry_at content (suc n) ≡ Some entry) → length (message_ids_to n content) ≡ n → length (message_ids_to (suc n) content) ≡ suc n
    by (entry, is) rest = ap (λ (o : Option EntryRow). length (message_id_before o (message_ids_to n content))) is ∙ one_longer entry.message_id (message_ids_to n content) n rest

-- a content without entries has no message IDs
no_message_ids_of : (content : Content) → content.entries ≡ empty → entered_message_ids content ≡ []
no_message_ids_of content none =
    let zero_of : entry_count content ≡ 0 = ap (λ (es : FinMap nat_cmp EntryRow). len es) none ∙ len-empty nat_cmp EntryRow in
    ap (λ n. message_ids_to n content) zero_of

-- after an entry behind the last one its message ID comes first
module _ (m : Content) (are : AreEntries m) (entry : EntryRow) (next : entry.number ≡ entry_count m + 1) (after : Content) (same : after.entries ≡ insert m.entries entry.number entry) where
  entry_same : (k : ℕ) → k ≤ entry_count m → entry_at after k ≡ entry_at m k
  entry_same k le =
      ap (λ (es : FinMap nat_cmp EntryRow). get es k) same ∙ get_other nat_cmp_total nat_cmp-IsAntisymmetric m.entries entry.number entry k (λ e. omega (arith, e, next, le))

  entry_there : entry_at after (suc (entry_count m)) ≡ Some entry
  entry_there =
      ap (λ (es : FinMap nat_cmp EntryRow). get es (suc (entry_count m))) same
      ∙ ap (get (insert m.entries entry.number entry)) (sym (next ∙ next_is (entry_count m)))
      ∙ get_same nat_cmp_total nat_cmp-IsAntisymmetric m.entries entry.number entry

  pub message_ids_after : entered_message_ids after ≡ entry.message_id ∷ entered_message_ids m
  message_ids_after =
      ap (λ n. message_ids_to n after) (ap (λ (es : FinMap nat_cmp EntryRow). len es) same ∙ count_after m are entry next ∙ next_is (entry_count m))
      ∙ ap (λ (o : Option EntryRow). message_id_before o (message_ids_to (entry_count m) after)) entry_there
      ∙ ap (λ (message_ids : List MessageId). entry.message_id ∷ message_ids) (message_ids_same after m (entry_count m) entry_same)

-- ---- accepted messages

module _ (texts : Texts) (before after : Content) (message : Message) (read : Reading) (answer : Reply) (well_formed : IsWellFormed texts before) (accepts : Accepts texts before message read answer after) where
  abbrev written : EntryRow
  written = entry_of (entry_count before + 1) (max accepts.at (last_time before)) message accepts.change

  entries_with : after.entries ≡ insert before.entries written.number written
  entries_with = ap (λ (c : Content). c.entries) accepts.becomes

  accepted_message_ids : entered_message_ids after ≡ message_id_of message ∷ entered_message_ids before
  accepted_message_ids = message_ids_after before well_formed.entries written refl after entries_with

  accepted_stay : (number : ℕ) (entry : EntryRow) → entry_at before number ≡ Some entry → entry_at after number ≡ Some entry
  accepted_stay number entry is = ap (λ (es : FinMap nat_cmp EntryRow). get es number) entries_with ∙ stays_with before well_formed.entries written refl number entry is

  accepted_count : entry_count after ≡ entry_count before + 1
  accepted_count = ap (λ (es : FinMap nat_cmp EntryRow). len es) entries_with ∙ count_after before well_formed.entries written refl

  accepted_kept : kept_at before (message_id_of message) ≡ None → len after.kept ≡ len before.kept + 1
  accepted_kept new =
      ap (λ (c : Content). len c.kept) accepts.becomes
      ∙ len-insert message_ids_total before.kept (message_id_of message) _
      ∙ ap (λ (found : Option Kept). cond (is_some found) (len before.kept) (len before.kept + 1)) new

-- ---- histories

kept_count_left : (left content : Content) → MayForget left content → len content.kept ≡ len left.kept
kept_count_left left content (inl same) = ap (λ (c : Content). len c.kept) same
kept_count_left left content (inr same) = ap (λ (c : Content). len c.kept) same

no_more : (message_ids : List MessageId) → message_ids ≡ message_ids ++ []
no_more [] = refl
no_more (message_id ∷ message_ids) = ap (λ (ps : List MessageId). message_id ∷ ps) (no_more message_ids)

-- the entries are the newest part of each history
pub newest : (texts : Texts) (history : List Entry) (content : Content) → Gives texts history content → AreNewest history content
newest texts [] content given =
    let none : content.entries ≡ empty = ap (λ (c : Content). c.entries) given in
    record {
      earlier = [];
      newest = no_more [] ∙ ap (λ (ps : List MessageId). ps ++ []) (sym (no_message_ids_of content none));
      kept = ap (λ (c : Content). len c.kept) given ∙ len-empty message_id_cmp Kept;
    }
newest texts (entry ∷ earlier) content (before, answer, given, is_message, new, left, accepts, forgets) =
    let old = newest texts earlier before given in
    let well_formed = gives_well_formed texts earlier before given in
    let message_ids : entered_message_ids left ≡ message_id_of entry.message ∷ entered_message_ids before = accepted_message_ids texts before left entry.message entry.read answer well_formed accepts in
    let many = accepted_kept texts before left entry.message entry.read answer well_formed accepts new in
    let left_newest : message_ids_of (entry ∷ earlier) ≡ entered_message_ids left ++ old.earlier =
    ap (λ (ps : List MessageId). message_id_of entry.message ∷ ps) old.newest ∙ ap (λ (ps : List MessageId). ps ++ old.earlier) (sym message_ids) in
    let kept : len content.kept ≡ suc (length earlier) = kept_count_left left content forgets ∙ many ∙ ap (λ n. n + 1) old.kept ∙ next_is (length earlier) in
    by old.earlier left_newest (kept ∙ sym (one_longer entry earlier (length earlier) refl)) forgets
  where
    by : (rest : List MessageId) → message_ids_of (entry ∷ earlier) ≡ entered_message_ids left ++ rest → len content.kept ≡ length (entry ∷ earlier) → MayForget left content → AreNewest (entry ∷ earlier) content
    by rest begins many (inl same) = record { earlier = rest; newest = begins ∙ ap (λ (c : Content). entered_message_ids c ++ rest) (sym same); kept = many }
    by rest begins many (inr same) = record {
      earlier = message_ids_of (entry ∷ earlier);
      newest = ap (λ (ps : List MessageId). ps ++ message_ids_of (entry ∷ earlier)) (sym (no_message_ids_of content (ap (λ (c : Content). c.entries) same)));
      kept = many;
    }

no_rest : (message_ids rest : List MessageId) → length rest ≡ 0 → message_ids ++ rest ≡ message_ids
no_rest message_ids [] none = sym (no_more message_ids)
no_rest message_ids (message_id ∷ rest) none = absurd (omega (arith, none))

length_of_message_ids : (history : List Entry) → length (message_ids_of history) ≡ length history
length_of_message_ids [] = refl
length_of_message_ids (entry ∷ earlier) =
    one_longer (message_id_of entry.message) (message_ids_of earlier) (length earlier) (length_of_message_ids earlier) ∙ sym (one_longer entry earlier (length earlier) refl)

-- they are all of it where as many are there as messages are kept
pub all_of_it : (texts : Texts) (history : List Entry) (content : Content) → Gives texts history content → len content.kept ≡ entry_count content → message_ids_of history ≡ entered_message_ids content
all_of_it texts history content given many =
    let is = newest texts history content given in
    let well_formed = gives_well_formed texts history content given in
    let count : length (entered_message_ids content) ≡ entry_count content = message_ids_many content (entry_count content) well_formed.entries.no_gap in
    let whole : length (message_ids_of history) ≡ length (entered_message_ids content ++ is.earlier) = ap (λ (ps : List MessageId). length ps) is.newest in
    let kept = is.kept in
    is.newest ∙ no_rest (entered_message_ids content) is.earlier (omega (arith, many, kept, count, whole, length_of_message_ids history, length-append (entered_message_ids content) is.earlier))

-- a history that forgets nothing is one
pub all_gives : (texts : Texts) (history : List Entry) (content : Content) → GivesAll texts history content → Gives texts history content
all_gives texts [] content given = given
all_gives texts (entry ∷ earlier) content (before, answer, given, is_message, new, accepts) =
    (before, answer, all_gives texts earlier before given, is_message, new, content, accepts, inl refl)

-- and its content has all of it as entries
pub all_entered : (texts : Texts) (history : List Entry) (content : Content) → GivesAll texts history content → message_ids_of history ≡ entered_message_ids content
all_entered texts [] content given = sym (no_message_ids_of content (ap (λ (c : Content). c.entries) given))
all_entered texts (entry ∷ earlier) content (before, answer, given, is_message, new, accepts) =
    ap (λ (ps : List MessageId). message_id_of entry.message ∷ ps) (all_entered texts earlier before given)
    ∙ sym (accepted_message_ids texts before content entry.message entry.read answer (gives_well_formed texts earlier before (all_gives texts earlier before given)) accepts)

-- ---- steps

module _ (texts : Texts) (old new : Content) (message : Message) (answer : Reply) (well_formed : IsWellFormed texts old) where
  abbrev Stays : Type 0
  Stays = (number : ℕ) (entry : EntryRow) → entry_at old number ≡ Some entry → entry_at new number ≡ Some entry

  same_stays : new ≡ old → Stays
  same_stays same number entry is = ap (λ (c : Content). entry_at c number) same ∙ is

  by_answer : (o : Option Refusal) → MatchOption o ((read : Reading) × Accepts texts old message read answer new) (λ refusal. Refuses texts old message.command refusal × (new ≡ old)) → Stays
  by_answer None step = accepted_stay texts old new message step.0 answer well_formed step.1
  by_answer (Some refusal) step = same_stays step.1

  by_row : (row : Option Kept) → MatchOption row (StepNew texts old message answer new) (λ row. StepAgain texts row message answer × (new ≡ old)) → Stays
  by_row None step = by_answer (refusal_in answer) step
  by_row (Some row) step = same_stays step.1

  -- each entry that is there is there after a step, as it was
  pub stay_after : Step texts old message answer new → (number : ℕ) (entry : EntryRow) → entry_at old number ≡ Some entry → entry_at new number ≡ Some entry
  stay_after step = by_row (kept_at old (message_id_of message)) step

  abbrev OneEach : Type 0
  OneEach = len new.kept + entry_count old ≡ len old.kept + entry_count new

  same_counts : new ≡ old → OneEach
  same_counts same = ap (λ (c : Content). len c.kept + entry_count old) same ∙ sym (ap (λ (c : Content). len old.kept + entry_count c) same)

  answer_counts : (o : Option Refusal) → kept_at old (message_id_of message) ≡ None → MatchOption o ((read : Reading) × Accepts texts old message read answer new) (λ refusal. Refuses texts old message.command refusal × (new ≡ old)) → OneEach
  answer_counts None none step =
      let kept = accepted_kept texts old new message step.0 answer well_formed step.1 none in
      let count = accepted_count texts old new message step.0 answer well_formed step.1 in
      omega (arith, kept, count)
  answer_counts (Some refusal) none step = same_counts step.1

  row_counts : (row : Option Kept) → kept_at old (message_id_of message) ≡ row → MatchOption row (StepNew texts old message answer new) (λ row. StepAgain texts row message answer × (new ≡ old)) → OneEach
  row_counts None none step = answer_counts (refusal_in answer) none step
  row_counts (Some row) is step = same_counts step.1

  -- a step keeps a message and writes an entry, or neither
  pub one_each_after : Step texts old message answer new → len new.kept + entry_count old ≡ len old.kept + entry_count new
  one_each_after step = row_counts (kept_at old (message_id_of message)) refl step
