-- What follows of messages that were handled in turn.
use Rattle.std.proofs.Common.{◌≡◌, ℕ, List, [], ◌∷◌, ◌++◌, refl, sym, ap, subst, arith, inl, inr, ◌∙◌}
use Rattle.std.specs.Ordering.{nat_cmp}
use Rattle.std.specs.FinMap.{len, len-empty}
use Rattle.std.specs.Prelude.{◌⊎◌}
use Rattle.shop_records.specs.declared.messages.Message.{Message}
use Rattle.shop_records.specs.declared.messages.Reply.{Reply}
use Rattle.shop_records.specs.Messages.{Texts}
use Rattle.shop_records.specs.declared.journal.Entry.{Entry}
use Rattle.shop_records.specs.declared.texts.Kept.{Kept}
use Rattle.shop_records.specs.Content.{Content, entry_count, fresh, message_id_cmp}
use Rattle.shop_records.specs.WellFormed.{IsWellFormed}
use Rattle.shop_machine.specs.Machine.{Run, Step}
use Rattle.shop_machine.proofs.Newest.{all_of_it, one_each_after}
use Rattle.shop_machine.proofs.Runs.{AreMessages, gives_after}
use Rattle.shop_machine.proofs.Owners.{account_of}
use Rattle.shop_book.specs.declared.books.Book.{Ghosts}
use Rattle.shop_desk.specs.Faults.{CountsUp}
use Rattle.shop_desk.specs.Handled.{CrashStatesAfter, HandlesMessageAt, OneByOne, AreHandled, AreHandledAt, HasAccount, HasAllEntries, HasEntries, HasRun}
use Rattle.shop_desk.proofs.Justified.{up_same, up_answer, up_more, report_more, report_one}
use Rattle.shop_desk.proofs.Steps.{leads_grow}

account_after : (texts : Texts) (old new : Content) (messages : List Message) (answers : List Reply) → AreMessages messages → Run texts old messages answers new → HasAccount texts old messages answers new
account_after texts old new messages answers are run history given =
    let after = gives_after texts history old new messages answers are given run in
    (after.history, after.same, account_of texts after.history new after.given)

-- ---- entries of all messages that are kept

fresh_entries : (m : Content) → m ≡ fresh → HasAllEntries m
fresh_entries m same = ap (λ (c : Content). len c.kept) same ∙ len-empty message_id_cmp Kept ∙ sym (len-empty nat_cmp Entry) ∙ sym (ap (λ (c : Content). entry_count c) same)

-- a fresh content has none, as it keeps no message
all_entries : (m : Content) → (m ≡ fresh) ⊎ HasAllEntries m → HasAllEntries m
all_entries m (inl same) = fresh_entries m same
all_entries m (inr all) = all

entries_are : (texts : Texts) (m : Content) → HasEntries texts m m
entries_are texts m first = let all = all_entries m first in (all, λ history given. all_of_it texts history m given all)

-- a step, and what comes after it
entries_step : (texts : Texts) (old mid next : Content) (message : Message) (answer : Reply) → IsWellFormed texts old → Step texts old message answer mid → HasEntries texts mid next → HasEntries texts old next
entries_step texts old mid next message answer well_formed step more first =
    let all : len old.kept ≡ entry_count old = all_entries old first in
    let each = one_each_after texts old mid message answer well_formed step in
    let after : len mid.kept ≡ entry_count mid = omega (arith, all, each) in
    more (inr after)

-- ---- messages that were handled in turn

-- what was asked, and then more of it
pub one_by_one : {B X A : Type 0} (leads : B → B → X → A → Type 0) (before mid after : B) (asked more : List X) (answers later : List A)
    → OneByOne leads before asked answers mid → OneByOne leads mid more later after → OneByOne leads before (asked ++ more) (answers ++ later) after
one_by_one leads before mid after [] more [] later same next = subst (λ b. OneByOne leads b more later after) same next
one_by_one leads before mid after [] more (a ∷ rest) later so_far next = absurd so_far
one_by_one leads before mid after (x ∷ xs) more [] later so_far next = absurd so_far
one_by_one leads before mid after (x ∷ xs) more (a ∷ rest) later so_far next = (so_far.0, so_far.1, one_by_one leads so_far.0 mid after xs more rest later so_far.2 next)

module _ {B : Type 0} (texts : Texts) (at : ℕ) (book : Ghosts B) where
  -- one message more
  pub handled_more : (before mid after : B) (messages : List Message) (answers : List Reply) (message : Message) (answer : Reply)
      → AreHandledAt texts at book before messages answers mid → HandlesMessageAt texts at book mid after message answer
      → AreHandledAt texts at book before (messages ++ message ∷ []) (answers ++ answer ∷ []) after
  handled_more before mid after messages answers message answer so_far handled =
      one_by_one (HandlesMessageAt texts at book) before mid after messages (message ∷ []) answers (answer ∷ []) so_far (after, handled, refl)

  -- what was handled at a time was handled
  pub handled_untimed : (before after : B) (messages : List Message) (answers : List Reply) → AreHandledAt texts at book before messages answers after → AreHandled texts book before messages answers after
  handled_untimed before after [] [] same = same
  handled_untimed before after [] (r ∷ rs) handled = absurd handled
  handled_untimed before after (m ∷ ms) [] handled = absurd handled
  handled_untimed before after (m ∷ ms) (r ∷ rs) handled = (handled.0, handled.1.handled, handled_untimed handled.0 after ms rs handled.2)

module _ {B : Type 0} (texts : Texts) (book : Ghosts B) where
  -- a book whose disk is clean in the end had a clean one all along
  pub handled_clean_disk : (before after : B) (messages : List Message) (answers : List Reply) → AreHandled texts book before messages answers after → book.has_clean_disk after → book.has_clean_disk before
  handled_clean_disk before after [] [] same clean_disk = subst book.has_clean_disk same clean_disk
  handled_clean_disk before after [] (r ∷ rs) handled clean_disk = absurd handled
  handled_clean_disk before after (m ∷ ms) [] handled clean_disk = absurd handled
  handled_clean_disk before after (m ∷ ms) (r ∷ rs) handled clean_disk = handled.1.clean_disk (handled_clean_disk handled.0 after ms rs handled.2 clean_disk)

  pub handled_up : (before after : B) (messages : List Message) (answers : List Reply) → AreHandled texts book before messages answers after → CountsUp (book.failed before) (book.failed after)
  handled_up before after [] [] same = up_same (book.failed before) (book.failed after) (ap book.failed same)
  handled_up before after [] (r ∷ rs) handled = absurd handled
  handled_up before after (m ∷ ms) [] handled = absurd handled
  handled_up before after (m ∷ ms) (r ∷ rs) handled =
      up_more (book.failed before) (book.failed handled.0) (book.failed after) (up_answer (book.failed before) (book.failed handled.0) r handled.1.failures) (handled_up handled.0 after ms rs handled.2)

  are_messages : (before after : B) (messages : List Message) (answers : List Reply) → AreHandled texts book before messages answers after → AreMessages messages
  are_messages before after [] [] same = tt
  are_messages before after [] (r ∷ rs) handled = absurd handled
  are_messages before after (m ∷ ms) [] handled = absurd handled
  are_messages before after (m ∷ ms) (r ∷ rs) handled = (handled.1.is_message, are_messages handled.0 after ms rs handled.2)

  -- a content that the first book held was run through the machine
  pub handled_run : (before after : B) (messages : List Message) (answers : List Reply) → AreHandled texts book before messages answers after → book.has_clean_disk after
      → (m : Content) → book.holds before m → IsWellFormed texts m → HasRun texts book before after m messages answers
  handled_run before after [] [] same clean_disk m held well_formed =
      record {
        next = m;
        run = refl;
        held = subst (λ b. book.holds b m) (sym same) held;
        well_formed = well_formed;
        crash = (refl, λ left it. subst (λ b. book.may_leave b left) same it);
        store_fault_justified = λ none. absurd none;
        account = account_after texts m m [] [] tt refl;
        entries = entries_are texts m;
      }
  handled_run before after [] (r ∷ rs) handled clean_disk m held well_formed = absurd handled
  handled_run before after (message ∷ ms) [] handled clean_disk m held well_formed = absurd handled
  handled_run before after (message ∷ ms) (answer ∷ rs) handled clean_disk m held well_formed =
      let mid = handled.0 in
      let at_mid = handled_clean_disk mid after ms rs handled.2 clean_disk in
      let one = handled.1.step at_mid m held well_formed in
      let more = handled_run mid after ms rs handled.2 clean_disk one.next one.held one.well_formed in
      let run : Run texts m (message ∷ ms) (answer ∷ rs) more.next = (one.next, one.step, more.run) in
      record {
        next = more.next;
        run = run;
        held = more.held;
        well_formed = more.well_formed;
        crash = (
          one.next,
          one.step,
          leads_grow texts book.stands (CrashStatesAfter texts book.stands (book.may_leave before) m message answer one.next) (book.may_leave mid) (book.may_leave after) one.crash one.next more.next ms rs more.crash,
        );
        store_fault_justified = report_more (book.failed before) (book.failed mid) (book.failed after) (answer ∷ []) rs (up_answer (book.failed before) (book.failed mid) answer handled.1.failures) (handled_up mid after ms rs handled.2)
            (report_one (book.failed before) (book.failed mid) answer (handled.1.store_fault at_mid m held well_formed)) more.store_fault_justified;
        account = account_after texts m more.next (message ∷ ms) (answer ∷ rs) (are_messages before after (message ∷ ms) (answer ∷ rs) handled) run;
        entries = entries_step texts m one.next more.next message answer well_formed one.step more.entries;
      }
