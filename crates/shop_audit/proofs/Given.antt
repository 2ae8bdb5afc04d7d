-- A message that is accepted anew makes the history one longer that gives what the book holds.
use Rattle.std.proofs.Common.{◌≡◌, ℕ, ◌+◌, [], ◌∷◌, List, length, Option, Some, None, refl, sym, ap, subst, ◌∙◌, arith, inl, inr}
use Rattle.std.specs.Prelude.{MatchOption, max}
use Rattle.std.specs.Cmp.{nat_cmp_total}
use Rattle.std.specs.Ordering.{nat_cmp}
use Rattle.std.specs.FinMap.{FinMap, get, get-empty, insert, nat_cmp-IsAntisymmetric}
use Rattle.shop_records.specs.declared.journal.Entry.{Entry as EntryRow}
use Rattle.shop_records.specs.declared.messages.Message.{Message}
use Rattle.shop_records.specs.declared.messages.Reply.{Reply}
use Rattle.shop_records.specs.declared.refusals.Refusal.{Refusal}
use Rattle.shop_records.specs.declared.texts.Kept.{Kept}
use Rattle.shop_records.specs.declared.texts.MessageId.{MessageId}
use Rattle.shop_records.specs.Readings.{Reading}
use Rattle.shop_records.specs.Messages.{Texts, IsMessage, message_id_of, refusal_in}
use Rattle.shop_records.specs.Content.{Content, entry_at, entry_count, fresh, kept_at, last_time, message_id_cmp}
use Rattle.shop_records.proofs.Basics.{get_same, none_some, same_some}
use Rattle.shop_records.proofs.Puts.{found_one, message_ids_exact, message_ids_total}
use Rattle.shop_machine.specs.Machine.{Accepts, Refuses, StepAgain, StepNew, entry_of}
use Rattle.shop_machine.proofs.StaysWellFormed.{gives_well_formed}
use Rattle.shop_book.specs.declared.books.Book.{Ghosts}
use Rattle.shop_desk.specs.Handled.{IsHandled}
use Rattle.shop_audit.specs.Whole.{HoldsPart, IsWithin}
use Rattle.shop_audit.proofs.Counts.{entries_many}

one_longer : {X : Type 0} (x : X) (xs : List X) (n : ℕ) → length xs ≡ n → length (x ∷ xs) ≡ n + 1
one_longer x xs n e = omega (arith, e)

next_number : (n count number : ℕ) → n ≡ count → number ≡ count + 1 → number ≡ n + 1
next_number n count number e f = omega (arith, e, f)

-- what one message adds is in the other content, where its entry and what is kept of it are
module _ (texts : Texts) (whole before after : Content) (message : Message) (read : Reading) (answer : Reply) (accepts : Accepts texts before message read answer after) (within : IsWithin before whole)
    (number : ℕ) (next : number ≡ entry_count before + 1) (entry : EntryRow) (kept : Kept) (entered : entry_at whole number ≡ Some entry) (stored : kept_at whole entry.message_id ≡ Some kept)
    (written : entry_at after number ≡ Some entry) (reported : kept_at after entry.message_id ≡ Some kept) where
  abbrev made : EntryRow
  made = entry_of (entry_count before + 1) (max accepts.at (last_time before)) message accepts.change

  abbrev row : Kept
  row = record { command = texts.of_message message; reply = texts.of_reply accepts.change.reply }

  entries_with : after.entries ≡ insert before.entries made.number made
  entries_with = ap (λ (c : Content). c.entries) accepts.becomes

  kept_with : after.kept ≡ insert before.kept (message_id_of message) row
  kept_with = ap (λ (c : Content). c.kept) accepts.becomes

  there : entry_at after number ≡ Some made
  there =
      ap (λ (es : FinMap nat_cmp EntryRow). get es number) entries_with ∙ ap (λ (n : ℕ). get (insert before.entries made.number made) n) next
      ∙ get_same nat_cmp_total nat_cmp-IsAntisymmetric before.entries made.number made

  made_is : made ≡ entry
  made_is = same_some made entry (sym there ∙ written)

  of_message : entry.message_id ≡ message_id_of message
  of_message = sym (ap (λ (e : EntryRow). e.message_id) made_is)

  entries_next : (q : ℕ) (e : EntryRow) → entry_at after q ≡ Some e → entry_at whole q ≡ Some e
  entries_next q e is =
      elim (found_one nat_cmp_total nat_cmp-IsAntisymmetric before.entries made.number made q e (sym (ap (λ (es : FinMap nat_cmp EntryRow). get es q) entries_with) ∙ is)) [
        | inl h ↦ ap (λ (n : ℕ). entry_at whole n) (h.0 ∙ sym next) ∙ entered ∙ ap Some (sym made_is ∙ sym h.1)
        | inr h ↦ within.entries q e h.1
      ]

  kept_next : (q : MessageId) (r : Kept) → kept_at after q ≡ Some r → kept_at whole q ≡ Some r
  kept_next q r is =
      elim (found_one message_ids_total message_ids_exact before.kept (message_id_of message) row q r (sym (ap (λ (ks : FinMap message_id_cmp Kept). get ks q) kept_with) ∙ is)) [
        | inl h ↦
            let same : q ≡ entry.message_id = h.0 ∙ sym of_message in
            ap (λ (p : MessageId). kept_at whole p) same ∙ stored ∙ sym reported ∙ sym (ap (λ (p : MessageId). kept_at after p) same) ∙ is
        | inr h ↦ within.kept q r h.1
      ]

  within_next : IsWithin after whole
  within_next = record { entries = entries_next; kept = kept_next }

-- nothing was done yet
pub nothing_yet : {F : Type 0} (texts : Texts) (book : Ghosts F) (whole : Content) (held : F) → book.holds held fresh → HoldsPart texts book whole held 0
nothing_yet texts book whole held holds =
    record {
      content = fresh;
      given = record { history = []; gives = refl; well_formed = gives_well_formed texts [] fresh refl };
      many = refl;
      within = record {
        entries = λ number entry is. absurd (none_some entry (sym (get-empty nat_cmp number) ∙ is));
        kept = λ message_id row is. absurd (none_some row (sym (get-empty message_id_cmp message_id) ∙ is));
      };
      holds = holds;
    }

module _ {F : Type 0} (texts : Texts) (book : Ghosts F) (whole : Content) (mid new final : F) (message : Message) (answer : Reply) (count number : ℕ) (g : HoldsPart texts book whole mid count)
    (h : IsHandled texts book.stands (book.may_leave mid) (book.may_leave new) (book.holds new) g.content message answer) (is_message : IsMessage message)
    (none : kept_at g.content (message_id_of message) ≡ None) (accepted : refusal_in answer ≡ None) (next : number ≡ count + 1) where
  step : StepNew texts g.content message answer h.next
  step = subst (λ (o : Option Kept). MatchOption o (StepNew texts g.content message answer h.next) (λ row. StepAgain texts row message answer × (h.next ≡ g.content))) none h.step

  made_by : (read : Reading) × Accepts texts g.content message read answer h.next
  made_by =
      subst (λ (o : Option Refusal). MatchOption o ((read : Reading) × Accepts texts g.content message read answer h.next) (λ refusal. Refuses texts g.content message.command refusal × (h.next ≡ g.content))) accepted step

  many : entry_count g.content ≡ count
  many = entries_many texts g.given.history g.content g.given.gives ∙ g.many

  -- the book holds what one message more gave, where its entry and what is kept of it are in the other content
  pub given_next : (entry : EntryRow) (kept : Kept) → entry_at whole number ≡ Some entry → kept_at whole entry.message_id ≡ Some kept → entry_at h.next number ≡ Some entry → kept_at h.next entry.message_id ≡ Some kept
      → book.holds final h.next → HoldsPart texts book whole final number
  given_next entry kept entered stored written reported holds =
      record {
        content = h.next;
        given = record { history = record { message = message; read = made_by.0 } ∷ g.given.history; gives = (g.content, answer, g.given.gives, is_message, none, made_by.1); well_formed = h.well_formed };
        many = one_longer (record { message = message; read = made_by.0 }) g.given.history count g.many ∙ sym next;
        within = within_next texts whole g.content h.next message made_by.0 answer made_by.1 g.within number (next_number (entry_count g.content) count number many next) entry kept entered stored written reported;
        holds = holds;
      }
