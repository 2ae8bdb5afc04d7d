-- As many messages are kept as there are entries, where a history gives a content of which none was forgotten.
use Rattle.std.proofs.Common.{◌≡◌, ◌≤◌, ℕ, zero, suc, List, ◌∷◌, length, refl, sym, ap, ◌∙◌, arith}
use Rattle.std.specs.Prelude.{Option, Some, IsSome}
use Rattle.std.specs.FinMap.{len}
use Rattle.std.proofs.lemmas.List.{length-map}
use Rattle.shop_records.specs.declared.journal.Entry.{Entry as EntryRow}
use Rattle.shop_records.specs.Messages.{Texts, message_id_of}
use Rattle.shop_records.specs.Content.{Content, entry_at, entry_count}
use Rattle.shop_records.proofs.Puts.{some_known}
use Rattle.shop_machine.specs.History.{Entry, GivesAll, messages_of, message_id_before, message_ids_to}
use Rattle.shop_machine.proofs.Newest.{all_entered, all_gives, newest}
use Rattle.shop_machine.proofs.StaysWellFormed.{gives_well_formed}

-- ---- as many messages are kept as there are entries

one_longer : {X : Type 0} (x : X) (xs : List X) (n : ℕ) → length xs ≡ n → length (x ∷ xs) ≡ suc n
one_longer x xs n e = omega (arith, e)

message_ids_many : (content : Content) (n : ℕ) → ((k : ℕ) → 1 ≤ k → k ≤ n → IsSome (entry_at content k)) → length (message_ids_to n content) ≡ n
message_ids_many content zero there = refl
message_ids_many content (suc n) there =
    by (some_known (entry_at content (suc n)) (there (suc n) (omega arith) (omega arith))) (message_ids_many content n (λ k least most. there k least (omega (arith, most))))
  where
    by : (entry : EntryRow) × (entry_at content (suc n) ≡ Some entry) → length (message_ids_to n content) ≡ n → length (message_ids_to (suc n) content) ≡ suc n
    by (entry, is) rest = ap (λ (o : Option EntryRow). length (message_id_before o (message_ids_to n content))) is ∙ one_longer entry.message_id (message_ids_to n content) n rest

module _ (texts : Texts) (history : List Entry) (content : Content) (gives : GivesAll texts history content) where
  pub kept_many : len content.kept ≡ entry_count content
  kept_many =
      (newest texts history content (all_gives texts history content gives)).kept
      ∙ sym (length-map history (λ (e : Entry). e.message)) ∙ sym (length-map (messages_of history) message_id_of)
      ∙ ap length (all_entered texts history content gives)
      ∙ message_ids_many content (entry_count content) (gives_well_formed texts history content (all_gives texts history content gives)).entries.no_gap

  -- there are as many entries as messages in the history
  pub entries_many : entry_count content ≡ length history
  entries_many = sym kept_many ∙ (newest texts history content (all_gives texts history content gives)).kept
