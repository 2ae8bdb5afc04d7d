-- Entries are read back from the replies that report them.
use Rattle.std.proofs.Common.{◌≡◌, List, Bool, Some, refl, sym, ap, ◌∙◌, codes}
use Rattle.std.specs.Prelude.{All, option_map, option_and_then}
use Rattle.serde_json.specs.Data.{Data, boolean, number, unsigned}
use Rattle.serde_json.specs.Find.{get}
use Rattle.shop_records.specs.declared.journal.ReportedEntry.{ReportedEntry}
use Rattle.shop_records.specs.declared.messages.Message.{Message}
use Rattle.shop_records.specs.declared.messages.Reply.{Reply}
use Rattle.shop_records.specs.declared.messages.Reply.TheVariants as reply
use Rattle.shop_records.specs.Messages.{IsMessage, IsMade}
use Rattle.shop_forms.specs.Forms.{sent_of, reply_of, made_data, message_reported, reply_reported, reply_data, kept_message_of, kept_reply_of, json_texts, entry_data, entry_fields, entry_in_list, entries_at, entries_read, answer_of, sent_text, made_text, ReportsEntry}
use Rattle.shop_forms.proofs.Back.{sent_back, message_text_read, reply_text_read, reply_back}
use Rattle.shop_forms.proofs.FieldFacts.{wide_there, flag_there}
use Rattle.shop_forms.proofs.Lists.{rows_there}

pub kept_message_back : (message : Message) → IsMessage message → kept_message_of (json_texts.of_message message) ≡ Some message
kept_message_back message h = ap (option_and_then sent_of) (message_text_read message h) ∙ sent_back message h

kept_reply_back : (answer : Reply) → IsMade answer → kept_reply_of (json_texts.of_reply answer) ≡ Some answer
kept_reply_back answer h = ap (option_and_then reply_of) (reply_text_read answer h) ∙ reply_back answer h

-- the object of such a reply is what is reported about it in an entry
made_is : (answer : Reply) → IsMade answer → made_data answer ≡ reply_data answer
made_is (reply.AddMaterial material) h = refl
made_is (reply.Receive act count) h = refl
made_is (reply.AddOrder count first order) h = refl
made_is (reply.Reserve cuts job) h = refl
made_is (reply.Done job kerf pieces rack scrap) h = refl
made_is (reply.Break job kerf pieces rack scrap) h = refl
made_is (reply.Release job) h = refl
made_is (reply.Scrap part) h = refl
made_is (reply.GiveBack part) h = refl
made_is (reply.Import act count first order) h = refl
made_is (reply.Amend demand wanted) h = refl
made_is (reply.Undo job part) h = refl
made_is (reply.Note order) h = refl
made_is (reply.Extend count first order) h = refl
made_is (reply.Begin before job) h = refl
made_is _ made = absurd made

-- the fields of an entry with these values
fields_there : (d : Data) (e : ReportedEntry) (message answer : Data) → get (codes "at") d ≡ Some (number (unsigned e.at)) → get (codes "entry") d ≡ Some (number (unsigned e.entry))
    → get (codes "message") d ≡ Some message → get (codes "reply") d ≡ Some answer → sent_text message ≡ Some e.message → made_text answer ≡ Some e.reply
    → entry_fields d ≡ Some e
fields_there d e message answer p q r s sent made =
    rw (wide_there (codes "at") d e.at p, wide_there (codes "entry") d e.entry q, r, s, sent, made) refl

sent_there : (e : ReportedEntry) (h : ReportsEntry e) → sent_text (message_reported (kept_message_of e.message)) ≡ Some e.message
sent_there e h =
    let found : kept_message_of e.message ≡ Some h.sent = ap kept_message_of h.message ∙ kept_message_back h.sent h.is_message in
    ap (λ found. sent_text (message_reported found)) found ∙ ap (option_map json_texts.of_message) (sent_back h.sent h.is_message) ∙ ap Some (sym h.message)

made_there : (e : ReportedEntry) (h : ReportsEntry e) → made_text (reply_reported (kept_reply_of e.reply)) ≡ Some e.reply
made_there e h =
    let found : kept_reply_of e.reply ≡ Some h.answer = ap kept_reply_of h.reply ∙ kept_reply_back h.answer h.is_made in
    ap (λ found. made_text (reply_reported found)) found ∙ ap made_text (made_is h.answer h.is_made) ∙ ap (option_map json_texts.of_reply) (reply_back h.answer h.is_made) ∙ ap Some (sym h.reply)

entry_back : (e : ReportedEntry) → ReportsEntry e → entry_in_list (entry_data e) ≡ Some e
entry_back e h =
    fields_there (entry_data e) e (message_reported (kept_message_of e.message)) (reply_reported (kept_reply_of e.reply)) refl refl refl refl (sent_there e h) (made_there e h)

entries_there : (d : Data) (entries : List ReportedEntry) → entries_at d ≡ Some entries → (more : Bool) → get (codes "more") d ≡ Some (boolean more) → entries_read d ≡ Some (entries, more)
entries_there d entries is more also = rw (is, flag_there (codes "more") d more also) refl

pub history_back : (entries : List ReportedEntry) (more : Bool) → All ReportsEntry entries → answer_of (reply_data (reply.History entries more)) ≡ Some (reply.History entries more)
history_back entries more h =
    let d = reply_data (reply.History entries more) in
    ap (option_map (λ (found : List ReportedEntry × Bool). reply.History found.0 found.1))
    (entries_there d entries (rows_there entry_data ReportsEntry entry_in_list entry_back (codes "entries") d entries refl h) more refl)

pub story_back : (entries : List ReportedEntry) (more : Bool) → All ReportsEntry entries → answer_of (reply_data (reply.Story entries more)) ≡ Some (reply.Story entries more)
story_back entries more h =
    let d = reply_data (reply.Story entries more) in
    ap (option_map (λ (found : List ReportedEntry × Bool). reply.Story found.0 found.1))
    (entries_there d entries (rows_there entry_data ReportsEntry entry_in_list entry_back (codes "entries") d entries refl h) more refl)
