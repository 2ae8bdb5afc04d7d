-- Entries as values and as text.
use Rattle.std.proofs.Common.{◌≡◌, ℕ, suc, ◌<◌, ◌≤◌, ◌^◌, List, map, Some, refl, arith, codes}
use Rattle.std.specs.Prelude.{All, max}
use Rattle.std.proofs.Math.Nat.{max-le}
use Rattle.json.proofs.Printed.Decimals.{IsNumber-decimal}
use Rattle.json.specs.Tree.{ItemsHaveNumbers, HasNumbers, depth, items_depth}
use Rattle.serde_json.specs.Data.{Data, object, member, no_members}
use Rattle.serde_json.specs.Read.{of_json, of_items}
use Rattle.serde_json.specs.View.{items_of}
use Rattle.serde_json.specs.Written.{outline, items_outline}
use Rattle.serde_json.proofs.Numbers.{number_of-decimal}
use Rattle.shop_records.specs.declared.journal.ReportedEntry.{ReportedEntry}
use Rattle.shop_forms.specs.Fields.{number_member}
use Rattle.shop_forms.specs.Forms.{entry_data, kept_message_of, kept_reply_of, message_reported, reply_reported, HasWideEntry}
use Rattle.shop_forms.proofs.Lists.{rows_numbers, rows_deep, rows_json}
use Rattle.shop_forms.proofs.Readable.{IsReadable, message_reported_readable, reply_reported_readable}

message_in : (e : ReportedEntry) → HasWideEntry e → IsReadable (message_reported (kept_message_of e.message))
message_in e h = message_reported_readable (kept_message_of e.message) h.2

reply_in : (e : ReportedEntry) → HasWideEntry e → IsReadable (reply_reported (kept_reply_of e.reply))
reply_in e h = reply_reported_readable (kept_reply_of e.reply) h.3

entry_numbers : (e : ReportedEntry) → HasWideEntry e → HasNumbers (outline (entry_data e))
entry_numbers e h =
    (IsNumber-decimal e.at h.0, (IsNumber-decimal e.entry h.1, ((message_in e h).0, ((reply_in e h).0, tt))))

-- an entry with these two objects
abbrev pub entry_with : (at entry : ℕ) (message answer : Data) → Data
entry_with at entry message answer =
    object (number_member (codes "at") at (number_member (codes "entry") entry
    (member (codes "message") message (member (codes "reply") answer no_members))))

json_by : (at entry : ℕ) (message answer : Data) → at < 2 ^ 64 → entry < 2 ^ 64 → of_json (outline message) ≡ Some message → of_json (outline answer) ≡ Some answer
    → of_json (outline (entry_with at entry message answer)) ≡ Some (entry_with at entry message answer)
json_by at entry message answer h k is also = rw (number_of-decimal at h, number_of-decimal entry k, is, also) refl

entry_json : (e : ReportedEntry) → HasWideEntry e → of_json (outline (entry_data e)) ≡ Some (entry_data e)
entry_json e h =
    json_by e.at e.entry (message_reported (kept_message_of e.message)) (reply_reported (kept_reply_of e.reply)) h.0 h.1 (message_in e h).2 (reply_in e h).2

deep_by : (m n : ℕ) → m ≤ 3 → n ≤ 3 → suc (max 0 (max 0 (max m (max n 0)))) ≤ 4
deep_by m n h k =
    let e : max 0 (max 0 (max m (max n 0))) ≤ 3 = max-le (omega arith) (max-le (omega arith) (max-le h (max-le k (omega arith)))) in omega (arith, e)

entry_deep : (e : ReportedEntry) → HasWideEntry e → depth (outline (entry_data e)) ≤ 4
entry_deep e h =
    deep_by (depth (outline (message_reported (kept_message_of e.message)))) (depth (outline (reply_reported (kept_reply_of e.reply)))) (message_in e h).1 (reply_in e h).1

pub entries_numbers : (es : List ReportedEntry) → All HasWideEntry es → ItemsHaveNumbers (items_outline (items_of (map entry_data es)))
entries_numbers es h = rows_numbers entry_data HasWideEntry entry_numbers es h

pub entries_deep : (es : List ReportedEntry) → All HasWideEntry es → items_depth (items_outline (items_of (map entry_data es))) ≤ 4
entries_deep es h = rows_deep entry_data HasWideEntry 4 entry_deep es h

pub entries_json : (es : List ReportedEntry) → All HasWideEntry es → of_items (items_outline (items_of (map entry_data es))) ≡ Some (items_of (map entry_data es))
entries_json es h = rows_json entry_data HasWideEntry entry_json es h

-- an object with a list of entries first, and two members after it
pub entries_shallow : (n : ℕ) → n ≤ 4 → suc (max (suc n) (max 0 (max 0 0))) ≤ 127
entries_shallow n h = let e : max (suc n) (max 0 (max 0 0)) ≤ 126 = max-le (omega (arith, h)) (omega arith) in omega (arith, e)
