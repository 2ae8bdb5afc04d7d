-- No columns stand for two entries.
use Rattle.std.proofs.Common.{◌≡◌, ◌≤◌, arith, ℕ, List, [], ◌∷◌, Option, Some, None, IfSome, IsTrue, refl, sym, ap, ◌∙◌}
use Rattle.sqlite_value.specs.Order.{Row}
use Rattle.cut_measure.specs.Codes.{is_code}
use Rattle.cut_measure.specs.Names.{Name, IsName}
use Rattle.shop_records.specs.declared.journal.Entry.{Entry}
use Rattle.shop_records.specs.Journal.{word_name}
use Rattle.shop_records.proofs.WordNames.{one_word}
use Rattle.shop_statements.specs.Rows.{act_number, entry_columns, node_number, order_text}
use Rattle.shop_statements.specs.Shown.{IsRowOf}
use Rattle.shop_statements.specs.Values.{IsEntryValue, IsOwnEntry}

no_code : (code : List ℕ) → IsTrue (is_code code) → [] ≡ code → ⊥
no_code [] is h = empty_code is
  where
    empty_code : IsTrue (is_code []) → ⊥
    empty_code e = cc
no_code (b ∷ bs) is h = cc

one_order : (c d : Option (List ℕ)) → IfSome c (λ code. IsTrue (is_code code)) → IfSome d (λ code. IsTrue (is_code code)) → order_text c ≡ order_text d → c ≡ d
one_order None None p q e = refl
one_order None (Some code) p q e = absurd (no_code code q e)
one_order (Some code) None p q e = absurd (no_code code p (sym e))
one_order (Some a) (Some b) p q e = ap Some e

no_act : (n : ℕ) → 1 ≤ n → 0 ≡ n → ⊥
no_act n least h = omega (arith, least, h)

one_part : (p q : Option Name) → IfSome p IsName → IfSome q IsName → act_number p ≡ act_number q → node_number p ≡ node_number q → p ≡ q
one_part None None i j e f = refl
one_part None (Some name) i j e f = absurd (no_act name.act j.0 e)
one_part (Some name) None i j e f = absurd (no_act name.act i.0 (sym e))
one_part (Some m) (Some n) i j e f = λ i. Some (record { act = e i; node = f i })

pub one_entry : (d e : Entry) → d.number ≡ e.number → entry_columns d ≡ entry_columns e → IsEntryValue d → IsEntryValue e → d ≡ e
one_entry d e number same v w =
    let at : d.at ≡ e.at = cc in
    let terminal : d.message_id.terminal ≡ e.message_id.terminal = cc in
    let own : d.message_id.number ≡ e.message_id.number = cc in
    let name : word_name d.word ≡ word_name e.word = cc in
    let act : d.act ≡ e.act = cc in
    let job : d.job ≡ e.job = cc in
    let text : order_text d.order ≡ order_text e.order = cc in
    let part_act : act_number d.part ≡ act_number e.part = cc in
    let part_node : node_number d.part ≡ node_number e.part = cc in
    let is_word = one_word d.word e.word name in
    let is_order = one_order d.order e.order v.order w.order text in
    let is_part = one_part d.part e.part v.part w.part part_act part_node in
    λ i. record { number = number i; message_id = record { terminal = terminal i; number = own i }; at = at i; word = is_word i; act = act i; job = job i; order = is_order i; part = is_part i }

-- the entry of a row that was found is the one that was found
pub found_entry : (number : ℕ) (o : Option Entry) (row : Row) (x : Entry) (back : Row → Row) → IsRowOf (IsOwnEntry number) entry_columns o (Some row) → ((y : Entry) → back (entry_columns y) ≡ entry_columns y)
    → back row ≡ entry_columns x → x.number ≡ number → IsEntryValue x → Some x ≡ o
found_entry number None row x back h whole is named value = absurd (let e = h.shown in cc)
found_entry number (Some y) row x back h whole is named value =
    let e : row ≡ entry_columns y = let s = h.shown in cc in
    let own = h.known y refl in
    ap Some (one_entry x y (named ∙ sym own.0) (sym is ∙ ap back e ∙ whole y) value own.1)

pub no_entry : (number : ℕ) (o : Option Entry) → IsRowOf (IsOwnEntry number) entry_columns o None → None ≡ o
no_entry number None h = refl
no_entry number (Some y) h = absurd (let e = h.shown in cc)
