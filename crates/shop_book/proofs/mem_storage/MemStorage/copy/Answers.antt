use Rattle.std.proofs.Common.{rules, ◌≡◌, List, sym, ap, subst, ◌∙◌}
use Rattle.std.specs.Prelude.{IsTrue}
use Rattle.std.specs.FinMap.{from_sorted, is_sorted}
use Rattle.cut_measure.specs.Codes.{code_cmp}
use Rattle.shop_records.specs.Content.{message_id_cmp}
use Rattle.shop_records.specs.declared.imports.ImportRow.{ImportRow}
use Rattle.shop_records.specs.declared.texts.MessageId.{MessageId}
use Rattle.shop_records.specs.declared.journal.Entry.{Entry}
use Rattle.shop_records.specs.declared.records.JobHalt.{JobHalt}
use Rattle.std.specs.Ordering.{nat_cmp}
use Rattle.shop_records.specs.declared.texts.Kept.{Kept}
use Rattle.shop_rows.specs.Keys.{entry_key, halt_key, import_key}
use Rattle.shop_rows.specs.Rows.{map_of, rise}
use Rattle.shop_book.specs.FiledEntries.{AreEntriesFiled}
use Rattle.shop_book.proofs.EntriesFiled.{entries_stay}
use Rattle.shop_book.proofs.mem_storage.MemStorage.copy.Goals as goal

pub invariant_of-result : goal.invariant_of-result
invariant_of-result c =
    let old = c.args.self.now in
    let entries : c.in_ok-entries.entries.items ≡ old.entries.items = search rules in
    record {
      kept_rise = subst (λ (es : List (MessageId × Kept)). IsTrue (is_sorted message_id_cmp es)) (sym c.in_ok-kept.ensures) old.kept_rise;
      imports_rise = subst (λ (rows : List ImportRow). IsTrue (rise import_key code_cmp rows)) (sym c.in_ok-imports.ensures) old.imports_rise;
      halts_rise = subst (λ (rows : List JobHalt). IsTrue (rise halt_key nat_cmp rows)) (sym (c.in_ok-halts.ensures ∙ c.deref.ensures.value)) old.halts_rise;
      entries_rise = subst (λ (rows : List Entry). IsTrue (rise entry_key nat_cmp rows)) (sym entries) old.entries_rise;
      filed = subst (AreEntriesFiled c.in_ok-index.index) (sym entries) (entries_stay old.index c.in_ok-index.index old.entries.items c.in_ok-index.ensures old.filed);
    }

pub returns-clause-kept : goal.returns-clause-kept
returns-clause-kept c = ap (λ (es : List (MessageId × Kept)). from_sorted {R = message_id_cmp} es) c.in_ok-kept.ensures

pub returns-clause-imports : goal.returns-clause-imports
returns-clause-imports c = ap (map_of import_key code_cmp) c.in_ok-imports.ensures

pub returns-clause-halts : goal.returns-clause-halts
returns-clause-halts c = ap (map_of halt_key nat_cmp) (c.in_ok-halts.ensures ∙ c.deref.ensures.value)

pub returns-clause-entries : goal.returns-clause-entries
returns-clause-entries c =
    let same : c.in_ok-entries.entries.items ≡ c.args.self.now.entries.items = search rules in
    ap (map_of entry_key nat_cmp) same
