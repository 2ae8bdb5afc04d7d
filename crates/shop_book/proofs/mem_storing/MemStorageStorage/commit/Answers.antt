use Rattle.std.proofs.Common.{List, refl, sym, ap, subst, ◌∙◌}
use Rattle.std.specs.Prelude.{IsTrue}
use Rattle.std.specs.FinMap.{is_sorted}
use Rattle.std.specs.Option.{option_to_list}
use Rattle.std.specs.Cmp.{nat_cmp_total}
use Rattle.std.specs.Ordering.{nat_cmp}
use Rattle.std.specs.Cmp.Lexicographic.{nat_list_cmp_total}
use Rattle.cut_measure.specs.Codes.{code_cmp}
use Rattle.shop_records.specs.Content.{message_id_cmp, with_entry, with_halt, with_kept, with_import}
use Rattle.shop_records.specs.declared.imports.ImportRow.{ImportRow}
use Rattle.shop_records.specs.declared.journal.Entry.{Entry}
use Rattle.shop_records.specs.declared.records.JobHalt.{JobHalt}
use Rattle.shop_records.specs.declared.texts.Kept.{Kept}
use Rattle.shop_records.specs.declared.texts.MessageId.{MessageId}
use Rattle.shop_rows.specs.Keys.{entry_key, halt_key, import_key}
use Rattle.shop_rows.specs.Rows.{map_of, rise}
use Rattle.shop_book.proofs.Held.{entry_after, halt_after, import_after, kept_after, kept_sorted, map_after}
use Rattle.shop_records.specs.Elements.{IsIn}
use Rattle.shop_book.specs.FiledEntries.{IsEntryFiled}
use Rattle.shop_book.proofs.EntriesFiled.{entry_stays}
use Rattle.shop_book.proofs.JobsFiled.{each_after}
use Rattle.shop_book.proofs.mem_storing.MemStorageStorage.commit.Goals as goal

pub invariant_of-self-2 : goal.invariant_of-self-2
invariant_of-self-2 c =
    let old = c.args.self.now in
    let index = c.file_new_entry.new.self in
    let before = c.reserve_rows-3.new.rows.items in
    record {
      kept_rise = kept_sorted c.args.change.now.kept old.kept.entries c.keep_text.new.kept.entries old.kept_rise c.in_ok-keep_text.ensures.ok;
      imports_rise = c.put_some.ensures.rising;
      halts_rise = c.put_some-2.ensures.rising;
      entries_rise = c.put_copy.ensures.rising;
      filed =
          each_after entry_key (IsEntryFiled index) before c.put_copy.new.rows.items c.put_copy.ensures.rising c.args.change.now.entry c.put_copy.ensures.put
          (λ entry there. entry_stays old.index index entry c.file_new_entry.ensures.stays (old.filed entry (subst (IsIn entry) c.reserve_rows-3.ensures.items there)))
          c.in_ok-file_new_entry.ensures.filed;
    }

pub returns-clause-any : goal.returns-clause-any
returns-clause-any c never m was =
    let old = c.args.self.now in
    let import = c.in_ok-import.import in
    let halt = c.in_ok-halt.halt in
    record {
      kept = kept_after c.args.change.now.kept old.kept.entries c.keep_text.new.kept.entries old.kept_rise c.in_ok-keep_text.ensures.ok ∙ ap (with_kept c.args.change.now.kept) was.kept;
      imports =
          map_after import_key code_cmp nat_list_cmp_total (option_to_list import) old.imports.items c.reserve_rows-2.new.rows.items c.put_some.new.rows.items old.imports_rise c.reserve_rows-2.ensures.items c.put_some.ensures.put
          ∙ import_after import (map_of import_key code_cmp old.imports.items)
          ∙ (λ i. with_import (c.in_ok-import.ensures i) (was.imports i));
      halts =
          map_after halt_key nat_cmp nat_cmp_total (option_to_list halt) old.halts.items c.reserve_rows.new.rows.items c.put_some-2.new.rows.items old.halts_rise c.reserve_rows.ensures.items c.put_some-2.ensures.put
          ∙ halt_after halt (map_of halt_key nat_cmp old.halts.items)
          ∙ (λ i. with_halt (c.in_ok-halt.ensures i) (was.halts i));
      entries =
          map_after entry_key nat_cmp nat_cmp_total (option_to_list c.args.change.now.entry) old.entries.items c.reserve_rows-3.new.rows.items c.put_copy.new.rows.items old.entries_rise c.reserve_rows-3.ensures.items c.put_copy.ensures.put
          ∙ entry_after c.args.change.now.entry (map_of entry_key nat_cmp old.entries.items)
          ∙ ap (with_entry c.args.change.now.entry) was.entries;
    }

pub returns-clause-ok : goal.returns-clause-ok
returns-clause-ok c clean m was fits = returns-clause-any c refl m was

pub invariant_of-self-in-Break-branch-5 : goal.invariant_of-self-in-Break-branch-5
invariant_of-self-in-Break-branch-5 c =
    let old = c.args.self.now in
    record {
      kept_rise = old.kept_rise;
      imports_rise = subst (λ (rows : List ImportRow). IsTrue (rise import_key code_cmp rows)) (sym c.reserve_rows-2.ensures.items) old.imports_rise;
      halts_rise = subst (λ (rows : List JobHalt). IsTrue (rise halt_key nat_cmp rows)) (sym c.reserve_rows.ensures.items) old.halts_rise;
      entries_rise = subst (λ (rows : List Entry). IsTrue (rise entry_key nat_cmp rows)) (sym c.reserve_rows-3.ensures.items) old.entries_rise;
      filed = λ entry there. old.filed entry (subst (IsIn entry) c.reserve_rows-3.ensures.items there);
    }

pub invariant_of-self-in-Break-branch-6 : goal.invariant_of-self-in-Break-branch-6
invariant_of-self-in-Break-branch-6 c =
    let old = c.args.self.now in
    record {
      kept_rise = old.kept_rise;
      imports_rise = subst (λ (rows : List ImportRow). IsTrue (rise import_key code_cmp rows)) (sym c.reserve_rows-2.ensures.items) old.imports_rise;
      halts_rise = subst (λ (rows : List JobHalt). IsTrue (rise halt_key nat_cmp rows)) (sym c.reserve_rows.ensures.items) old.halts_rise;
      entries_rise = subst (λ (rows : List Entry). IsTrue (rise entry_key nat_cmp rows)) (sym c.reserve_rows-3.ensures.items) old.entries_rise;
      filed = λ entry there. entry_stays old.index c.file_new_entry.new.self entry c.file_new_entry.ensures.stays (old.filed entry (subst (IsIn entry) c.reserve_rows-3.ensures.items there));
    }

pub invariant_of-self-in-Break-branch-7 : goal.invariant_of-self-in-Break-branch-7
invariant_of-self-in-Break-branch-7 c =
    let old = c.args.self.now in
    record {
      kept_rise = subst (λ (es : List (MessageId × Kept)). IsTrue (is_sorted message_id_cmp es)) (sym c.in_err-keep_text.ensures.err) old.kept_rise;
      imports_rise = subst (λ (rows : List ImportRow). IsTrue (rise import_key code_cmp rows)) (sym c.reserve_rows-2.ensures.items) old.imports_rise;
      halts_rise = subst (λ (rows : List JobHalt). IsTrue (rise halt_key nat_cmp rows)) (sym c.reserve_rows.ensures.items) old.halts_rise;
      entries_rise = subst (λ (rows : List Entry). IsTrue (rise entry_key nat_cmp rows)) (sym c.reserve_rows-3.ensures.items) old.entries_rise;
      filed = λ entry there. entry_stays old.index c.file_new_entry.new.self entry c.file_new_entry.ensures.stays (old.filed entry (subst (IsIn entry) c.reserve_rows-3.ensures.items there));
    }
