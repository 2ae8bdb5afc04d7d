-- What the INSERT of each table makes of the books.
use Rattle.std.proofs.Common.{◌≡◌, ℕ, pos, Bool, true, false, cond, ◌||◌, List, [], ◌∷◌, Option, Some, None, Ok, is_some, IsTrue, refl, sym, ap, ◌∙◌}
use Rattle.std.specs.FinMap.{get, insert, get-insert, nat_cmp-IsAntisymmetric}
use Rattle.std.specs.FinSet as set
use Rattle.std.specs.Cmp.{nat_cmp_total}
use Rattle.std.specs.Ordering.{eq_by_cmp}
use Rattle.sqlite_value.specs.declared.value.Value.TheVariants.{Int, Text, Null}
use Rattle.sqlite.specs.State.{State, Executes}
use Rattle.sqlite_rules.specs.Edit.{next_rowid}
use Rattle.cut_measure.specs.Codes.{code_cmp, is_code}
use Rattle.cut_tree.specs.Spelling.{text_of}
use Rattle.shop_records.specs.Columns.{state_of}
use Rattle.shop_records.specs.Content.{has_order}
use Rattle.shop_records.specs.declared.records.Material.{Material}
use Rattle.shop_records.specs.declared.records.Part.{Part}
use Rattle.shop_records.specs.declared.records.Job.{Job}
use Rattle.shop_records.specs.declared.records.Demand.{Demand}
use Rattle.shop_records.specs.declared.records.Totals.{Totals}
use Rattle.shop_records.specs.declared.imports.ImportRow.{ImportRow}
use Rattle.shop_records.specs.declared.texts.KeptMessage.{KeptMessage}
use Rattle.shop_records.specs.declared.journal.Entry.{Entry}
use Rattle.shop_records.specs.Journal.{word_name}
use Rattle.shop_statements.specs.declared.uses.JobOrder.{JobOrder}
use Rattle.shop_statements.specs.Layout.{journal_table, uses_table, loosened, materials_table, parts_table, jobs_table, orders_table, demands_table, kept_table, imports_table, totals2_table}
use Rattle.shop_statements.specs.Rows.{IsOwnJob, kind_number, state_number, job_state_number, turn_number, form_number, form_material, material_row, part_row, job_row, order_row, demand_row, kept_row, import_row, totals_row, job_columns, demand_columns, entry_columns, journal_row, order_text, act_number, node_number, use_row}
use Rattle.shop_statements.specs.Changes.{with_material, with_part, with_job, with_order, with_demand, with_kept, with_import, with_totals, with_entry, with_use}
use Rattle.shop_statements.specs.Shown.{Books, Shows}
use Rattle.shop_statements.specs.Values.{IsEntryValue, IsPartValue}
use Rattle.shop_statements.proofs.Finding.{code_total, code_same, name_total, name_same, message_id_total, message_id_same, use_total, use_same}
use Rattle.shop_statements.proofs.Keys.{cast-Int, cast-Null, news_are, news_keyed}
use Rattle.shop_statements.proofs.KeyedRows.{with_material_keyed, with_part_keyed, with_job_keyed, with_demand_keyed, with_import_keyed, with_entry_keyed}
use Rattle.shop_statements.proofs.Standing.{materials_shown, parts_shown, jobs_shown, orders_shown, demands_shown, kept_shown, imports_shown, totals2_shown, journal_shown, uses_shown}
use Rattle.shop_statements.proofs.Texts.{put_material_text, put_material_terms, put_material_is, put_part_text, put_part_terms, put_part_is, put_job_text, put_job_terms, put_job_is, put_order_text, put_order_terms, put_order_is, put_demand_text, put_demand_terms, put_demand_is, put_kept_text, put_kept_terms, put_kept_is, put_import_text, put_import_terms, put_import_is, put_totals_text, put_totals_terms, put_totals_is, put_entry_text, put_entry_terms, put_entry_is, put_use_text, put_use_terms, put_use_is}
use Rattle.shop_statements.proofs.Writing.{puts, rows_with}

module _ (old new : State) (count : ℕ) (b : Books) (has : Shows old b) where
  pub puts_material : (x : Material) → IsTrue (is_code x.code) → get b.content.materials x.code ≡ None → Executes put_material_text (material_row (x.code, x)) old new (Ok count) → Shows new (with_material x b)
  puts_material x coded fresh ran =
      let id = next_rowid (old.now.trees 2) in
      let put = puts old new has.schema put_material_text (material_row (x.code, x)) 1 (loosened has.schema.materials materials_table) refl put_material_terms 6 (put_material_is old.now.schema has.schema) (Int id ∷ material_row (x.code, x)) count
      (news_are (loosened has.schema.materials materials_table) (material_row (x.code, x)) (old.now.trees 2) (λ i. Text x.code ∷ cast-Int (pos (kind_number x.kind)) i ∷ cast-Int (pos x.limits.kerf) i ∷ cast-Int (pos x.limits.min_long) i ∷ cast-Int (pos x.limits.min_short) i ∷ [])) ran in
      materials_shown old new b has _ _ (insert b.content.materials x.code x) put (rows_with code_total code_same 1 material_row old new 2 (Int id ∷ material_row (x.code, x)) id b.content.materials x.code x fresh refl refl has.stands.materials put) (with_material_keyed b.content has.keyed x coded fresh)

  pub puts_part : (x : Part) → IsPartValue x → get b.content.parts x.name ≡ None → Executes put_part_text (part_row (x.name, x)) old new (Ok count) → Shows new (with_part x b)
  puts_part x value fresh ran =
      let id = next_rowid (old.now.trees 4) in
      let put = puts old new has.schema put_part_text (part_row (x.name, x)) 2 (loosened has.schema.parts parts_table) refl put_part_terms 13 (put_part_is old.now.schema has.schema) (Int id ∷ part_row (x.name, x)) count
      (news_are (loosened has.schema.parts parts_table) (part_row (x.name, x)) (old.now.trees 4) (λ i. cast-Int (pos x.name.act) i ∷ cast-Int (pos x.name.node) i ∷ Text x.material ∷ Text x.batch ∷ cast-Int (pos x.root.act) i ∷ cast-Int (pos x.root.node) i ∷ cast-Int (pos x.x) i ∷ cast-Int (pos x.y) i ∷ cast-Int (pos x.size.w) i ∷ cast-Int (pos x.size.h) i ∷ cast-Int (pos (state_number x.state)) i ∷ cast-Int (pos (state_of x.state)) i ∷ [])) ran in
      parts_shown old new b has _ _ (insert b.content.parts x.name x) put (rows_with name_total name_same 1 part_row old new 4 (Int id ∷ part_row (x.name, x)) id b.content.parts x.name x fresh refl refl has.stands.parts put) (with_part_keyed b.content has.keyed x value fresh)

  pub puts_job : (x : Job) → get b.content.jobs x.act ≡ None → IsOwnJob b.content x.act x → Executes put_job_text (Int (pos x.act) ∷ job_columns x) old new (Ok count) → Shows new (with_job x b)
  puts_job x fresh own ran =
      let put = puts old new has.schema put_job_text (Int (pos x.act) ∷ job_columns x) 3 (loosened has.schema.jobs jobs_table) refl put_job_terms 6 (put_job_is old.now.schema has.schema) (job_row (x.act, x)) count
      (news_keyed (loosened has.schema.jobs jobs_table) (Null ∷ job_columns x) (old.now.trees 6) (pos x.act) (λ i. cast-Null i ∷ cast-Int (pos x.part.act) i ∷ cast-Int (pos x.part.node) i ∷ Text (text_of x.plan.tree) ∷ cast-Int (pos (job_state_number x.state)) i ∷ [])) ran in
      jobs_shown old new b has _ _ (insert b.content.jobs x.act x) put (rows_with nat_cmp_total nat_cmp-IsAntisymmetric 0 job_row old new 6 (job_row (x.act, x)) (pos x.act) b.content.jobs x.act x fresh refl refl has.stands.jobs put) (with_job_keyed b.content has.keyed x own)

  pub puts_demand : (x : Demand) → get b.content.demands x.number ≡ None → Executes put_demand_text (Int (pos x.number) ∷ demand_columns x) old new (Ok count) → Shows new (with_demand x b)
  puts_demand x fresh ran =
      let put = puts old new has.schema put_demand_text (Int (pos x.number) ∷ demand_columns x) 5 (loosened has.schema.demands demands_table) refl put_demand_terms 12 (put_demand_is old.now.schema has.schema) (demand_row (x.number, x)) count
      (news_keyed (loosened has.schema.demands demands_table) (Null ∷ demand_columns x) (old.now.trees 9) (pos x.number) (λ i. cast-Null i ∷ Text x.order ∷ cast-Int (pos x.line) i ∷ Text x.material ∷ cast-Int (pos x.size.w) i ∷ cast-Int (pos x.size.h) i ∷ cast-Int (pos (turn_number x.may_turn)) i ∷ cast-Int (pos x.worth) i ∷ cast-Int (pos x.wanted) i ∷ cast-Int (pos x.reserved) i ∷ cast-Int (pos x.made) i ∷ [])) ran in
      demands_shown old new b has _ _ (insert b.content.demands x.number x) put (rows_with nat_cmp_total nat_cmp-IsAntisymmetric 0 demand_row old new 9 (demand_row (x.number, x)) (pos x.number) b.content.demands x.number x fresh refl refl has.stands.demands put) (with_demand_keyed b.content has.keyed x)

  pub puts_kept : (x : KeptMessage) → get b.content.kept x.message_id ≡ None → Executes put_kept_text (kept_row (x.message_id, x.kept)) old new (Ok count) → Shows new (with_kept x b)
  puts_kept x fresh ran =
      let id = next_rowid (old.now.trees 11) in
      let put = puts old new has.schema put_kept_text (kept_row (x.message_id, x.kept)) 6 (loosened has.schema.kept kept_table) refl put_kept_terms 5 (put_kept_is old.now.schema has.schema) (Int id ∷ kept_row (x.message_id, x.kept)) count
      (news_are (loosened has.schema.kept kept_table) (kept_row (x.message_id, x.kept)) (old.now.trees 11) (λ i. cast-Int (pos x.message_id.terminal) i ∷ cast-Int (pos x.message_id.number) i ∷ Text x.kept.command ∷ Text x.kept.reply ∷ [])) ran in
      kept_shown old new b has _ _ (insert b.content.kept x.message_id x.kept) put (rows_with message_id_total message_id_same 1 kept_row old new 11 (Int id ∷ kept_row (x.message_id, x.kept)) id b.content.kept x.message_id x.kept fresh refl refl has.stands.kept put)

  pub puts_import : (x : ImportRow) → get b.content.imports x.order ≡ None → Executes put_import_text (import_row (x.order, x)) old new (Ok count) → Shows new (with_import x b)
  puts_import x fresh ran =
      let id = next_rowid (old.now.trees 13) in
      let put = puts old new has.schema put_import_text (import_row (x.order, x)) 7 (loosened has.schema.imports imports_table) refl put_import_terms 6 (put_import_is old.now.schema has.schema) (Int id ∷ import_row (x.order, x)) count
      (news_are (loosened has.schema.imports imports_table) (import_row (x.order, x)) (old.now.trees 13) (λ i. Text x.order ∷ cast-Int (pos (form_number x.form)) i ∷ Text (form_material x.form) ∷ Text x.text ∷ Text x.reply ∷ [])) ran in
      imports_shown old new b has _ _ (insert b.content.imports x.order x) put (rows_with code_total code_same 1 import_row old new 13 (Int id ∷ import_row (x.order, x)) id b.content.imports x.order x fresh refl refl has.stands.imports put) (with_import_keyed b.content has.keyed x)

  pub puts_entry : (x : Entry) → IsEntryValue x → get b.content.entries x.number ≡ None → Executes put_entry_text (Int (pos x.number) ∷ entry_columns x) old new (Ok count) → Shows new (with_entry x b)
  puts_entry x value fresh ran =
      let put = puts old new has.schema put_entry_text (Int (pos x.number) ∷ entry_columns x) 10 (loosened has.schema.journal journal_table) refl put_entry_terms 11 (put_entry_is old.now.schema has.schema) (journal_row (x.number, x)) count
      (news_keyed (loosened has.schema.journal journal_table) (Null ∷ entry_columns x) (old.now.trees 19) (pos x.number) (λ i. cast-Null i ∷ cast-Int (pos x.at) i ∷ cast-Int (pos x.message_id.terminal) i ∷ cast-Int (pos x.message_id.number) i ∷ Text (word_name x.word) ∷ cast-Int (pos x.act) i ∷ cast-Int (pos x.job) i ∷ Text (order_text x.order) ∷ cast-Int (pos (act_number x.part)) i ∷ cast-Int (pos (node_number x.part)) i ∷ [])) ran in
      journal_shown old new b has _ _ (insert b.content.entries x.number x) put (rows_with nat_cmp_total nat_cmp-IsAntisymmetric 0 journal_row old new 19 (journal_row (x.number, x)) (pos x.number) b.content.entries x.number x fresh refl refl has.stands.journal put) (with_entry_keyed b.content has.keyed x value)

  pub puts_use : (x : JobOrder) → get b.uses x ≡ None → Executes put_use_text (use_row (x, tt)) old new (Ok count) → Shows new (with_use x b)
  puts_use x fresh ran =
      let id = next_rowid (old.now.trees 20) in
      let put = puts old new has.schema put_use_text (use_row (x, tt)) 11 (loosened has.schema.uses uses_table) refl put_use_terms 3 (put_use_is old.now.schema has.schema) (Int id ∷ use_row (x, tt)) count
      (news_are (loosened has.schema.uses uses_table) (use_row (x, tt)) (old.now.trees 20) (λ i. cast-Int (pos x.job) i ∷ Text x.order ∷ [])) ran in
      uses_shown old new b has _ _ (insert b.uses x tt) put (rows_with use_total use_same 1 use_row old new 20 (Int id ∷ use_row (x, tt)) id b.uses x tt fresh refl refl has.stands.uses put)

  pub puts_totals : (code : List ℕ) (x : Totals) → get b.totals code ≡ None → Executes put_totals_text (totals_row (code, x)) old new (Ok count) → Shows new (with_totals code x b)
  puts_totals code x fresh ran =
      let id = next_rowid (old.now.trees 17) in
      let put = puts old new has.schema put_totals_text (totals_row (code, x)) 9 (loosened has.schema.totals2 totals2_table) refl put_totals_terms 9 (put_totals_is old.now.schema has.schema) (Int id ∷ totals_row (code, x)) count
      (news_are (loosened has.schema.totals2 totals2_table) (totals_row (code, x)) (old.now.trees 17) (λ i. Text code ∷ cast-Int (pos x.received) i ∷ cast-Int (pos x.stock) i ∷ cast-Int (pos x.rack) i ∷ cast-Int (pos x.pieces) i ∷ cast-Int (pos x.kerf) i ∷ cast-Int (pos x.scrap) i ∷ cast-Int (pos x.returned) i ∷ [])) ran in
      totals2_shown old new b has _ _ (insert b.totals code x) put (rows_with code_total code_same 1 totals_row old new 17 (Int id ∷ totals_row (code, x)) id b.totals code x fresh refl refl has.stands.totals2 put)

  pub puts_order : (code : List ℕ) → has_order b.content code ≡ false → Executes put_order_text (order_row (code, tt)) old new (Ok count) → Shows new (with_order code b)
  puts_order code fresh ran =
      let id = next_rowid (old.now.trees 7) in
      let codes = has.stands.orders.codes in
      let none : get codes code ≡ None = no_row (get codes code) (sym (has.stands.orders.there code) ∙ fresh) in
      let put = puts old new has.schema put_order_text (order_row (code, tt)) 4 (loosened has.schema.orders orders_table) refl put_order_terms 2 (put_order_is old.now.schema has.schema) (Int id ∷ order_row (code, tt)) count
      (news_are (loosened has.schema.orders orders_table) (order_row (code, tt)) (old.now.trees 7) refl) ran in
      orders_shown old new b has _ _ (set.insert b.content.orders code) put (record {
        codes = insert codes code tt;
        there = λ q. set.contains-insert code_total b.content.orders code q ∙ ap (λ c. eq_by_cmp code_cmp q code || c) (has.stands.orders.there q) ∙ either (eq_by_cmp code_cmp q code) (get codes q) ∙ sym (ap is_some (get-insert code_total codes code tt q));
        rows = rows_with code_total code_same 1 order_row old new 7 (Int id ∷ order_row (code, tt)) id codes code tt none refl refl has.stands.orders.rows put;
      })
    where
      no_row : (o : Option (Unit {0})) → is_some o ≡ false → o ≡ None
      no_row None h = refl
      no_row (Some u) h = absurd (cc)

      either : (c : Bool) (o : Option (Unit {0})) → (c || is_some o) ≡ is_some (cond c (Some tt) o)
      either true o = refl
      either false o = refl
