-- What the UPDATE of each table makes of the books.
use Rattle.std.proofs.Common.{◌≡◌, ◌<◌, ◌^◌, ℕ, pos, List, [], ◌∷◌, drop, filter, codes, Some, Ok, refl, sym, ap, subst, ◌∙◌}
use Rattle.std.specs.FinMap.{get, insert, entries, nat_cmp-IsAntisymmetric}
use Rattle.std.proofs.lemmas.List.Sorted.{IsPermutation-sym, IsPermutation-middle}
use Rattle.shop_statements.proofs.Puts.{added}
use Rattle.std.specs.Cmp.{nat_cmp_total}
use Rattle.std.specs.Ordering.{eq_by_cmp, nat_cmp}
use Rattle.sqlite_value.specs.declared.value.Value.TheVariants.{Int, Text, Null}
use Rattle.sqlite_value.specs.Order.{Row}
use Rattle.sqlite_trees.specs.Tree.{rowid}
use Rattle.sqlite.specs.State.{State, Executes}
use Rattle.cut_measure.specs.Codes.{code_cmp}
use Rattle.cut_measure.specs.Names.{Name, name_cmp}
use Rattle.cut_tree.specs.Spelling.{text_of}
use Rattle.shop_records.specs.Columns.{state_of}
use Rattle.shop_records.specs.Content.{in_state}
use Rattle.shop_records.specs.declared.records.Part.{Part}
use Rattle.shop_records.specs.declared.records.State.{State as PartState}
use Rattle.shop_records.specs.declared.records.Job.{Job}
use Rattle.shop_records.specs.declared.records.JobState.{JobState}
use Rattle.shop_records.specs.declared.records.Demand.{Demand}
use Rattle.shop_records.specs.declared.records.Totals.{Totals}
use Rattle.shop_statements.specs.Layout.{loosened, meta_table, parts_table, jobs_table, demands_table, totals2_table}
use Rattle.shop_statements.specs.Rows.{AreRows, IsKeyed, IsOwnJob, state_number, job_state_number, turn_number, meta_row, meta_entries, part_row, job_row, demand_row, totals_row, part_columns, job_columns, demand_columns, totals_columns}
use Rattle.shop_statements.specs.Changes.{with_last_act, with_last_demand}
use Rattle.shop_statements.specs.Shown.{Books, Shows}
use Rattle.shop_statements.specs.Values.{IsPartValue}
use Rattle.shop_statements.proofs.Finding.{code_total, code_same, name_total, name_same, is_word, word_tests, word_later, is_number, number_tests, is_two, two_tests, two_later}
use Rattle.shop_statements.proofs.Keys.{cast-Int, cast-Null, news_again, located, reordered}
use Rattle.shop_statements.proofs.Maps.{entry_at_is, listed}
use Rattle.shop_statements.proofs.KeyedRows.{with_moved_keyed, with_job_keyed, with_demand_keyed}
use Rattle.shop_statements.proofs.Standing.{meta_shown, parts_shown, jobs_shown, demands_shown, totals2_shown}
use Rattle.shop_statements.proofs.Texts.{by_one, by_two, by_number, set_meta_text, set_meta_terms, set_meta_is, set_part_text, set_part_terms, set_part_is, set_job_text, set_job_terms, set_job_is, set_demand_text, set_demand_terms, set_demand_is, set_totals_text, set_totals_terms, set_totals_is}
use Rattle.shop_statements.proofs.Writing.{sets, again, chosen, rows_over}

-- a part in another state is a value
moved_value : (d : Part) (s : PartState) → state_of s < 2 ^ 32 → IsPartValue d → IsPartValue (in_state s d)
moved_value d s small v = record { name = v.name; root = v.root; material = v.material; batch = v.batch; x = v.x; y = v.y; size = v.size; state = small }

module _ (old new : State) (count : ℕ) (b : Books) (has : Shows old b) where
  pub sets_part : (k : Name) (d : Part) (s : PartState) → state_of s < 2 ^ 32 → get b.content.parts k ≡ Some d → d.name ≡ k → Executes set_part_text (Int (pos k.act) ∷ Int (pos k.node) ∷ Int (pos (state_number s)) ∷ Int (pos (state_of s)) ∷ []) old new (Ok count) → Shows new (record b { content = record b.content { parts = insert b.content.parts k (in_state s d) } })
  sets_part k d s small there own ran =
      let one : filter (λ e. eq_by_cmp name_cmp e.0 k) (entries b.content.parts) ≡ (k, d) ∷ [] = entry_at_is Part name_total name_same b.content.parts k ∙ ap (listed Part name_total name_same k) there in
      let it = located 1 part_row (λ e. eq_by_cmp name_cmp e.0 k) (chosen old new has.schema set_part_text (Int (pos k.act) ∷ Int (pos k.node) ∷ Int (pos (state_number s)) ∷ Int (pos (state_of s)) ∷ []) 2 (loosened has.schema.parts parts_table) refl by_two set_part_terms (set_part_is old.now.schema has.schema) refl) (is_two k.act k.node) (two_later k.act k.node) (λ e. two_tests e.0.act e.0.node k.act k.node (part_columns e.1)) (entries b.content.parts) (old.now.trees 4) (k, d) has.stands.parts one in
      let put = sets old new has.schema set_part_text (Int (pos k.act) ∷ Int (pos k.node) ∷ Int (pos (state_number s)) ∷ Int (pos (state_of s)) ∷ []) 2 (loosened has.schema.parts parts_table) refl by_two set_part_terms (set_part_is old.now.schema has.schema) refl it.row it.id (part_row (k, (in_state s d))) count it.found (shown_again it.row it.is ∙ ap (λ v. v ∷ v ∷ (part_row (k, (in_state s d)))) it.key)
      (λ left. news_again (loosened has.schema.parts parts_table) (part_row (k, (in_state s d))) left (Int it.id) it.id (λ i. cast-Int (pos k.act) i ∷ cast-Int (pos k.node) i ∷ Text (in_state s d).material ∷ Text (in_state s d).batch ∷ cast-Int (pos (in_state s d).root.act) i ∷ cast-Int (pos (in_state s d).root.node) i ∷ cast-Int (pos (in_state s d).x) i ∷ cast-Int (pos (in_state s d).y) i ∷ cast-Int (pos (in_state s d).size.w) i ∷ cast-Int (pos (in_state s d).size.h) i ∷ cast-Int (pos (state_number (in_state s d).state)) i ∷ cast-Int (pos (state_of (in_state s d).state)) i ∷ []) refl) ran in
      let rows = rows_over name_total name_same 1 part_row old new 4 _ (part_row (k, (in_state s d))) b.content.parts k (in_state s d) d there it refl put in
      parts_shown old new b has _ _ (insert b.content.parts k (in_state s d)) put rows (subst (λ q. IsKeyed (record b.content { parts = insert b.content.parts q (in_state s d) })) own (with_moved_keyed b.content has.keyed (in_state s d) d (moved_value d s small (has.keyed.values k d there)) (ap (get b.content.parts) own ∙ there) (refl, refl)))
    where
      shown_again : (r : Row) → drop 1 r ≡ part_row (k, d) → again old new has.schema set_part_text (Int (pos k.act) ∷ Int (pos k.node) ∷ Int (pos (state_number s)) ∷ Int (pos (state_of s)) ∷ []) 2 (loosened has.schema.parts parts_table) refl by_two set_part_terms (set_part_is old.now.schema has.schema) refl r ≡ rowid r ∷ rowid r ∷ (part_row (k, (in_state s d)))
      shown_again [] is = absurd (cc)
      shown_again (v ∷ r) is = rw is refl

  pub sets_totals : (k : List ℕ) (d x : Totals) → get b.totals k ≡ Some d → Executes set_totals_text (Text k ∷ totals_columns x) old new (Ok count) → Shows new (record b { totals = insert b.totals k x })
  sets_totals k d x there ran =
      let one : filter (λ e. eq_by_cmp code_cmp e.0 k) (entries b.totals) ≡ (k, d) ∷ [] = entry_at_is Totals code_total code_same b.totals k ∙ ap (listed Totals code_total code_same k) there in
      let it = located 1 totals_row (λ e. eq_by_cmp code_cmp e.0 k) (chosen old new has.schema set_totals_text (Text k ∷ totals_columns x) 9 (loosened has.schema.totals2 totals2_table) refl by_one set_totals_terms (set_totals_is old.now.schema has.schema) refl) (is_word k) (word_later k) (λ e. word_tests e.0 k (totals_columns e.1)) (entries b.totals) (old.now.trees 17) (k, d) has.stands.totals2 one in
      let put = sets old new has.schema set_totals_text (Text k ∷ totals_columns x) 9 (loosened has.schema.totals2 totals2_table) refl by_one set_totals_terms (set_totals_is old.now.schema has.schema) refl it.row it.id (totals_row (k, x)) count it.found (shown_again it.row it.is ∙ ap (λ v. v ∷ v ∷ (totals_row (k, x))) it.key)
      (λ left. news_again (loosened has.schema.totals2 totals2_table) (totals_row (k, x)) left (Int it.id) it.id (λ i. Text k ∷ cast-Int (pos x.received) i ∷ cast-Int (pos x.stock) i ∷ cast-Int (pos x.rack) i ∷ cast-Int (pos x.pieces) i ∷ cast-Int (pos x.kerf) i ∷ cast-Int (pos x.scrap) i ∷ cast-Int (pos x.returned) i ∷ []) refl) ran in
      let rows = rows_over code_total code_same 1 totals_row old new 17 _ (totals_row (k, x)) b.totals k x d there it refl put in
      totals2_shown old new b has _ _ (insert b.totals k x) put rows
    where
      shown_again : (r : Row) → drop 1 r ≡ totals_row (k, d) → again old new has.schema set_totals_text (Text k ∷ totals_columns x) 9 (loosened has.schema.totals2 totals2_table) refl by_one set_totals_terms (set_totals_is old.now.schema has.schema) refl r ≡ rowid r ∷ rowid r ∷ (totals_row (k, x))
      shown_again [] is = absurd (cc)
      shown_again (v ∷ r) is = rw is refl

  pub sets_job : (k : ℕ) (d : Job) (s : JobState) → get b.content.jobs k ≡ Some d → IsOwnJob b.content k d → Executes set_job_text (Int (pos k) ∷ Int (pos (job_state_number s)) ∷ []) old new (Ok count) → Shows new (record b { content = record b.content { jobs = insert b.content.jobs k (record d { state = s }) } })
  sets_job k d s there own ran =
      let one : filter (λ e. eq_by_cmp nat_cmp e.0 k) (entries b.content.jobs) ≡ (k, d) ∷ [] = entry_at_is Job nat_cmp_total nat_cmp-IsAntisymmetric b.content.jobs k ∙ ap (listed Job nat_cmp_total nat_cmp-IsAntisymmetric k) there in
      let it = located 0 job_row (λ e. eq_by_cmp nat_cmp e.0 k) (chosen old new has.schema set_job_text (Int (pos k) ∷ Int (pos (job_state_number s)) ∷ []) 3 (loosened has.schema.jobs jobs_table) refl by_number set_job_terms (set_job_is old.now.schema has.schema) refl) (is_number k) (λ r. refl) (λ e. number_tests e.0 k (Null ∷ job_columns e.1)) (entries b.content.jobs) (old.now.trees 6) (k, d) has.stands.jobs one in
      let put = sets old new has.schema set_job_text (Int (pos k) ∷ Int (pos (job_state_number s)) ∷ []) 3 (loosened has.schema.jobs jobs_table) refl by_number set_job_terms (set_job_is old.now.schema has.schema) refl it.row it.id (Null ∷ job_columns (record d { state = s })) count it.found (shown_again it.row it.is ∙ ap (λ v. v ∷ v ∷ (Null ∷ job_columns (record d { state = s }))) it.key)
      (λ left. news_again (loosened has.schema.jobs jobs_table) (Null ∷ job_columns (record d { state = s })) left (Int it.id) it.id (λ i. cast-Null i ∷ cast-Int (pos (record d { state = s }).part.act) i ∷ cast-Int (pos (record d { state = s }).part.node) i ∷ Text (text_of (record d { state = s }).plan.tree) ∷ cast-Int (pos (job_state_number (record d { state = s }).state)) i ∷ []) refl) ran in
      let rows = rows_over nat_cmp_total nat_cmp-IsAntisymmetric 0 job_row old new 6 _ (Null ∷ job_columns (record d { state = s })) b.content.jobs k (record d { state = s }) d there it (ap (λ v. v ∷ (Null ∷ job_columns (record d { state = s }))) (sym it.key ∙ ap rowid it.is)) put in
      jobs_shown old new b has _ _ (insert b.content.jobs k (record d { state = s })) put rows (subst (λ q. IsKeyed (record b.content { jobs = insert b.content.jobs q (record d { state = s }) })) own.numbered (with_job_keyed b.content has.keyed (record d { state = s }) (record { numbered = refl; kerf = own.kerf; plan = own.plan; on = record { row = own.on.row; found = own.on.found; material = own.on.material; known = own.on.known; width = own.on.width; height = own.on.height; kerf = own.on.kerf } })))
    where
      shown_again : (r : Row) → r ≡ job_row (k, d) → again old new has.schema set_job_text (Int (pos k) ∷ Int (pos (job_state_number s)) ∷ []) 3 (loosened has.schema.jobs jobs_table) refl by_number set_job_terms (set_job_is old.now.schema has.schema) refl r ≡ rowid r ∷ rowid r ∷ (Null ∷ job_columns (record d { state = s }))
      shown_again r is = rw is refl

  pub sets_demand : (k : ℕ) (d : Demand) (wanted reserved made : ℕ) → get b.content.demands k ≡ Some d → d.number ≡ k → Executes set_demand_text (Int (pos k) ∷ Int (pos wanted) ∷ Int (pos reserved) ∷ Int (pos made) ∷ []) old new (Ok count) → Shows new (record b { content = record b.content { demands = insert b.content.demands k (record d { wanted = wanted; reserved = reserved; made = made }) } })
  sets_demand k d wanted reserved made there own ran =
      let one : filter (λ e. eq_by_cmp nat_cmp e.0 k) (entries b.content.demands) ≡ (k, d) ∷ [] = entry_at_is Demand nat_cmp_total nat_cmp-IsAntisymmetric b.content.demands k ∙ ap (listed Demand nat_cmp_total nat_cmp-IsAntisymmetric k) there in
      let it = located 0 demand_row (λ e. eq_by_cmp nat_cmp e.0 k) (chosen old new has.schema set_demand_text (Int (pos k) ∷ Int (pos wanted) ∷ Int (pos reserved) ∷ Int (pos made) ∷ []) 5 (loosened has.schema.demands demands_table) refl by_number set_demand_terms (set_demand_is old.now.schema has.schema) refl) (is_number k) (λ r. refl) (λ e. number_tests e.0 k (Null ∷ demand_columns e.1)) (entries b.content.demands) (old.now.trees 9) (k, d) has.stands.demands one in
      let put = sets old new has.schema set_demand_text (Int (pos k) ∷ Int (pos wanted) ∷ Int (pos reserved) ∷ Int (pos made) ∷ []) 5 (loosened has.schema.demands demands_table) refl by_number set_demand_terms (set_demand_is old.now.schema has.schema) refl it.row it.id (Null ∷ demand_columns (record d { wanted = wanted; reserved = reserved; made = made })) count it.found (shown_again it.row it.is ∙ ap (λ v. v ∷ v ∷ (Null ∷ demand_columns (record d { wanted = wanted; reserved = reserved; made = made }))) it.key)
      (λ left. news_again (loosened has.schema.demands demands_table) (Null ∷ demand_columns (record d { wanted = wanted; reserved = reserved; made = made })) left (Int it.id) it.id (λ i. cast-Null i ∷ Text (record d { wanted = wanted; reserved = reserved; made = made }).order ∷ cast-Int (pos (record d { wanted = wanted; reserved = reserved; made = made }).line) i ∷ Text (record d { wanted = wanted; reserved = reserved; made = made }).material ∷ cast-Int (pos (record d { wanted = wanted; reserved = reserved; made = made }).size.w) i ∷ cast-Int (pos (record d { wanted = wanted; reserved = reserved; made = made }).size.h) i ∷ cast-Int (pos (turn_number (record d { wanted = wanted; reserved = reserved; made = made }).may_turn)) i ∷ cast-Int (pos (record d { wanted = wanted; reserved = reserved; made = made }).worth) i ∷ cast-Int (pos (record d { wanted = wanted; reserved = reserved; made = made }).wanted) i ∷ cast-Int (pos (record d { wanted = wanted; reserved = reserved; made = made }).reserved) i ∷ cast-Int (pos (record d { wanted = wanted; reserved = reserved; made = made }).made) i ∷ []) refl) ran in
      let rows = rows_over nat_cmp_total nat_cmp-IsAntisymmetric 0 demand_row old new 9 _ (Null ∷ demand_columns (record d { wanted = wanted; reserved = reserved; made = made })) b.content.demands k (record d { wanted = wanted; reserved = reserved; made = made }) d there it (ap (λ v. v ∷ (Null ∷ demand_columns (record d { wanted = wanted; reserved = reserved; made = made }))) (sym it.key ∙ ap rowid it.is)) put in
      demands_shown old new b has _ _ (insert b.content.demands k (record d { wanted = wanted; reserved = reserved; made = made })) put rows (subst (λ q. IsKeyed (record b.content { demands = insert b.content.demands q (record d { wanted = wanted; reserved = reserved; made = made }) })) own (with_demand_keyed b.content has.keyed (record d { wanted = wanted; reserved = reserved; made = made })))
    where
      shown_again : (r : Row) → r ≡ demand_row (k, d) → again old new has.schema set_demand_text (Int (pos k) ∷ Int (pos wanted) ∷ Int (pos reserved) ∷ Int (pos made) ∷ []) 5 (loosened has.schema.demands demands_table) refl by_number set_demand_terms (set_demand_is old.now.schema has.schema) refl r ≡ rowid r ∷ rowid r ∷ (Null ∷ demand_columns (record d { wanted = wanted; reserved = reserved; made = made }))
      shown_again r is = rw is refl

  pub sets_last_act : (n : ℕ) → Executes set_meta_text (Text (codes "act") ∷ Int (pos n) ∷ []) old new (Ok count) → Shows new (with_last_act n b)
  sets_last_act n ran =
      let it = located 1 meta_row (λ e. eq_by_cmp code_cmp e.0 (codes "act")) (chosen old new has.schema set_meta_text (Text (codes "act") ∷ Int (pos n) ∷ []) 0 (loosened has.schema.meta meta_table) refl by_one set_meta_terms (set_meta_is old.now.schema has.schema) refl) (is_word (codes "act")) (word_later (codes "act")) (λ e. word_tests e.0 (codes "act") (Int (pos e.1) ∷ [])) (meta_entries b.content) (old.now.trees 0) (codes "act", b.content.last_act) has.stands.meta refl in
      let wrote = meta_row (codes "act", n) in
      let put = sets old new has.schema set_meta_text (Text (codes "act") ∷ Int (pos n) ∷ []) 0 (loosened has.schema.meta meta_table) refl by_one set_meta_terms (set_meta_is old.now.schema has.schema) refl it.row it.id wrote count it.found (shown_again it.row it.is ∙ ap (λ v. v ∷ v ∷ wrote) it.key)
      (λ left. news_again (loosened has.schema.meta meta_table) wrote left (Int it.id) it.id (λ i. Text (codes "act") ∷ cast-Int (pos n) i ∷ []) refl) ran in
      let rows = subst (AreRows 1 _) (sym put.rows) (reordered 1 _ _ _ (IsPermutation-sym _ _ (IsPermutation-middle (meta_row (codes "version", 3) ∷ []) (meta_row (codes "act", n)) (meta_row (codes "demand", b.content.last_demand) ∷ []))) (added 1 (Int it.id ∷ wrote) it.id _ _ refl it.rest put.free)) in
      meta_shown old new b has _ _ n b.content.last_demand put rows
    where
      shown_again : (r : Row) → drop 1 r ≡ meta_row (codes "act", b.content.last_act) → again old new has.schema set_meta_text (Text (codes "act") ∷ Int (pos n) ∷ []) 0 (loosened has.schema.meta meta_table) refl by_one set_meta_terms (set_meta_is old.now.schema has.schema) refl r ≡ rowid r ∷ rowid r ∷ meta_row (codes "act", n)
      shown_again [] is = absurd (cc)
      shown_again (v ∷ r) is = rw is refl

  pub sets_last_demand : (n : ℕ) → Executes set_meta_text (Text (codes "demand") ∷ Int (pos n) ∷ []) old new (Ok count) → Shows new (with_last_demand n b)
  sets_last_demand n ran =
      let it = located 1 meta_row (λ e. eq_by_cmp code_cmp e.0 (codes "demand")) (chosen old new has.schema set_meta_text (Text (codes "demand") ∷ Int (pos n) ∷ []) 0 (loosened has.schema.meta meta_table) refl by_one set_meta_terms (set_meta_is old.now.schema has.schema) refl) (is_word (codes "demand")) (word_later (codes "demand")) (λ e. word_tests e.0 (codes "demand") (Int (pos e.1) ∷ [])) (meta_entries b.content) (old.now.trees 0) (codes "demand", b.content.last_demand) has.stands.meta refl in
      let wrote = meta_row (codes "demand", n) in
      let put = sets old new has.schema set_meta_text (Text (codes "demand") ∷ Int (pos n) ∷ []) 0 (loosened has.schema.meta meta_table) refl by_one set_meta_terms (set_meta_is old.now.schema has.schema) refl it.row it.id wrote count it.found (shown_again it.row it.is ∙ ap (λ v. v ∷ v ∷ wrote) it.key)
      (λ left. news_again (loosened has.schema.meta meta_table) wrote left (Int it.id) it.id (λ i. Text (codes "demand") ∷ cast-Int (pos n) i ∷ []) refl) ran in
      let rows = subst (AreRows 1 _) (sym put.rows) (reordered 1 _ _ _ (IsPermutation-sym _ _ (IsPermutation-middle (meta_row (codes "version", 3) ∷ meta_row (codes "act", b.content.last_act) ∷ []) (meta_row (codes "demand", n)) [])) (added 1 (Int it.id ∷ wrote) it.id _ _ refl it.rest put.free)) in
      meta_shown old new b has _ _ b.content.last_act n put rows
    where
      shown_again : (r : Row) → drop 1 r ≡ meta_row (codes "demand", b.content.last_demand) → again old new has.schema set_meta_text (Text (codes "demand") ∷ Int (pos n) ∷ []) 0 (loosened has.schema.meta meta_table) refl by_one set_meta_terms (set_meta_is old.now.schema has.schema) refl r ≡ rowid r ∷ rowid r ∷ meta_row (codes "demand", n)
      shown_again [] is = absurd (cc)
      shown_again (v ∷ r) is = rw is refl
