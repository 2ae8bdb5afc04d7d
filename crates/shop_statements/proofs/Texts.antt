-- What the texts of the statements mean, over a schema that has the shop's tables in front.
use Rattle.std.proofs.Common.{◌≡◌, ℕ, List, [], ◌∷◌, codes, true, refl}
use Rattle.sqlite_tied.specs.Compute.{everything}
use Rattle.sqlite.specs.Listing.{understood}
use Rattle.sqlite.specs.Command.TheVariants.{Delete, Insert, Update}
use Rattle.sqlite.specs.Source.TheVariants.{Values}
use Rattle.sqlite.specs.Term.{Term, lit, col}
use Rattle.sqlite_value.specs.declared.value.Value.TheVariants.{Null}
use Rattle.sqlite.specs.Schema.{Schema}
use Rattle.shop_statements.specs.Layout.{meta_table, materials_table, parts_table, jobs_table, orders_table, demands_table, kept_table, imports_table, totals_table, totals2_table, journal_table, uses_table, notes_table, begun_table, halts_table, loosened, HasShopTables}
use Rattle.shop_statements.specs.Selecting.{is_select}
use Rattle.shop_statements.proofs.Terms.{same, from_table, Reads, Writes}

-- the same schema, with its first tables spelled out
abbrev pub shop : (schema : Schema) → HasShopTables schema → Schema
shop schema h =
    record {
      tables =
          loosened h.meta meta_table ∷ loosened h.materials materials_table ∷ loosened h.parts parts_table ∷ loosened h.jobs jobs_table
          ∷ loosened h.orders orders_table ∷ loosened h.demands demands_table ∷ loosened h.kept kept_table ∷ loosened h.imports imports_table
          ∷ loosened h.totals totals_table ∷ loosened h.totals2 totals2_table ∷ loosened h.journal journal_table ∷ loosened h.uses uses_table
          ∷ loosened h.notes notes_table ∷ loosened h.begun begun_table ∷ loosened h.halts halts_table ∷ h.others;
      indexes = schema.indexes;
      views = schema.views;
    }

pub shop_is : (schema : Schema) (h : HasShopTables schema) → schema ≡ shop schema h
shop_is schema h = λ i. record { tables = h.tables i; indexes = schema.indexes; views = schema.views }

-- a column equals a parameter
abbrev pub by_one : List Term
by_one = same (col 1 1) (col 0 0) ∷ []

abbrev pub by_two : List Term
by_two = same (col 1 1) (col 0 0) ∷ same (col 1 2) (col 0 1) ∷ []

abbrev pub by_number : List Term
by_number = same (col 1 0) (col 0 0) ∷ []

abbrev pub get_meta_text : List ℕ
get_meta_text = codes "SELECT value FROM meta WHERE name = ?1"

abbrev pub get_meta_terms : List Term
get_meta_terms = col 1 2 ∷ []

abbrev pub get_kept_text : List ℕ
get_kept_text = codes "SELECT command, reply FROM kept WHERE terminal = ?1 AND number = ?2"

abbrev pub get_kept_terms : List Term
get_kept_terms = col 1 3 ∷ col 1 4 ∷ []

abbrev pub get_import_text : List ℕ
get_import_text = codes "SELECT form, material, body, reply FROM imports WHERE ord = ?1"

abbrev pub get_import_terms : List Term
get_import_terms = col 1 2 ∷ col 1 3 ∷ col 1 4 ∷ col 1 5 ∷ []

abbrev pub put_material_text : List ℕ
put_material_text = codes "INSERT INTO materials (code, kind, kerf, min_long, min_short) VALUES (?1, ?2, ?3, ?4, ?5)"

abbrev pub put_material_terms : List Term
put_material_terms = lit Null ∷ col 0 0 ∷ col 0 1 ∷ col 0 2 ∷ col 0 3 ∷ col 0 4 ∷ []

abbrev pub put_part_text : List ℕ
put_part_text = codes "INSERT INTO parts (act, node, material, batch, root_act, root_node, x, y, w, h, state, detail) VALUES (?1, ?2, ?3, ?4, ?5, ?6, ?7, ?8, ?9, ?10, ?11, ?12)"

abbrev pub put_part_terms : List Term
put_part_terms = lit Null ∷ col 0 0 ∷ col 0 1 ∷ col 0 2 ∷ col 0 3 ∷ col 0 4 ∷ col 0 5 ∷ col 0 6 ∷ col 0 7 ∷ col 0 8 ∷ col 0 9 ∷ col 0 10 ∷ col 0 11 ∷ []

abbrev pub put_job_text : List ℕ
put_job_text = codes "INSERT INTO jobs (job, part_act, part_node, tree, state) VALUES (?1, ?2, ?3, ?4, ?5)"

abbrev pub put_job_terms : List Term
put_job_terms = col 0 0 ∷ lit Null ∷ col 0 1 ∷ col 0 2 ∷ col 0 3 ∷ col 0 4 ∷ []

abbrev pub put_order_text : List ℕ
put_order_text = codes "INSERT INTO orders (ord) VALUES (?1)"

abbrev pub put_order_terms : List Term
put_order_terms = lit Null ∷ col 0 0 ∷ []

abbrev pub put_demand_text : List ℕ
put_demand_text = codes "INSERT INTO demands (number, ord, line, material, w, h, turn, worth, wanted, reserved, made) VALUES (?1, ?2, ?3, ?4, ?5, ?6, ?7, ?8, ?9, ?10, ?11)"

abbrev pub put_demand_terms : List Term
put_demand_terms = col 0 0 ∷ lit Null ∷ col 0 1 ∷ col 0 2 ∷ col 0 3 ∷ col 0 4 ∷ col 0 5 ∷ col 0 6 ∷ col 0 7 ∷ col 0 8 ∷ col 0 9 ∷ col 0 10 ∷ []

abbrev pub put_kept_text : List ℕ
put_kept_text = codes "INSERT INTO kept (terminal, number, command, reply) VALUES (?1, ?2, ?3, ?4)"

abbrev pub put_kept_terms : List Term
put_kept_terms = lit Null ∷ col 0 0 ∷ col 0 1 ∷ col 0 2 ∷ col 0 3 ∷ []

abbrev pub put_import_text : List ℕ
put_import_text = codes "INSERT INTO imports (ord, form, material, body, reply) VALUES (?1, ?2, ?3, ?4, ?5)"

abbrev pub put_import_terms : List Term
put_import_terms = lit Null ∷ col 0 0 ∷ col 0 1 ∷ col 0 2 ∷ col 0 3 ∷ col 0 4 ∷ []

abbrev pub put_totals_text : List ℕ
put_totals_text = codes "INSERT INTO totals2 (material, received, stock, rack, pieces, kerf, scrap, returned) VALUES (?1, ?2, ?3, ?4, ?5, ?6, ?7, ?8)"

abbrev pub put_totals_terms : List Term
put_totals_terms = lit Null ∷ col 0 0 ∷ col 0 1 ∷ col 0 2 ∷ col 0 3 ∷ col 0 4 ∷ col 0 5 ∷ col 0 6 ∷ col 0 7 ∷ []

abbrev pub set_meta_text : List ℕ
set_meta_text = codes "UPDATE meta SET value = ?2 WHERE name = ?1"

abbrev pub set_meta_terms : List Term
set_meta_terms = col 1 0 ∷ col 1 0 ∷ col 1 1 ∷ col 0 1 ∷ []

abbrev pub set_part_text : List ℕ
set_part_text = codes "UPDATE parts SET state = ?3, detail = ?4 WHERE act = ?1 AND node = ?2"

abbrev pub set_part_terms : List Term
set_part_terms = col 1 0 ∷ col 1 0 ∷ col 1 1 ∷ col 1 2 ∷ col 1 3 ∷ col 1 4 ∷ col 1 5 ∷ col 1 6 ∷ col 1 7 ∷ col 1 8 ∷ col 1 9 ∷ col 1 10 ∷ col 0 2 ∷ col 0 3 ∷ []

abbrev pub set_job_text : List ℕ
set_job_text = codes "UPDATE jobs SET state = ?2 WHERE job = ?1"

abbrev pub set_job_terms : List Term
set_job_terms = col 1 0 ∷ col 1 0 ∷ lit Null ∷ col 1 2 ∷ col 1 3 ∷ col 1 4 ∷ col 0 1 ∷ []

abbrev pub set_demand_text : List ℕ
set_demand_text = codes "UPDATE demands SET wanted = ?2, reserved = ?3, made = ?4 WHERE number = ?1"

abbrev pub set_demand_terms : List Term
set_demand_terms = col 1 0 ∷ col 1 0 ∷ lit Null ∷ col 1 2 ∷ col 1 3 ∷ col 1 4 ∷ col 1 5 ∷ col 1 6 ∷ col 1 7 ∷ col 1 8 ∷ col 0 1 ∷ col 0 2 ∷ col 0 3 ∷ []

abbrev pub set_totals_text : List ℕ
set_totals_text = codes "UPDATE totals2 SET received = ?2, stock = ?3, rack = ?4, pieces = ?5, kerf = ?6, scrap = ?7, returned = ?8 WHERE material = ?1"

abbrev pub set_totals_terms : List Term
set_totals_terms = col 1 0 ∷ col 1 0 ∷ col 1 1 ∷ col 0 1 ∷ col 0 2 ∷ col 0 3 ∷ col 0 4 ∷ col 0 5 ∷ col 0 6 ∷ col 0 7 ∷ []

abbrev pub get_entry_text : List ℕ
get_entry_text = codes "SELECT at, terminal, number, word, act, job, ord, part_act, part_node FROM journal WHERE entry = ?1"

abbrev pub get_entry_terms : List Term
get_entry_terms = col 1 2 ∷ col 1 3 ∷ col 1 4 ∷ col 1 5 ∷ col 1 6 ∷ col 1 7 ∷ col 1 8 ∷ col 1 9 ∷ col 1 10 ∷ []

abbrev pub put_entry_text : List ℕ
put_entry_text = codes "INSERT INTO journal (entry, at, terminal, number, word, act, job, ord, part_act, part_node) VALUES (?1, ?2, ?3, ?4, ?5, ?6, ?7, ?8, ?9, ?10)"

abbrev pub put_entry_terms : List Term
put_entry_terms = col 0 0 ∷ lit Null ∷ col 0 1 ∷ col 0 2 ∷ col 0 3 ∷ col 0 4 ∷ col 0 5 ∷ col 0 6 ∷ col 0 7 ∷ col 0 8 ∷ col 0 9 ∷ []

abbrev pub put_use_text : List ℕ
put_use_text = codes "INSERT INTO uses (job, ord) VALUES (?1, ?2)"

abbrev pub put_use_terms : List Term
put_use_terms = lit Null ∷ col 0 0 ∷ col 0 1 ∷ []

-- the rowid alone, by which a row is taken out
abbrev pub clear_terms : List Term
clear_terms = col 1 0 ∷ []

abbrev pub get_note_text : List ℕ
get_note_text = codes "SELECT due, body FROM notes WHERE ord = ?1"

abbrev pub get_note_terms : List Term
get_note_terms = col 1 2 ∷ col 1 3 ∷ []

abbrev pub clear_note_text : List ℕ
clear_note_text = codes "DELETE FROM notes WHERE ord = ?1"

abbrev pub put_note_text : List ℕ
put_note_text = codes "INSERT INTO notes (ord, due, body) VALUES (?1, ?2, ?3)"

abbrev pub put_note_terms : List Term
put_note_terms = lit Null ∷ col 0 0 ∷ col 0 1 ∷ col 0 2 ∷ []

abbrev pub clear_begun_text : List ℕ
clear_begun_text = codes "DELETE FROM begun WHERE job = ?1"

abbrev pub put_begun_text : List ℕ
put_begun_text = codes "INSERT INTO begun (job, terminal) VALUES (?1, ?2)"

abbrev pub put_begun_terms : List Term
put_begun_terms = col 0 0 ∷ lit Null ∷ col 0 1 ∷ []

abbrev pub get_halt_text : List ℕ
get_halt_text = codes "SELECT body FROM halts WHERE job = ?1"

abbrev pub get_halt_terms : List Term
get_halt_terms = col 1 2 ∷ []

abbrev pub put_halt_text : List ℕ
put_halt_text = codes "INSERT INTO halts (job, body) VALUES (?1, ?2)"

abbrev pub put_halt_terms : List Term
put_halt_terms = col 0 0 ∷ lit Null ∷ col 0 1 ∷ []

module _ (schema : Schema) (h : HasShopTables schema) where
  pub get_note_is : Reads (shop schema h) get_note_text (from_table 22 by_one get_note_terms []) (codes "due" ∷ codes "body" ∷ [])
  unfolding understood everything
  get_note_is = record { command = refl; listing = refl; plain = (refl, refl) }

  pub clear_note_is : Writes (shop schema h) clear_note_text (Delete 12 (record { lets = []; body = from_table 22 by_one clear_terms [] }))
  unfolding understood everything
  clear_note_is = record { command = refl; plain = (refl, refl) }

  pub put_note_is : Writes (shop schema h) put_note_text (Insert 12 (Values put_note_terms 4))
  unfolding understood everything
  put_note_is = record { command = refl; plain = (refl, refl) }

  pub clear_begun_is : Writes (shop schema h) clear_begun_text (Delete 13 (record { lets = []; body = from_table 24 by_number clear_terms [] }))
  unfolding understood everything
  clear_begun_is = record { command = refl; plain = (refl, refl) }

  pub put_begun_is : Writes (shop schema h) put_begun_text (Insert 13 (Values put_begun_terms 3))
  unfolding understood everything
  put_begun_is = record { command = refl; plain = (refl, refl) }

  pub get_halt_is : Reads (shop schema h) get_halt_text (from_table 25 by_number get_halt_terms []) (codes "body" ∷ [])
  unfolding understood everything
  get_halt_is = record { command = refl; listing = refl; plain = (refl, refl) }

  pub put_halt_is : Writes (shop schema h) put_halt_text (Insert 14 (Values put_halt_terms 3))
  unfolding understood everything
  put_halt_is = record { command = refl; plain = (refl, refl) }

  pub get_entry_is : Reads (shop schema h) get_entry_text (from_table 19 by_number get_entry_terms []) (codes "at" ∷ codes "terminal" ∷ codes "number" ∷ codes "word" ∷ codes "act" ∷ codes "job" ∷ codes "ord" ∷ codes "part_act" ∷ codes "part_node" ∷ [])
  unfolding understood everything
  get_entry_is = record { command = refl; listing = refl; plain = (refl, refl) }

  pub put_entry_is : Writes (shop schema h) put_entry_text (Insert 10 (Values put_entry_terms 11))
  unfolding understood everything
  put_entry_is = record { command = refl; plain = (refl, refl) }

  pub put_use_is : Writes (shop schema h) put_use_text (Insert 11 (Values put_use_terms 3))
  unfolding understood everything
  put_use_is = record { command = refl; plain = (refl, refl) }

  pub get_meta_is : Reads (shop schema h) get_meta_text (from_table 0 by_one get_meta_terms []) (codes "value" ∷ [])
  unfolding understood everything
  get_meta_is = record { command = refl; listing = refl; plain = (refl, refl) }

  pub get_kept_is : Reads (shop schema h) get_kept_text (from_table 11 by_two get_kept_terms []) (codes "command" ∷ codes "reply" ∷ [])
  unfolding understood everything
  get_kept_is = record { command = refl; listing = refl; plain = (refl, refl) }

  pub get_import_is : Reads (shop schema h) get_import_text (from_table 13 by_one get_import_terms []) (codes "form" ∷ codes "material" ∷ codes "body" ∷ codes "reply" ∷ [])
  unfolding understood everything
  get_import_is = record { command = refl; listing = refl; plain = (refl, refl) }

  pub put_material_is : Writes (shop schema h) put_material_text (Insert 1 (Values put_material_terms 6))
  unfolding understood everything
  put_material_is = record { command = refl; plain = (refl, refl) }

  pub put_part_is : Writes (shop schema h) put_part_text (Insert 2 (Values put_part_terms 13))
  unfolding understood everything
  put_part_is = record { command = refl; plain = (refl, refl) }

  pub put_job_is : Writes (shop schema h) put_job_text (Insert 3 (Values put_job_terms 6))
  unfolding understood everything
  put_job_is = record { command = refl; plain = (refl, refl) }

  pub put_order_is : Writes (shop schema h) put_order_text (Insert 4 (Values put_order_terms 2))
  unfolding understood everything
  put_order_is = record { command = refl; plain = (refl, refl) }

  pub put_demand_is : Writes (shop schema h) put_demand_text (Insert 5 (Values put_demand_terms 12))
  unfolding understood everything
  put_demand_is = record { command = refl; plain = (refl, refl) }

  pub put_kept_is : Writes (shop schema h) put_kept_text (Insert 6 (Values put_kept_terms 5))
  unfolding understood everything
  put_kept_is = record { command = refl; plain = (refl, refl) }

  pub put_import_is : Writes (shop schema h) put_import_text (Insert 7 (Values put_import_terms 6))
  unfolding understood everything
  put_import_is = record { command = refl; plain = (refl, refl) }

  pub put_totals_is : Writes (shop schema h) put_totals_text (Insert 9 (Values put_totals_terms 9))
  unfolding understood everything
  put_totals_is = record { command = refl; plain = (refl, refl) }

  pub set_meta_is : Writes (shop schema h) set_meta_text (Update 0 (record { lets = []; body = from_table 0 by_one set_meta_terms [] }))
  unfolding understood everything
  set_meta_is = record { command = refl; plain = (refl, refl) }

  pub set_part_is : Writes (shop schema h) set_part_text (Update 2 (record { lets = []; body = from_table 4 by_two set_part_terms [] }))
  unfolding understood everything
  set_part_is = record { command = refl; plain = (refl, refl) }

  pub set_job_is : Writes (shop schema h) set_job_text (Update 3 (record { lets = []; body = from_table 6 by_number set_job_terms [] }))
  unfolding understood everything
  set_job_is = record { command = refl; plain = (refl, refl) }

  pub set_demand_is : Writes (shop schema h) set_demand_text (Update 5 (record { lets = []; body = from_table 9 by_number set_demand_terms [] }))
  unfolding understood everything
  set_demand_is = record { command = refl; plain = (refl, refl) }

  pub set_totals_is : Writes (shop schema h) set_totals_text (Update 9 (record { lets = []; body = from_table 17 by_one set_totals_terms [] }))
  unfolding understood everything
  set_totals_is = record { command = refl; plain = (refl, refl) }

-- ---- which texts are a SELECT

pub get_meta_selects : is_select get_meta_text ≡ true
unfolding everything
get_meta_selects = refl

pub get_kept_selects : is_select get_kept_text ≡ true
unfolding everything
get_kept_selects = refl

pub get_import_selects : is_select get_import_text ≡ true
unfolding everything
get_import_selects = refl

pub get_note_selects : is_select get_note_text ≡ true
unfolding everything
get_note_selects = refl

pub get_halt_selects : is_select get_halt_text ≡ true
unfolding everything
get_halt_selects = refl

pub get_entry_selects : is_select get_entry_text ≡ true
unfolding everything
get_entry_selects = refl
