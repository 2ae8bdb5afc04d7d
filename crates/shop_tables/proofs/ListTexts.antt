-- What the texts of the statements that list rows mean, over a schema that has the shop's tables in front.
use Rattle.std.proofs.Common.{◌≡◌, ℕ, pos, List, [], ◌∷◌, codes, true, refl}
use Rattle.sqlite_tied.specs.Compute.{everything}
use Rattle.sqlite.specs.Listing.{understood}
use Rattle.sqlite.specs.Query.{Query}
use Rattle.sqlite.specs.Term.{Term, lit, col, op2}
use Rattle.sqlite_sql.specs.declared.ops.BinaryOp.TheVariants.{Compare}
use Rattle.sqlite_sql.specs.declared.ops.CompareOp.TheVariants.{Ge}
use Rattle.sqlite_value.specs.declared.keys.Collation.TheVariants.{Binary}
use Rattle.sqlite_value.specs.declared.keys.Key.{Key}
use Rattle.sqlite_value.specs.Keys.{ascending}
use Rattle.sqlite_value.specs.declared.value.Value.TheVariants.{Int}
use Rattle.sqlite.specs.Schema.{Schema}
use Rattle.shop_statements.specs.Layout.{HasShopTables}
use Rattle.shop_statements.specs.Selecting.{is_select}
use Rattle.shop_statements.proofs.Terms.{same, from_table, Reads}
use Rattle.shop_statements.proofs.Texts.{shop}

-- the first rows of a query, at most so many
abbrev pub first_of : Term → Query → Query
first_of most query = record query { limit = most }

abbrev pub parts_of_terms : List Term
parts_of_terms = col 1 1 ∷ col 1 2 ∷ col 1 3 ∷ col 1 4 ∷ col 1 5 ∷ col 1 6 ∷ col 1 7 ∷ col 1 8 ∷ col 1 9 ∷ col 1 10 ∷ col 1 11 ∷ col 1 12 ∷ []

abbrev pub parts_of_order : List (Term × Key)
parts_of_order = (col 1 1, ascending Binary) ∷ (col 1 2, ascending Binary) ∷ []

abbrev pub all_parts_text : List ℕ
all_parts_text = codes "SELECT act, node, material, batch, root_act, root_node, x, y, w, h, state, detail FROM parts ORDER BY act, node"

abbrev pub all_codes_text : List ℕ
all_codes_text = codes "SELECT code FROM materials ORDER BY code"

abbrev pub all_codes_terms : List Term
all_codes_terms = col 1 1 ∷ []

abbrev pub by_code : List (Term × Key)
by_code = (col 1 1, ascending Binary) ∷ []

abbrev pub all_totals_text : List ℕ
all_totals_text = codes "SELECT received, stock, rack, pieces, kerf, scrap, returned, material FROM totals2 ORDER BY material"

abbrev pub all_totals_terms : List Term
all_totals_terms = col 1 2 ∷ col 1 3 ∷ col 1 4 ∷ col 1 5 ∷ col 1 6 ∷ col 1 7 ∷ col 1 8 ∷ col 1 1 ∷ []

abbrev pub all_materials_text : List ℕ
all_materials_text = codes "SELECT kind, kerf, min_long, min_short, code FROM materials ORDER BY code"

abbrev pub all_materials_terms : List Term
all_materials_terms = col 1 2 ∷ col 1 3 ∷ col 1 4 ∷ col 1 5 ∷ col 1 1 ∷ []

abbrev pub by_rowid : List (Term × Key)
by_rowid = (col 1 0, ascending Binary) ∷ []

abbrev pub open_demands_terms : List Term
open_demands_terms = col 1 2 ∷ col 1 3 ∷ col 1 4 ∷ col 1 5 ∷ col 1 6 ∷ col 1 7 ∷ col 1 8 ∷ col 1 9 ∷ col 1 10 ∷ col 1 11 ∷ col 1 0 ∷ []

abbrev pub demands_from_text : List ℕ
demands_from_text = codes "SELECT ord, line, material, w, h, turn, worth, wanted, reserved, made, number FROM demands WHERE number >= ?1 ORDER BY number LIMIT ?2"

-- the rowid is at least a number
abbrev pub from_tests : List Term
from_tests = op2 (Compare Ge Binary) (col 1 0) (col 0 0) ∷ []

abbrev pub first_orders_text : List ℕ
first_orders_text = codes "SELECT ord FROM orders ORDER BY ord LIMIT ?1"

abbrev pub jobs_from_text : List ℕ
jobs_from_text = codes "SELECT part_act, part_node, tree, state, job FROM jobs WHERE job >= ?1 ORDER BY job LIMIT ?2"

abbrev pub jobs_from_terms : List Term
jobs_from_terms = col 1 2 ∷ col 1 3 ∷ col 1 4 ∷ col 1 5 ∷ col 1 0 ∷ []

abbrev pub all_notes_text : List ℕ
all_notes_text = codes "SELECT due, body, ord FROM notes ORDER BY ord"

abbrev pub all_notes_terms : List Term
all_notes_terms = col 1 2 ∷ col 1 3 ∷ col 1 1 ∷ []

abbrev pub begun_from_text : List ℕ
begun_from_text = codes "SELECT terminal, job FROM begun WHERE job >= ?1 ORDER BY job LIMIT ?2"

abbrev pub begun_from_terms : List Term
begun_from_terms = col 1 2 ∷ col 1 0 ∷ []

abbrev pub entries_from_text : List ℕ
entries_from_text = codes "SELECT at, terminal, number, word, act, job, ord, part_act, part_node, entry FROM journal WHERE entry >= ?1 ORDER BY entry LIMIT ?2"

abbrev pub entries_from_terms : List Term
entries_from_terms = col 1 2 ∷ col 1 3 ∷ col 1 4 ∷ col 1 5 ∷ col 1 6 ∷ col 1 7 ∷ col 1 8 ∷ col 1 9 ∷ col 1 10 ∷ col 1 0 ∷ []

abbrev pub part_at_text : List ℕ
part_at_text = codes "SELECT act, node FROM parts ORDER BY act, node LIMIT 1 OFFSET ?1"

abbrev pub last_number_text : List ℕ
last_number_text = codes "SELECT number FROM kept WHERE terminal = ?1 ORDER BY number DESC LIMIT 1"

abbrev pub last_number_terms : List Term
last_number_terms = col 1 2 ∷ []

-- by a falling column
abbrev pub falling : ℕ → List (Term × Key)
falling at = (col 1 at, record { collation = Binary; descending = true }) ∷ []

abbrev pub last_number_tests : List Term
last_number_tests = same (col 1 1) (col 0 0) ∷ []

abbrev pub old_totals_text : List ℕ
old_totals_text = codes "SELECT material FROM totals LIMIT 1"

abbrev pub old_totals_terms : List Term
old_totals_terms = col 1 1 ∷ []

module _ (schema : Schema) (h : HasShopTables schema) where
  pub all_parts_is : Reads (shop schema h) all_parts_text (from_table 4 [] parts_of_terms parts_of_order) (codes "act" ∷ codes "node" ∷ codes "material" ∷ codes "batch" ∷ codes "root_act" ∷ codes "root_node" ∷ codes "x" ∷ codes "y" ∷ codes "w" ∷ codes "h" ∷ codes "state" ∷ codes "detail" ∷ [])
  unfolding understood everything
  all_parts_is = record { command = refl; listing = refl; plain = (refl, refl) }

  pub all_codes_is : Reads (shop schema h) all_codes_text (from_table 2 [] all_codes_terms by_code) (codes "code" ∷ [])
  unfolding understood everything
  all_codes_is = record { command = refl; listing = refl; plain = (refl, refl) }

  pub all_totals_is : Reads (shop schema h) all_totals_text (from_table 17 [] all_totals_terms by_code) (codes "received" ∷ codes "stock" ∷ codes "rack" ∷ codes "pieces" ∷ codes "kerf" ∷ codes "scrap" ∷ codes "returned" ∷ codes "material" ∷ [])
  unfolding understood everything
  all_totals_is = record { command = refl; listing = refl; plain = (refl, refl) }

  pub all_materials_is : Reads (shop schema h) all_materials_text (from_table 2 [] all_materials_terms by_code) (codes "kind" ∷ codes "kerf" ∷ codes "min_long" ∷ codes "min_short" ∷ codes "code" ∷ [])
  unfolding understood everything
  all_materials_is = record { command = refl; listing = refl; plain = (refl, refl) }

  pub demands_from_is : Reads (shop schema h) demands_from_text (first_of (col 0 1) (from_table 9 from_tests open_demands_terms by_rowid)) (codes "ord" ∷ codes "line" ∷ codes "material" ∷ codes "w" ∷ codes "h" ∷ codes "turn" ∷ codes "worth" ∷ codes "wanted" ∷ codes "reserved" ∷ codes "made" ∷ codes "number" ∷ [])
  unfolding understood everything
  demands_from_is = record { command = refl; listing = refl; plain = (refl, refl) }

  pub first_orders_is : Reads (shop schema h) first_orders_text (first_of (col 0 0) (from_table 7 [] all_codes_terms by_code)) (codes "ord" ∷ [])
  unfolding understood everything
  first_orders_is = record { command = refl; listing = refl; plain = (refl, refl) }

  pub jobs_from_is : Reads (shop schema h) jobs_from_text (first_of (col 0 1) (from_table 6 from_tests jobs_from_terms by_rowid)) (codes "part_act" ∷ codes "part_node" ∷ codes "tree" ∷ codes "state" ∷ codes "job" ∷ [])
  unfolding understood everything
  jobs_from_is = record { command = refl; listing = refl; plain = (refl, refl) }

  pub all_notes_is : Reads (shop schema h) all_notes_text (from_table 22 [] all_notes_terms by_code) (codes "due" ∷ codes "body" ∷ codes "ord" ∷ [])
  unfolding understood everything
  all_notes_is = record { command = refl; listing = refl; plain = (refl, refl) }

  pub begun_from_is : Reads (shop schema h) begun_from_text (first_of (col 0 1) (from_table 24 from_tests begun_from_terms by_rowid)) (codes "terminal" ∷ codes "job" ∷ [])
  unfolding understood everything
  begun_from_is = record { command = refl; listing = refl; plain = (refl, refl) }

  pub entries_from_is : Reads (shop schema h) entries_from_text (first_of (col 0 1) (from_table 19 from_tests entries_from_terms by_rowid)) (codes "at" ∷ codes "terminal" ∷ codes "number" ∷ codes "word" ∷ codes "act" ∷ codes "job" ∷ codes "ord" ∷ codes "part_act" ∷ codes "part_node" ∷ codes "entry" ∷ [])
  unfolding understood everything
  entries_from_is = record { command = refl; listing = refl; plain = (refl, refl) }

  pub last_number_is : Reads (shop schema h) last_number_text (first_of (lit (Int (pos 1))) (from_table 11 last_number_tests last_number_terms (falling 2))) (codes "number" ∷ [])
  unfolding understood everything
  last_number_is = record { command = refl; listing = refl; plain = (refl, refl) }

  pub old_totals_is : Reads (shop schema h) old_totals_text (first_of (lit (Int (pos 1))) (from_table 15 [] old_totals_terms [])) (codes "material" ∷ [])
  unfolding understood everything
  old_totals_is = record { command = refl; listing = refl; plain = (refl, refl) }

pub old_totals_selects : is_select old_totals_text ≡ true
unfolding everything
old_totals_selects = refl

pub all_parts_selects : is_select all_parts_text ≡ true
unfolding everything
all_parts_selects = refl

pub all_codes_selects : is_select all_codes_text ≡ true
unfolding everything
all_codes_selects = refl

pub all_totals_selects : is_select all_totals_text ≡ true
unfolding everything
all_totals_selects = refl

pub all_materials_selects : is_select all_materials_text ≡ true
unfolding everything
all_materials_selects = refl

pub first_orders_selects : is_select first_orders_text ≡ true
unfolding everything
first_orders_selects = refl

pub last_number_selects : is_select last_number_text ≡ true
unfolding everything
last_number_selects = refl

pub demands_from_selects : is_select demands_from_text ≡ true
unfolding everything
demands_from_selects = refl

pub all_notes_selects : is_select all_notes_text ≡ true
unfolding everything
all_notes_selects = refl

pub begun_from_selects : is_select begun_from_text ≡ true
unfolding everything
begun_from_selects = refl

pub entries_from_selects : is_select entries_from_text ≡ true
unfolding everything
entries_from_selects = refl

pub jobs_from_selects : is_select jobs_from_text ≡ true
unfolding everything
jobs_from_selects = refl

pub part_at_selects : is_select part_at_text ≡ true
unfolding everything
part_at_selects = refl
