-- What an INSERT, an UPDATE and a DELETE make of the trees, for any table with no count and no default that reads the time.
use Rattle.std.proofs.Common.{◌≡◌, ◌≢◌, ◌⊎◌, inl, inr, ℕ, ◌/◌, List, [], length, append-nil, slice_get, true, false, Option, Some, None, Ok, Err, Result, sym, ap, subst, ◌∙◌}
use Rattle.std.specs.List.{AllByRecursion}
use Rattle.sqlite_value.specs.Order.{Row}
use Rattle.sqlite.specs.Tree.{Trees}
use Rattle.sqlite.specs.Term.{Term}
use Rattle.sqlite.specs.Table.{Table}
use Rattle.sqlite_schema.specs.declared.program.Program.{Program}
use Rattle.sqlite.specs.Command.{Command}
use Rattle.sqlite.specs.Command.TheVariants.{Insert, Update, Delete}
use Rattle.sqlite.specs.Source.TheVariants.{Values, Query}
use Rattle.sqlite.specs.declared.run.Mode.{Mode}
use Rattle.sqlite.specs.Edit.{Edit, edit_of, edited, are_fresh, left_by, IsNoIndex}
use Rattle.sqlite_rules.specs.Edit.{taken_by}
use Rattle.sqlite.specs.Rowids.TheVariants.{Chosen, Given}
use Rattle.sqlite_rules.specs.Action.{works}
use Rattle.sqlite_rules.specs.Calls.{ids_of}
use Rattle.sqlite.specs.Effect.{Database, Answers, value_rows}
use Rattle.sqlite.specs.Does.{Tally, Does, OnTable, OnRows, WritesRows}
use Rattle.sqlite.specs.Rows.{Task, Written}
use Rattle.sqlite.proofs.Callers.{one_step}
use Rattle.shop_statements.proofs.Works.{nothing_works}

-- with no count and no default that reads the time
abbrev pub bare : Table → Table
bare t = record t { stamps = record { places = []; terms = []; formats = [] }; is_counted = false }

-- a part that gave a value did not stop on the way
went : {B E R : Type 0} {b : B} {Stops : E → Type 0} → ((stop : E) × Stops stop × (Ok b ≡ Err stop)) ⊎ R → R
went (inl stopped) = absurd (let e = stopped.2 in cc)
went (inr on) = on

same_value : {B E : Type 0} {a b : B} → ◌≡◌ {A = Result B E} (Ok a) (Ok b) → a ≡ b
same_value e = cc

-- what a write of one edit leaves
pub record IsEdited (db after : Database) (edit : Edit) : Type 0 where
  pub schema_is : after.schema ≡ db.schema
  pub rows : after.trees edit.table.tree ≡ edited db.trees edit
  pub fresh : are_fresh (left_by db.trees edit) edit.news ≡ true
  pub tables : AllByRecursion (λ t. t.tree ≢ edit.table.tree → after.trees t.tree ≡ db.trees t.tree) db.schema.tables
  pub others : (t : ℕ) → t ≢ edit.table.tree → IsNoIndex db.schema t → after.trees t ≡ db.trees t

module _ (limit : Option ℕ) (mode : Mode) (params : Row) (db after : Database) (tally : Tally) (at : ℕ) (base : Table)
    (placed : slice_get db.schema.tables at ≡ Some (bare base)) where
  abbrev table : Table
  table = bare base

  abbrev task : Task
  task = record { limit = limit; keys = mode.keys; schema = db.schema; table = table; params = params }

  on_rows : (text : List ℕ) (command : Command) → OnTable limit mode params db at (λ t. OnRows t mode None command db.trees) (Ok (tally, after))
      → (w : Written) × WritesRows task db.trees command (Ok w) × (after ≡ record { schema = db.schema; trees = w.trees }) × (tally.rows ≡ Some (length w.rows))
  on_rows text command h =
      let all = went (rw placed at h) in
      let tested = went all.2 in
      let returned = went tested.2 in
      (all.0, all.1, ap (λ (p : Tally × Database). p.1) (same_value returned.2), ap (λ (p : Tally × Database). p.0.rows) (same_value returned.2))

  applied : (edit : Edit) (next : Trees) → works db.schema mode.keys 0 edit.table.tree (taken_by db.trees edit) edit.news ≡ []
      → Rattle.sqlite_rules.specs.Action.Writes db.schema mode.keys db.trees edit (Ok next) → after ≡ record { schema = db.schema; trees = next } → IsEdited db after edit
  applied edit next none wrote is =
      let a = one_step db.schema mode.keys db.trees next edit none wrote in
      let trees : after.trees ≡ next = ap (λ (d : Database). d.trees) is in
      record { schema_is = ap (λ (d : Database). d.schema) is; rows = ap (λ (t : Trees). t edit.table.tree) trees ∙ a.rows; fresh = a.fresh; tables = subst (λ (u : Trees). AllByRecursion (λ t. t.tree ≢ edit.table.tree → u t.tree ≡ db.trees t.tree) db.schema.tables) (sym trees) a.tables; others = λ t far bare. ap (λ (u : Trees). u t) trees ∙ a.others t far bare }

  -- the rows that VALUES gives
  abbrev pub new_rows : List Term → ℕ → List Row
  new_rows terms width = value_rows params width (length terms / width) terms

  abbrev pub insertion : List Term → ℕ → Edit
  insertion terms width = edit_of db.trees table [] Chosen 0 (new_rows terms width)

  abbrev pub update : List Row → Edit
  update rows = edit_of db.trees table (ids_of rows) Given 1 rows

  -- it takes no row out, so that no foreign key acts
  pub inserted : (text : List ℕ) (terms : List Term) (width : ℕ) → Does limit mode params db text None (Insert at (Values terms width)) (Ok (tally, after)) → IsEdited db after (insertion terms width)
  inserted text terms width h =
      let wrote = on_rows text (Insert at (Values terms width)) h in
      let given = went wrote.1 in
      let counter = went given.2 in
      let written = went counter.2 in
      let counted = went written.2 in
      let rows : given.0 ≡ new_rows terms width = given.1.1 ∙ ap (λ p. value_rows p width (length terms / width) terms) (append-nil params) in
      let trees : (wrote.0).trees ≡ written.0 = ap (λ (it : Written). it.trees) (same_value counted.2) ∙ same_value counted.1 in
      applied (insertion terms width) written.0 (nothing_works db.schema mode.keys table.tree (insertion terms width).news)
      (subst (λ all. Rattle.sqlite_rules.specs.Action.Writes db.schema mode.keys db.trees (edit_of db.trees table [] Chosen 0 all) (Ok written.0)) rows written.1)
      (wrote.2 ∙ ap (λ t. record { schema = db.schema; trees = t }) trees)

  -- the rows that the query gives are written in place of those whose rowids it gives first
  pub updated : (text : List ℕ) (q : Program) → ((olds news : List Row) → works db.schema mode.keys 0 table.tree olds news ≡ [])
      → Does limit mode params db text None (Update at q) (Ok (tally, after)) → (rows : List Row) × Answers db q params rows × IsEdited db after (update rows) × (tally.rows ≡ Some (length (update rows).news))
  updated text q none h =
      let wrote = on_rows text (Update at q) h in
      let rows = went wrote.1 in
      let written = went rows.2 in
      let trees : (wrote.0).trees ≡ written.0 = ap (λ (it : Written). it.trees) (same_value written.2) in
      (rows.0, rows.1, applied (update rows.0) written.0 (none (taken_by db.trees (update rows.0)) (update rows.0).news) written.1 (wrote.2 ∙ ap (λ t. record { schema = db.schema; trees = t }) trees), wrote.3 ∙ ap (λ (it : Written). Some (length it.rows)) (same_value written.2))

  abbrev pub filling : List Row → Edit
  filling rows = edit_of db.trees table [] Chosen 0 rows

  -- the rows that the query gives are inserted
  pub copied : (text : List ℕ) (q : Program) → ((olds news : List Row) → works db.schema mode.keys 0 table.tree olds news ≡ [])
      → Does limit mode params db text None (Insert at (Query q)) (Ok (tally, after)) → (rows : List Row) × Answers db q params rows × IsEdited db after (filling rows)
  copied text q none h =
      let wrote = on_rows text (Insert at (Query q)) h in
      let given = went wrote.1 in
      let counter = went given.2 in
      let written = went counter.2 in
      let counted = went written.2 in
      let trees : (wrote.0).trees ≡ written.0 = ap (λ (it : Written). it.trees) (same_value counted.2) ∙ same_value counted.1 in (
        given.0,
        subst (λ p. Answers db q p given.0) (append-nil params) given.1,
        applied (filling given.0) written.0 (none (taken_by db.trees (filling given.0)) (filling given.0).news) written.1 (wrote.2 ∙ ap (λ t. record { schema = db.schema; trees = t }) trees),
      )

  abbrev pub clearing : List Row → Edit
  clearing rows = edit_of db.trees table (ids_of rows) Given 0 []

  -- the rows with the rowids that the query gives are taken out
  pub deleted : (text : List ℕ) (q : Program) → ((olds news : List Row) → works db.schema mode.keys 0 table.tree olds news ≡ [])
      → Does limit mode params db text None (Delete at q) (Ok (tally, after)) → (rows : List Row) × Answers db q params rows × IsEdited db after (clearing rows)
  deleted text q none h =
      let wrote = on_rows text (Delete at q) h in
      let rows = went wrote.1 in
      let written = went rows.2 in
      let trees : (wrote.0).trees ≡ written.0 = ap (λ (it : Written). it.trees) (same_value written.2) in
      (rows.0, rows.1, applied (clearing rows.0) written.0 (none (taken_by db.trees (clearing rows.0)) (clearing rows.0).news) written.1 (wrote.2 ∙ ap (λ t. record { schema = db.schema; trees = t }) trees))
