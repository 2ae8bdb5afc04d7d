-- What an INSERT by name is compiled to, whatever schema it runs over.
use Rattle.std.proofs.Common.{◌≡◌, ℕ, true, ◌==◌, List, [], length, slice_get, Some, None, Ok, Err, refl}
use Rattle.sqlite_ast.specs.declared.Statement.{Statement}
use Rattle.sqlite_ast.specs.declared.Statement.TheVariants as written
use Rattle.sqlite_ast.specs.declared.Conflict.TheVariants as conflict
use Rattle.sqlite_syntax.specs.declared.statement.Parsed.{Parsed}
use Rattle.sqlite_schema.specs.declared.schema.Schema.{Schema}
use Rattle.sqlite_schema.specs.declared.schema.Table.{Table}
use Rattle.sqlite_schema.specs.declared.command.Source.{Source}
use Rattle.sqlite_schema.specs.declared.command.Command.TheVariants.{Insert}
use Rattle.sqlite_schema.specs.Names.{table_named}
use Rattle.sqlite_resolve.specs.declared.compiled.Compiled.{Compiled}
use Rattle.sqlite_resolve.specs.Lowering.{Checked}
use Rattle.sqlite_resolve.specs.Compile.{first, compiled, planned, with_command, meaning, returning, shows, timed, command, insert_or_abort, insert, new_rows}
use Rattle.sqlite_resolve.specs.Scope.{Name}
use Rattle.sqlite.specs.Listing.{understood}
use Rattle.sqlite.proofs.Callers.{IsPlain, command_of}

-- the statement inserts these rows into a table that has this name and these columns
abbrev pub IsInserting : Schema → Name → Table → Source → Statement → Type 0
IsInserting schema name t s (written.Insert conflict.Abort into columns rows clauses shown) =
    (into ≡ name) × (new_rows schema t 0 columns rows ≡ Ok s) × ((length clauses == 0) ≡ true) × ((length shown == 0) ≡ true)
IsInserting schema name t s _ = ⊥

abbrev pub ReadsInsert : Schema → Name → Table → Source → Checked Parsed → Type 0
ReadsInsert schema name t s (Ok p) = IsInserting schema name t s p.statement × (p.names ≡ []) × (p.formats ≡ [])
ReadsInsert schema name t s (Err e) = ⊥

module _ (schema : Schema) (name : Name) (t : Table) (s : Source) (unstamped : t.stamps.formats ≡ []) (at : ℕ) (named : table_named schema name ≡ Some at) (placed : slice_get schema.tables at ≡ Some t) where
  inserts : (formats : List Name) (st : Statement) → IsInserting schema name t s st → command schema formats 0 st ≡ Ok (Insert at s)
  unfolding command insert_or_abort insert
  inserts formats (written.Insert conflict.Abort into columns rows clauses shown) h = rw (h.2, h.0, named, placed, h.1) refl
  inserts formats _ h = absurd h

  unreturned : (base : ℕ) (st : Statement) → IsInserting schema name t s st → returning schema base st ≡ Ok None
  unfolding returning shows
  unreturned base (written.Insert conflict.Abort into columns rows clauses shown) h = rw h.3 refl
  unreturned base _ h = absurd h

  untimed : (st : Statement) → IsInserting schema name t s st → timed schema [] st ≡ []
  unfolding timed
  untimed (written.Insert conflict.Abort into columns rows clauses shown) h = rw (h.0, named, placed, unstamped) refl
  untimed _ h = absurd h

  abbrev Fine : Checked Compiled → Type 0
  Fine r = (command_of r ≡ Insert at s) × IsPlain r

  compiled_so : (text : List ℕ) (r : Checked Parsed) → first text ≡ r → ReadsInsert schema name t s r → (c : Compiled) × (compiled schema text ≡ Ok c) × Fine (Ok c)
  unfolding compiled planned meaning
  compiled_so text (Ok p) is h = (with_command p ([], (Insert at s, None)), rw (is, h.1, h.2, untimed p.statement h.0, unreturned 0 p.statement h.0, inserts [] p.statement h.0) refl, (refl, (refl, refl)))
  compiled_so text (Err e) is h = absurd h

  pub understood_inserts : (text : List ℕ) → ReadsInsert schema name t s (first text) → Fine (understood schema text)
  unfolding understood
  understood_inserts text h = let it = compiled_so text (first text) refl h in rw it.1 it.2
