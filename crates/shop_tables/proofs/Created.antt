-- What a text that makes a table is compiled to, whatever schema it runs over.
use Rattle.std.proofs.Common.{◌≡◌, ℕ, ◌+◌, Bool, true, false, not, ◌&&◌, ◌==◌, if◌then◌else◌, List, [], length, slice_range, Option, Some, None, is_some, Ok, Err, refl, sym, subst}
use Rattle.sqlite_ast.specs.declared.Statement.{Statement}
use Rattle.sqlite_ast.specs.declared.Statement.TheVariants as written
use Rattle.sqlite_syntax.specs.declared.statement.Parsed.{Parsed}
use Rattle.sqlite_schema.specs.declared.schema.Schema.{Schema}
use Rattle.sqlite_schema.specs.declared.schema.Table.{Table}
use Rattle.sqlite_schema.specs.declared.command.Command.{Command}
use Rattle.sqlite_schema.specs.declared.command.Command.TheVariants.{CreateTable, Nothing}
use Rattle.sqlite_resolve.specs.declared.compiled.Compiled.{Compiled}
use Rattle.sqlite_resolve.specs.declared.error.CompileError.TheVariants.{Exists, Misuse, Unsupported}
use Rattle.sqlite_resolve.specs.Lowering.{Checked, and_then}
use Rattle.sqlite_resolve.specs.Compile.{first, small, compiled, planned, with_command, meaning, returning, timed, command, create_table, creates, is_reserved, table_defined_by}
use Rattle.sqlite_resolve.specs.Define as define
use Rattle.sqlite.specs.Listing.{understood, misses_table}
use Rattle.sqlite_resolve.specs.Scope.{Name}

-- the statement makes this table
abbrev pub IsMaking : Table → List Name → Statement → Type 0
IsMaking t formats (written.CreateTable def) =
    (def.if_missing ≡ false) × (is_reserved def.name ≡ false) × (define.table formats def ≡ Ok t)
    × ((length t.computed == length t.stamps.places && not def.resolves) ≡ true)
IsMaking t formats _ = ⊥

abbrev pub ReadsAs : List ℕ → Table → Checked Parsed → Type 0
ReadsAs text t (Ok p) = IsMaking t p.formats p.statement × (table_defined_by (slice_range text p.start p.end) ≡ Ok t)
ReadsAs text t (Err e) = ⊥

abbrev Ends : Checked Command → Type 0
Ends (Ok c) = c ≡ CreateTable
Ends (Err e) = misses_table (Err e) ≡ false

by_cases : (attached reserved if_missing : Bool) (same other : Option ℕ) (made : Checked Command) → reserved ≡ false → if_missing ≡ false → made ≡ Ok CreateTable
    → Ends (if attached then Err Unsupported else and_then (if reserved then Err Misuse else (if is_some other then Err Exists else (if is_some same then (if if_missing then Ok false else Err Exists) else Ok true))) (λ is_new. if is_new then made else Ok Nothing))
by_cases true reserved if_missing same other made free always is = refl
by_cases false true if_missing same other made free always is = absurd (cc)
by_cases false false if_missing same (Some x) made free always is = refl
by_cases false false true (Some x) None made free always is = absurd (cc)
by_cases false false false (Some x) None made free always is = refl
by_cases false false if_missing None None made free always is = subst Ends (sym is) refl

ends : (schema : Schema) (t : Table) (formats : List Name) (s : Statement) (base : ℕ) → IsMaking t formats s → Ends (command schema formats base s)
unfolding command create_table creates
ends schema t formats (written.CreateTable def) base h =
    let made : Checked Command = and_then (define.table formats def) (λ t. if length t.computed == length t.stamps.places && not def.resolves then Ok CreateTable else Err Unsupported) in
    let is : made ≡ Ok CreateTable = rw (h.2, h.3) refl in
    by_cases _ _ _ _ _ made h.1 h.0 is
ends schema t formats _ base h = absurd h

unreturned : (schema : Schema) (t : Table) (formats : List Name) (s : Statement) (base : ℕ) → IsMaking t formats s → returning schema base s ≡ Ok None
unfolding returning
unreturned schema t formats (written.CreateTable def) base h = refl
unreturned schema t formats _ base h = absurd h

untimed : (schema : Schema) (t : Table) (formats : List Name) (s : Statement) → IsMaking t formats s → timed schema formats s ≡ []
unfolding timed
untimed schema t formats (written.CreateTable def) h = refl
untimed schema t formats _ h = absurd h

-- what is compiled of the text
pub record IsMakingCompiled (text : List ℕ) (t : Table) (c : Compiled) : Type 0 where
  pub command : c.command ≡ CreateTable
  pub returning : c.returning ≡ None
  pub formats : c.formats ≡ []
  pub defines : table_defined_by (slice_range text c.start c.end) ≡ Ok t

abbrev Fine : List ℕ → Table → Checked Compiled → Type 0
Fine text t (Ok c) = IsMakingCompiled text t c
Fine text t (Err e) = misses_table (Err e) ≡ false

planned_fine : (schema : Schema) (text : List ℕ) (t : Table) (p : Parsed) → ReadsAs text t (Ok p) → Fine text t (and_then (planned schema p) (λ plan. Ok (with_command p plan)))
unfolding planned meaning
planned_fine schema text t p h =
    let base = small p.names + small (timed schema p.formats p.statement) in
    rw (unreturned schema t p.formats p.statement base h.0) (each (command schema p.formats base p.statement) (ends schema t p.formats p.statement base h.0))
  where
    each : (c : Checked Command) → Ends c → Fine text t (and_then (and_then (and_then c (λ c. Ok (c, None))) (λ found. Ok (timed schema p.formats p.statement, found))) (λ plan. Ok (with_command p plan)))
    each (Ok c) e = record { command = e; returning = refl; formats = untimed schema t p.formats p.statement h.0; defines = h.1 }
    each (Err e) is = is

compiled_fine : (schema : Schema) (text : List ℕ) (t : Table) (r : Checked Parsed) → first text ≡ r → ReadsAs text t r → Fine text t (compiled schema text)
unfolding compiled
compiled_fine schema text t (Ok p) is h = rw is (planned_fine schema text t p h)
compiled_fine schema text t (Err e) is h = absurd h

-- What is understood of a text that makes a table, over any schema: that, or nothing.
pub understood_fine : (schema : Schema) (text : List ℕ) (t : Table) (c : Compiled) → ReadsAs text t (first text) → understood schema text ≡ Ok c → IsMakingCompiled text t c
unfolding understood
understood_fine schema text t c h is = of (compiled schema text) _ (compiled_fine schema text t (first text) refl h) is
  where
    of : (r other : Checked Compiled) → Fine text t r → (if misses_table r then other else r) ≡ Ok c → IsMakingCompiled text t c
    of (Ok d) other fine is = let same : d ≡ c = cc in subst (IsMakingCompiled text t) same fine
    of (Err e) other fine is = absurd (let e = rw fine at is in cc)
