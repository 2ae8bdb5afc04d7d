-- Which texts are a SELECT.
use Rattle.std.specs.Prelude.{ℕ, List, Bool, true, false, Ok, Err}
use Rattle.sqlite_ast.specs.declared.Statement.{Statement}
use Rattle.sqlite_ast.specs.declared.Statement.TheVariants as written
use Rattle.sqlite_syntax.specs.declared.statement.Parsed.{Parsed}
use Rattle.sqlite_resolve.specs.Compile.{first}
use Rattle.sqlite_resolve.specs.Lowering.{Checked}

abbrev pub statement_at : Checked Parsed → Statement
statement_at (Ok p) = p.statement
statement_at (Err e) = written.Empty

abbrev pub is_query : Statement → Bool
is_query (written.Select s) = true
is_query _ = false

-- the first statement of the text is a SELECT
abbrev pub is_select : List ℕ → Bool
is_select text = is_query (statement_at (first text))
