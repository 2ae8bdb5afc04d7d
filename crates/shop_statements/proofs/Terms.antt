-- Queries on one table, and what is known of a statement's text.
use Rattle.std.proofs.Common.{◌≡◌, ℕ, pos, negsuc, List, [], false, None}
use Rattle.sqlite.specs.Listing.{understood, reads_listing}
use Rattle.sqlite.specs.Command.{Command}
use Rattle.sqlite.specs.Command.TheVariants.{Select}
use Rattle.sqlite.specs.Schema.{Schema}
use Rattle.sqlite.specs.Query.{Query, inner, end}
use Rattle.sqlite.specs.Term.{Term, lit, op2}
use Rattle.sqlite.proofs.Callers.{IsPlain, command_of}
use Rattle.sqlite_sql.specs.declared.ops.BinaryOp.TheVariants.{Compare}
use Rattle.sqlite_sql.specs.declared.ops.CompareOp.TheVariants.{Eq}
use Rattle.sqlite_value.specs.declared.keys.Collation.TheVariants.{Binary}
use Rattle.sqlite_value.specs.declared.keys.Key.{Key}
use Rattle.sqlite_value.specs.declared.value.Value.TheVariants.{Int}

abbrev pub same : Term → Term → Term
same a b = op2 (Compare Eq Binary) a b

-- the rows of a table that pass these terms
abbrev pub from_table : ℕ → List Term → List Term → List (Term × Key) → Query
from_table tree filter project order =
    record {
      from = inner tree end;
      filter = filter;
      group = None;
      project = project;
      distinct = false;
      collations = [];
      order = order;
      limit = lit (Int (negsuc 0));
      offset = lit (Int (pos 0));
    }

-- the text is this query
pub record Reads (schema : Schema) (text : List ℕ) (query : Query) (names : List (List ℕ)) : Type 0 where
  pub command : command_of (understood schema text) ≡ Select (record { lets = []; body = query }) names
  pub listing : reads_listing schema text ≡ false
  pub plain : IsPlain (understood schema text)

-- the text is this change of rows
pub record Writes (schema : Schema) (text : List ℕ) (what : Command) : Type 0 where
  pub command : command_of (understood schema text) ≡ what
  pub plain : IsPlain (understood schema text)
