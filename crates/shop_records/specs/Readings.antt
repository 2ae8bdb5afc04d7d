-- What the text of a command was read as.
use Rattle.std.specs.Prelude.{List, Option, Some, None}
use Rattle.cut_measure.specs.Measures.{Size}
use Rattle.cut_tree.specs.Patterns.{Pattern}
use Rattle.shop_files.specs.declared.orders.OrderLine.{OrderLine}
use Rattle.shop_files.specs.declared.problems.Piece.{Piece}
use Rattle.shop_records.specs.declared.messages.Reply.{Reply}

pub data Reading : Type 0 where
  -- the command has no text, or its text stands for nothing
  unread : Reading
  -- the plan that the text spells
  Plan : (plan : Pattern) → Reading
  -- the lines of an order file
  Lines : (lines : List OrderLine) → Reading
  -- a problem's rectangle and pieces
  Problem : (size : Size) (pieces : List Piece) → Reading
  -- the same import again, and its first reply, where the row that is kept of it stores one
  Again : (answer : Option Reply) → Reading

-- the plan, where it was read as one
abbrev pub plan_in : Reading → Option Pattern
plan_in (Plan plan) = Some plan
plan_in _ = None

-- the reading of a text that was looked for a plan
abbrev pub reading_of : Option Pattern → Reading
reading_of None = unread
reading_of (Some plan) = Plan plan
