-- The acts that made pieces of a demand, of a unit of a batch and of a unit: what is filed of them, and which are asked for.
use Rattle.std.specs.Prelude.{◌≡◌, ℕ, ◌&&◌, Bool, IsTrue, List}
use Rattle.shop_records.specs.Columns.{is_piece, state_of}
use Rattle.shop_records.specs.Content.{Content}
use Rattle.shop_records.specs.Elements.{IsIn}
use Rattle.shop_records.specs.Lists.{is_after, is_from}
use Rattle.shop_records.specs.declared.pieces.PieceSource.{PieceSource}
use Rattle.shop_records.specs.declared.pieces.PieceSource.TheVariants as source
use Rattle.shop_records.specs.declared.records.Demand.{Demand}
use Rattle.shop_records.specs.declared.records.Part.{Part}
use Rattle.shop_book.specs.Filing.{is_filed_for, is_filed_in, is_filed_of}
use Rattle.shop_book.specs.declared.ledger_pieces.Asked.{Asked}
use Rattle.shop_book.specs.declared.number_index.NumberIndex.{NumberIndex}

-- ---- what is filed

-- the act that made a piece is filed under its demand, its batch and its unit
pub record IsFiled (index : NumberIndex) (part : Part) : Type 0 where
  pub demand : IsTrue (is_filed_for index (state_of part.state) part.name.act)
  pub batch : IsTrue (is_filed_of index part.batch part.name.act)
  pub unit : IsTrue (is_filed_in index part.root part.name.act)

-- so is that of each piece among parts
abbrev pub AreFiled : NumberIndex → List Part → Type 0
AreFiled index parts = (part : Part) → IsIn part parts → IsTrue (is_piece part.state) → IsFiled index part

-- an act is filed under one of these demands that is of the order
pub record IsFiledForOrder (index : NumberIndex) (rows : List Demand) (order : List ℕ) (act : ℕ) : Type 0 where
  pub row : Demand
  pub among : IsIn row rows
  pub own : row.order ≡ order
  pub filed : IsTrue (is_filed_for index row.number act)

-- ---- what is asked for

-- a part is a piece that is asked for
abbrev pub is_asked : Content → Asked → Part → Bool
is_asked content asked part = is_from content asked.of part && is_after asked.after part.name

-- the act made one of the parts that are pieces of this
pub record MadePiece (content : Content) (parts : List Part) (of : PieceSource) (act : ℕ) : Type 0 where
  pub part : Part
  pub among : IsIn part parts
  pub from : IsTrue (is_from content of part)
  pub own : part.name.act ≡ act

-- where pieces of an order are asked for, all its demands are among these
abbrev pub HaveLinesOf : PieceSource → (demands rows : List Demand) → Type 0
HaveLinesOf of demands rows = (order : List ℕ) (row : Demand) → of ≡ source.Order order → IsIn row demands → row.order ≡ order → IsIn row rows
