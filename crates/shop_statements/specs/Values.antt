-- Which records are values: their names, codes, sizes and numbers are in the ranges of their types.
use Rattle.std.specs.Prelude.{◌≡◌, ◌<◌, ◌^◌, ℕ, IfSome, IsTrue}
use Rattle.cut_measure.specs.Codes.{is_code}
use Rattle.cut_measure.specs.Measures.{is_size}
use Rattle.cut_measure.specs.Names.{IsName}
use Rattle.cut_measure.specs.declared.sizes.Kind.TheVariants.{Sheet}
use Rattle.shop_records.specs.Columns.{state_of}
use Rattle.shop_records.specs.declared.journal.Entry.{Entry}
use Rattle.shop_records.specs.declared.records.Part.{Part}

-- a bar's size is a sheet's too
pub record IsPartValue (p : Part) : Type 0 where
  pub name : IsName p.name
  pub root : IsName p.root
  pub material : IsTrue (is_code p.material)
  pub batch : IsTrue (is_code p.batch)
  pub x : p.x < 2 ^ 32
  pub y : p.y < 2 ^ 32
  pub size : IsTrue (is_size Sheet p.size.w p.size.h)
  pub state : state_of p.state < 2 ^ 32

-- An entry's order is a code, and its part has a name: so no columns stand for two entries.
pub record IsEntryValue (e : Entry) : Type 0 where
  pub order : IfSome e.order (λ code. IsTrue (is_code code))
  pub part : IfSome e.part IsName

-- an entry under its own number
abbrev pub IsOwnEntry : ℕ → Entry → Type 0
IsOwnEntry number e = (e.number ≡ number) × IsEntryValue e
