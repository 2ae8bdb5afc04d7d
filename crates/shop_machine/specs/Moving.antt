-- How the totals of a material move with one of its parts.
use Rattle.std.specs.Prelude.{ℕ, ◌+◌, ◌-◌, ◌*◌, ◌^◌, ◌≤◌, ◌&&◌, List, [], ◌∷◌, Bool, nat_le, nat_lt, if◌then◌else◌, sum_by}
use Rattle.shop_records.specs.declared.records.Part.{Part}
use Rattle.shop_records.specs.declared.records.Totals.{Totals}
use Rattle.shop_records.specs.declared.records.Column.{Column}
use Rattle.shop_records.specs.declared.records.Column.TheVariants.{Received, Stock, Rack, Pieces, Kerf, Scrap, Returned}
use Rattle.shop_records.specs.Columns.{is_counted}

-- the cells of parts that a column counts
abbrev pub cells_counted : Column → List Part → ℕ
cells_counted column parts = sum_by (λ part. if is_counted column part then part.size.w * part.size.h else 0) parts

-- the cells of parts, column by column
abbrev pub tally : List Part → Totals
tally parts =
    record {
      received = cells_counted Received parts;
      stock = cells_counted Stock parts;
      rack = cells_counted Rack parts;
      pieces = cells_counted Pieces parts;
      kerf = cells_counted Kerf parts;
      scrap = cells_counted Scrap parts;
      returned = cells_counted Returned parts;
    }

-- a total holds what goes, and 64 bits hold it with so much more
abbrev pub can_move : (outgoing most total : ℕ) → Bool
can_move outgoing most total = nat_le outgoing total && nat_lt (total + most) (2 ^ 64)

-- The totals of a part's material hold the part, and as many cells more. So they do in each content that a history gives.
abbrev pub has_cells : Part → Totals → Bool
has_cells part t =
    let outgoing : Totals = tally (part ∷ []) in
    let most : ℕ = part.size.w * part.size.h in
    can_move outgoing.stock most t.stock && can_move outgoing.rack most t.rack && can_move outgoing.pieces most t.pieces && can_move outgoing.kerf most t.kerf
    && can_move outgoing.scrap most t.scrap && can_move outgoing.returned most t.returned

-- no more than so many cells, in each column but that of received
pub record AreFew (most : ℕ) (incoming : Totals) : Type 0 where
  pub stock : incoming.stock ≤ most
  pub rack : incoming.rack ≤ most
  pub pieces : incoming.pieces ≤ most
  pub kerf : incoming.kerf ≤ most
  pub scrap : incoming.scrap ≤ most
  pub returned : incoming.returned ≤ most

-- The totals when a part becomes other parts, of which these are the cells: its own go, and theirs come. What was received
-- stays.
abbrev pub moved_totals : Part → Totals → Totals → Totals
moved_totals part incoming t =
    let outgoing : Totals = tally (part ∷ []) in
    record {
      received = t.received;
      stock = t.stock - outgoing.stock + incoming.stock;
      rack = t.rack - outgoing.rack + incoming.rack;
      pieces = t.pieces - outgoing.pieces + incoming.pieces;
      kerf = t.kerf - outgoing.kerf + incoming.kerf;
      scrap = t.scrap - outgoing.scrap + incoming.scrap;
      returned = t.returned - outgoing.returned + incoming.returned;
    }
