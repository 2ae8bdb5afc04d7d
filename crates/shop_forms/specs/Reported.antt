-- What the text of a list's row needs to be read back, and how a plan's node is reported.
use Rattle.std.specs.Prelude.{ℕ, List, Bool, false, Option, Some, None, codes}
use Rattle.cut_measure.specs.declared.sizes.Axis.TheVariants.{X, Y}
use Rattle.cut_measure.specs.Names.{Name, name_text}
use Rattle.cut_tree.specs.declared.token.Token.{Token}
use Rattle.cut_tree.specs.declared.token.Token.TheVariants as token
use Rattle.shop_records.specs.declared.records.RackRow.{RackRow}
use Rattle.shop_records.specs.declared.records.Material.{Material}
use Rattle.shop_records.specs.declared.records.Part.{Part}
use Rattle.shop_records.specs.declared.records.DemandRow.{DemandRow}
use Rattle.shop_records.specs.declared.records.JobRow.{JobRow}
use Rattle.shop_records.specs.declared.records.OrderRow.{OrderRow}
use Rattle.shop_records.specs.declared.records.StateWord.{StateWord}
use Rattle.shop_records.specs.declared.pieces.PieceRow.{PieceRow}
use Rattle.shop_records.specs.declared.pieces.StepRow.{StepRow}
use Rattle.shop_records.specs.Columns.{state_of}
use Rattle.shop_records.specs.Messages.{IsWide}
use Rattle.shop_forms.specs.Fields.{state_text}

-- each number of a part on the rack has 64 bits
abbrev pub HasWideSides : RackRow → Type 0
HasWideSides row = IsWide row.h × IsWide row.w

-- the same of a row of another list: of a material, a part, a demand, a waiting job, an order and a piece
abbrev pub HasWideLimits : Material → Type 0
HasWideLimits m = IsWide m.limits.kerf × IsWide m.limits.min_long × IsWide m.limits.min_short

abbrev pub HasWidePart : Part → Type 0
HasWidePart p = IsWide p.size.h × IsWide (state_of p.state) × IsWide p.size.w

abbrev pub HasWideDemand : DemandRow → Type 0
HasWideDemand row =
    let d = row.demand in
    IsWide d.number × IsWide row.due × IsWide d.size.h × IsWide d.line × IsWide d.made × IsWide d.reserved × IsWide d.size.w × IsWide d.wanted × IsWide d.worth

abbrev pub HasWideJob : JobRow → Type 0
HasWideJob j = IsWide j.begun × IsWide j.cuts × IsWide j.due × IsWide j.h × IsWide j.job × IsWide j.w

abbrev pub HasWideOrder : OrderRow → Type 0
HasWideOrder o = IsWide o.due × IsWide o.lines × IsWide o.made × IsWide o.reserved × IsWide o.wanted

abbrev pub HasWidePiece : PieceRow → Type 0
HasWidePiece p = IsWide p.at × IsWide p.demand × IsWide p.h × IsWide p.line × IsWide p.w

-- ---- a plan's node

-- what is done there
abbrev pub what_text : Token → List ℕ
what_text (token.Cut X place) = codes "cut x"
what_text (token.Cut Y place) = codes "cut y"
what_text (token.Piece demand turned) = codes "piece"
what_text token.Rest = codes "rest"

-- a cut's place, else 0
abbrev pub cut_place : Token → ℕ
cut_place (token.Cut axis place) = place
cut_place (token.Piece demand turned) = 0
cut_place token.Rest = 0

-- a piece's demand, else 0
abbrev pub demand_cut : Token → ℕ
demand_cut (token.Cut axis place) = 0
demand_cut (token.Piece demand turned) = demand
demand_cut token.Rest = 0

-- a piece that is turned
abbrev pub is_turned : Token → Bool
is_turned (token.Cut axis place) = false
is_turned (token.Piece demand turned) = turned
is_turned token.Rest = false

-- an order's code, a part's name and its state, or an empty text
abbrev pub order_or_none : Option (List ℕ) → List ℕ
order_or_none None = codes ""
order_or_none (Some order) = order

abbrev pub name_or_none : Option Name → List ℕ
name_or_none None = codes ""
name_or_none (Some name) = name_text name

abbrev pub state_or_none : Option StateWord → List ℕ
state_or_none None = codes ""
state_or_none (Some state) = state_text state

-- each of its numbers has 64 bits
abbrev pub HasWideStep : StepRow → Type 0
HasWideStep r =
    IsWide (demand_cut r.step.what) × IsWide r.step.h × IsWide r.line × IsWide r.step.node × IsWide (cut_place r.step.what) × IsWide r.step.w × IsWide r.step.x × IsWide r.step.y
