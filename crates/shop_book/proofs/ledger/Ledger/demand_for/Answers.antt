use Rattle.std.proofs.Common.{ap, cond, sym, ◌∙◌}
use Rattle.std.specs.Prelude.{None}
use Rattle.std.specs.Ordering.{nat_cmp}
use Rattle.shop_records.specs.Columns.{is_piece, state_of}
use Rattle.shop_records.specs.Content.{demand_at}
use Rattle.shop_records.specs.declared.records.State.{State}
use Rattle.shop_rows.specs.Rows.{row_at}
use Rattle.shop_rows.specs.Keys.{demand_key}
use Rattle.shop_book.specs.Ledgers.{content_in}
use Rattle.shop_book.proofs.Held.{get-rows}
use Rattle.shop_book.proofs.ledger.Ledger.demand_for.Goals as goal

pub returns-in-Piece : goal.returns-in-Piece
returns-in-Piece c =
    let book = c.args.self.now in
    c.find.ensures.row ∙ ap (row_at demand_key nat_cmp c.in-Piece.demand) c.deref.ensures.value
    ∙ get-rows demand_key nat_cmp book.demands.items c.in-Piece.demand book.kept_up.demands_rise
    ∙ ap (λ (state : State). cond (is_piece state) (demand_at (content_in book) (state_of state)) None) (sym c.in-Piece.is)
