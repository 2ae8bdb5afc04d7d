use Rattle.std.proofs.Common.{ap, ◌∙◌}
use Rattle.std.specs.Ordering.{nat_cmp}
use Rattle.shop_rows.specs.Rows.{row_at}
use Rattle.shop_rows.specs.Keys.{begin_key}
use Rattle.shop_book.proofs.Held.{get-rows}
use Rattle.shop_book.proofs.ledger.Ledger.begun.Goals as goal

pub returns : goal.returns
returns c =
    (c.find.ensures.row ∙ ap (row_at begin_key nat_cmp c.args.number) c.deref.ensures.value
    ∙ get-rows begin_key nat_cmp c.args.self.now.begun.items c.args.number c.args.self.now.kept_up.begun_rise)
