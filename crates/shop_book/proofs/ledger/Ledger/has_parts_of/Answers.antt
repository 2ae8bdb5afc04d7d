use Rattle.cut_measure.specs.Names.{name_cmp}
use Rattle.shop_rows.specs.Keys.{part_key}
use Rattle.shop_rows.specs.PartRows.{parts_in}
use Rattle.shop_book.proofs.Held.{maps_decide}
use Rattle.shop_book.proofs.ledger.Ledger.has_parts_of.Goals as goal

pub returns : goal.returns
returns c =
    let mine = c.args.self.now in
    let its = c.args.other.now in
    maps_decide part_key name_cmp (parts_in mine.parts) (parts_in its.parts) c.has_parts_of.result c.has_parts_of.ensures mine.kept_up.tally.rising its.kept_up.tally.rising
