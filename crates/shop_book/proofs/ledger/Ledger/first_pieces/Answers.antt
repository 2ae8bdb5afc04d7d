use Rattle.std.proofs.Common.{List, take, sym, ap, ◌∙◌}
use Rattle.std.specs.Prelude.{filter, ◌&&◌}
use Rattle.cut_measure.specs.Names.{name_cmp}
use Rattle.shop_records.specs.Lists.{is_after, is_from}
use Rattle.shop_records.specs.declared.records.Part.{Part}
use Rattle.shop_rows.specs.Keys.{part_key}
use Rattle.shop_rows.specs.PartRows.{parts_in}
use Rattle.shop_book.specs.Ledgers.{content_in}
use Rattle.shop_book.proofs.Held.{values-rows}
use Rattle.shop_book.proofs.ledger.Ledger.first_pieces.Goals as goal

pub returns : goal.returns
returns c =
    let book = c.args.self.now in
    c.in_ok-rows.ensures
    ∙ ap (λ (parts : List Part). take c.args.most (filter (λ (part : Part). is_from (content_in book) c.args.of part && is_after c.args.after part.name) parts))
    (sym (values-rows part_key name_cmp (parts_in book.parts) book.kept_up.tally.rising))
