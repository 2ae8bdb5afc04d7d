use Rattle.std.proofs.Common.{sym, ap, ◌∙◌}
use Rattle.std.specs.Prelude.{◌==◌, filter}
use Rattle.cut_measure.specs.Names.{name_cmp}
use Rattle.shop_records.specs.declared.records.Part.{Part}
use Rattle.shop_rows.specs.PartRows.{parts_in}
use Rattle.shop_rows.specs.Keys.{part_key}
use Rattle.shop_book.proofs.Held.{values-rows}
use Rattle.shop_book.proofs.ledger.Ledger.parts_named.Goals as goal

pub returns : goal.returns
returns c =
    c.in_ok-rows.ensures
    ∙ ap (filter (λ (part : Part). part.name.act == c.args.act)) (sym (values-rows part_key name_cmp (parts_in c.args.self.now.parts) c.args.self.now.kept_up.tally.rising))
