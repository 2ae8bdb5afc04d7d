use Rattle.std.proofs.Common.{◌<◌, ◌^◌, rules}
use Rattle.shop_records.specs.declared.records.Column.TheVariants.{Received, Stock, Rack, Pieces, Kerf, Scrap, Returned}
use Rattle.shop_rows.specs.Sums.{total_in}
use Rattle.shop_store.proofs.checking.in_range.Goals as goal

pub returns : goal.returns
returns c = λ column.
    elim column as (λ x. total_in x c.args.totals < 2 ^ 64) [
      | Received ↦ search rules
      | Stock ↦ search rules
      | Rack ↦ search rules
      | Pieces ↦ search rules
      | Kerf ↦ search rules
      | Scrap ↦ search rules
      | Returned ↦ search rules
    ]
