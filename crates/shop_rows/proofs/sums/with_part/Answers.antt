use Rattle.shop_records.specs.declared.records.Column.TheVariants.{Received, Stock, Rack, Pieces, Kerf, Scrap, Returned}
use Rattle.shop_rows.proofs.sums.with_part.Goals as goal

pub raised-requires : goal.raised-requires
raised-requires c = c.requires Received

pub raised-requires-2 : goal.raised-requires-2
raised-requires-2 c = c.requires Stock

pub raised-requires-3 : goal.raised-requires-3
raised-requires-3 c = c.requires Rack

pub raised-requires-4 : goal.raised-requires-4
raised-requires-4 c = c.requires Pieces

pub raised-requires-5 : goal.raised-requires-5
raised-requires-5 c = c.requires Kerf

pub raised-requires-6 : goal.raised-requires-6
raised-requires-6 c = c.requires Scrap

pub raised-requires-7 : goal.raised-requires-7
raised-requires-7 c = c.requires Returned
