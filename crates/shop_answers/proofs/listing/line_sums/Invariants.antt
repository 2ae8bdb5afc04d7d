use Rattle.shop_records.specs.declared.records.Demand.{Demand}
use Rattle.shop_answers.proofs.OrdersReply.{IsSum}
use Rattle.shop_answers.proofs.listing.line_sums.Given as goal

abbrev pub invariant-loop-line : goal.invariant-loop-line
invariant-loop-line l = record {
  made : IsSum (λ (d : Demand). d.made) l.lines l.line-index l.sums.made;
  reserved : IsSum (λ (d : Demand). d.reserved) l.lines l.line-index l.sums.reserved;
  wanted : IsSum (λ (d : Demand). d.wanted) l.lines l.line-index l.sums.wanted;
}
