use Rattle.shop_records.specs.Lists.{is_open}
use Rattle.shop_rows.proofs.Listed.{numbers_settled}
use Rattle.shop_rows.proofs.open.list_demand.Goals as goal

pub returns-clause-lists : goal.returns-clause-lists
returns-clause-lists c = λ find lists.
    let demand = c.args.demand.now in
    numbers_settled is_open find demand.number demand c.args.keys.now.items c.settle.new.rows.items lists c.settle.ensures.settled
