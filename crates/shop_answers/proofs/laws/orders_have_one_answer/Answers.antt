use Rattle.shop_records.specs.Content.{has_order}
use Rattle.shop_records.specs.Lists.{orders_after}
use Rattle.shop_answers.proofs.OrdersReply.{lines_alike, orders_alike, order_alike}
use Rattle.shop_answers.proofs.laws.orders_have_one_answer.Goals as goal

pub returns : goal.returns
returns c = record {
  lines = lines_alike;
  orders = λ m after. orders_alike m (orders_after m after);
  order = λ m order. order_alike m order (has_order m order);
}
