use Rattle.std.proofs.lemmas.Option.{none-some}
use Rattle.shop_problems.proofs.Sized.{bar_by}
use Rattle.shop_problems.proofs.stock.bar_in.Goals as goal

pub returns-in_err-w : goal.returns-in_err-w
returns-in_err-w c = rw c.from_residual.ensures (λ size (w, said, sized). none-some w (c.in_err-w.ensures.only w said))

pub returns : goal.returns
returns c = bar_by c.args.text.now c.in_ok-w.w c.new.result c.new.ensures c.in_ok-w.ensures.said c.in_ok-w.ensures.only
