use Rattle.std.proofs.lemmas.Option.{none-some}
use Rattle.shop_problems.proofs.Sized.{sheet_by}
use Rattle.shop_problems.proofs.stock.sides_of.Goals as goal

pub returns-in_err-w : goal.returns-in_err-w
returns-in_err-w c = rw c.from_residual.ensures (λ size (w, h, wide, high, sized). none-some w (c.in_err-w.ensures.only w wide))

pub returns-in_err-h : goal.returns-in_err-h
returns-in_err-h c = rw c.from_residual-in_err-h.ensures (λ size (w, h, wide, high, sized). none-some h (c.in_err-h.ensures.only h high))

pub returns : goal.returns
returns c =
    sheet_by c.args.w.now c.args.h.now c.in_ok-w.w c.in_ok-h.h c.new.result c.new.ensures c.in_ok-w.ensures.said c.in_ok-w.ensures.only
    c.in_ok-h.ensures.said c.in_ok-h.ensures.only
