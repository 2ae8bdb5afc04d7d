use Rattle.std.proofs.Common.{lit<, arith}
use Rattle.std.proofs.lemmas.Str.Pattern.{split_once_first}
use Rattle.shop_problems.proofs.Sized.{sheet_from}
use Rattle.shop_problems.proofs.stock.sheet_in.Goals as goal

pub returns-in-None : goal.returns-in-None
returns-in-None c = λ size is.
    let none = rw c.in-None.is at (split_once_first 120 c.args.text.now c.split_once.result c.split_once.ensures.cases (lit< tt)) in
    omega (arith, none, is.0)

pub returns-in-Some : goal.returns-in-Some
returns-in-Some c =
    let parts = rw c.in-Some.is at (split_once_first 120 c.args.text.now c.split_once.result c.split_once.ensures.cases (lit< tt)) in
    sheet_from c.args.text.now c.in-Some.w.now c.in-Some.h.now c.sides_of.result parts.0 parts.1 parts.2 c.sides_of.ensures
