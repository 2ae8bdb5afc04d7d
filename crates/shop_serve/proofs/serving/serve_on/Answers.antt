use Rattle.shop_serve.specs.Serving.{most_served}
use Rattle.shop_serve.proofs.Unserved.{none_begun}
use Rattle.shop_serve.proofs.serving.serve_on.Goals as goal

pub returns-in_err-port-clause-err : goal.returns-in_err-port-clause-err
returns-in_err-port-clause-err g c = none_begun c.args.site.now g.B.Book c.args.book.now (most_served c.args.limit) c.from_residual.result

pub returns-in_err-clock-clause-err : goal.returns-in_err-clock-clause-err
returns-in_err-clock-clause-err g c = none_begun c.args.site.now g.B.Book c.args.book.now (most_served c.args.limit) c.from_residual-in_err-clock.result
