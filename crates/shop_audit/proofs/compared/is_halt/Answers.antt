use Rattle.std.proofs.Common.{ap, sym, ◌∙◌}
use Rattle.std.specs.Prelude.{Some}
use Rattle.shop_book.specs.Equal.{halt_decides}
use Rattle.shop_audit.proofs.compared.is_halt.Goals as goal

pub returns-in-Some : goal.returns-in-Some
returns-in-Some c = λ same. c.in-Some.is ∙ ap Some ((halt_decides c.in-Some.one c.args.row.now).0 (sym c.is_same_halt.ensures ∙ same))
