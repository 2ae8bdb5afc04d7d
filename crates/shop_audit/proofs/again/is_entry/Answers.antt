use Rattle.std.proofs.Common.{ap, sym, ◌∙◌}
use Rattle.std.specs.Prelude.{Some}
use Rattle.shop_book.specs.Equal.{entry_decides}
use Rattle.shop_audit.proofs.again.is_entry.Goals as goal

pub returns-in-Some : goal.returns-in-Some
returns-in-Some c = λ same. c.in-Some.is ∙ ap Some ((entry_decides c.in-Some.one c.args.entry.now).0 (sym c.is_same_entry.ensures ∙ same))
