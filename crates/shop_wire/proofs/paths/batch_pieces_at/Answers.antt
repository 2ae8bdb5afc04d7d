use Rattle.std.proofs.Common.{sym, ap, ◌∙◌}
use Rattle.shop_wire.specs.Serves.{batch_pieces_asked}
use Rattle.shop_wire.proofs.Meant.{as_text, no_text}
use Rattle.shop_wire.proofs.paths.batch_pieces_at.Goals as goal

pub returns-in-Ok : goal.returns-in-Ok
returns-in-Ok c = c.batch_pieces_asked.ensures ∙ ap batch_pieces_asked c.in-Ok.ensures.cases.0 ∙ sym (as_text c.args.part.now _ c.in-Ok.ensures.cases.1)

pub returns-in-Err : goal.returns-in-Err
returns-in-Err c = sym (no_text c.args.part.now _ c.in-Err.ensures.cases.0)
