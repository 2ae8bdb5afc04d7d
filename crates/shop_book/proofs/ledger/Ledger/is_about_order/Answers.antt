use Rattle.std.proofs.Common.{refl, ap, ◌∙◌}
use Rattle.std.specs.Prelude.{◌||◌}
use Rattle.shop_book.specs.Ledgers.{content_in}
use Rattle.shop_book.specs.Stories.{has_piece_in}
use Rattle.shop_book.proofs.AboutOrders.{piece_in}
use Rattle.shop_book.proofs.ledger.Ledger.is_about_order.Goals as goal

pub returns : goal.returns
returns c =
    let self = c.args.self.now in
    λ i. c.is_code_of-named.ensures i || (c.has_piece_in-worked.ensures ∙ ap (λ jobs. has_piece_in jobs c.args.entry.now.job c.args.numbers.now) c.deref.ensures.value ∙ piece_in self.jobs.items self.kept_up.jobs_rise c.args.entry.now.job (content_in self) refl c.args.order c.args.numbers.now c.requires) i
