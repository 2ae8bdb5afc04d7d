use Rattle.std.proofs.Common.{refl, ap, ◌∙◌}
use Rattle.std.specs.Prelude.{◌||◌}
use Rattle.shop_book.specs.Ledgers.{content_in}
use Rattle.shop_book.specs.Stories.{is_on_in}
use Rattle.shop_book.proofs.AboutOrders.{on_in}
use Rattle.shop_book.proofs.ledger.Ledger.is_about_part.Goals as goal

pub returns : goal.returns
returns c =
    let self = c.args.self.now in
    λ i. c.made_part-made.ensures i || (c.is_name_of-named.ensures i || (c.is_on_in-worked.ensures ∙ ap (λ jobs. is_on_in jobs c.args.entry.now.job c.args.name) c.deref.ensures.value ∙ on_in self.jobs.items self.kept_up.jobs_rise c.args.entry.now.job (content_in self) refl c.args.name) i)
