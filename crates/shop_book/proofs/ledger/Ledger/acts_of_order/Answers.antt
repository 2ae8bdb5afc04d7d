use Rattle.std.proofs.Common.{◌≡◌, true, inl, inr, refl, sym, ap, subst, ◌∙◌}
use Rattle.std.specs.Prelude.{◌⊎◌, ◌||◌, IsTrue}
use Rattle.shop_records.specs.Lists.{has_job, has_piece_of, is_code_of}
use Rattle.shop_records.specs.declared.journal.Entry.{Entry}
use Rattle.shop_records.specs.declared.journal.Subject.TheVariants as subject
use Rattle.shop_book.specs.FiledEntries.{HasKey}
use Rattle.shop_book.specs.Ledgers.{content_in}
use Rattle.shop_book.specs.Stories.{has_piece_in}
use Rattle.shop_book.proofs.AboutOrders.{piece_in}
use Rattle.shop_book.proofs.JobsFiled.{either, piece_is_filed}
use Rattle.shop_book.proofs.ledger.Ledger.acts_of_order.Goals as goal

pub returns : goal.returns
returns c = λ entry about.
    let self = c.args.self.now in
    let content = content_in self in
    let order = c.args.order in
    let numbers = c.args.numbers.now in
    let acts = c.in_ok-acts.acts in
    elim (either (is_code_of order entry.order) (has_job content (has_piece_of content order) entry) about) [
      | inl named ↦ inl named
      | inr worked ↦
          let there : has_piece_in self.jobs.items entry.job numbers ≡ true = piece_in self.jobs.items self.kept_up.jobs_rise entry.job content refl order numbers c.requires ∙ worked in
          let f = piece_is_filed self.works self.jobs.items self.kept_up.worked entry.job numbers there in
          inr (inl (c.in_ok-acts.ensures f.0 entry.job f.1 f.2))
    ]
