use Rattle.std.proofs.Common.{◌≡◌, true, inl, inr, refl, sym, ap, subst, ◌∙◌}
use Rattle.std.specs.Prelude.{◌⊎◌, ◌||◌, IsTrue}
use Rattle.shop_records.specs.Lists.{has_job, is_name_of, made_part}
use Rattle.shop_records.specs.Same.{same_name}
use Rattle.shop_records.specs.declared.records.Job.{Job}
use Rattle.shop_book.specs.Ledgers.{content_in}
use Rattle.shop_book.specs.Stories.{is_on_in}
use Rattle.shop_book.proofs.AboutOrders.{on_in}
use Rattle.shop_book.proofs.EntriesFiled.{made_has}
use Rattle.shop_book.proofs.JobsFiled.{either, part_is_filed}
use Rattle.shop_book.proofs.ledger.Ledger.acts_of_part.Goals as goal

pub returns : goal.returns
returns c = λ entry about.
    let self = c.args.self.now in
    let content = content_in self in
    let name = c.args.name in
    let acts = c.in_ok-acts.acts in
    let has = has_job content (λ (job : Job). same_name name job.part) entry in
    elim (either (made_part name entry) (is_name_of name entry.part || has) about) [
      | inl made ↦ inr (made_has name acts entry c.in_ok-acts.ensures.made made)
      | inr other ↦ elim (either (is_name_of name entry.part) has other) [
        | inl named ↦ inl named
        | inr worked ↦
            let there : is_on_in self.jobs.items entry.job name ≡ true = on_in self.jobs.items self.kept_up.jobs_rise entry.job content refl name ∙ worked in
            inr (inl (c.in_ok-acts.ensures.jobs entry.job (part_is_filed self.works self.jobs.items self.kept_up.worked entry.job name there)))
      ]
    ]
