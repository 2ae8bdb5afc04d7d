use Rattle.std.proofs.Common.{[], ◌∷◌, take, sym, ap, ◌∙◌}
use Rattle.std.specs.Option.{option_or}
use Rattle.shop_book.specs.Ends.{end_time, kept_time}
use Rattle.shop_book.proofs.Ends.{ends_in_turn, next_entry, or_in_turn}
use Rattle.shop_book.proofs.end_rows.JobEnds.put_all.Goals as goal

pub loop-entry-preserved : goal.loop-entry-preserved
loop-entry-preserved c = λ job.
    let before = kept_time job c.args.self.now in
    let entries = c.args.entries.now in
    let i = c.loop-entry.entry-index in
    let entry = c.entry-item.result in
    c.put.ensures job ∙ ap (λ found. option_or found (end_time job (entry ∷ []))) (c.reserve.ensures.same job ∙ c.loop-entry.invariant job)
    ∙ or_in_turn before (end_time job (take i entries)) (end_time job (entry ∷ []))
    ∙ ap (option_or before) (sym (ends_in_turn job (take i entries) (entry ∷ [])) ∙ ap (end_time job) (sym (next_entry entries i entry c.loop-entry-test.true c.entry-item.is)))
