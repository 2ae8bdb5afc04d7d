use Rattle.std.proofs.Common.{sym, ap, ◌∙◌}
use Rattle.std.specs.Prelude.{unwrap_or}
use Rattle.shop_records.specs.declared.journal.Entry.{Entry}
use Rattle.shop_records.specs.Lists.{end_entry}
use Rattle.shop_book.proofs.Ends.{found_or}
use Rattle.shop_store.proofs.sql_storing.SqlStorageStorage.ended.Goals as goal

pub returns : goal.returns
returns g c = record {
  time = λ clean m was.
      c.at.ensures ∙ ap (λ found. unwrap_or found 0) ((was.1 clean).of_jobs c.args.job) ∙ sym (found_or (λ (entry : Entry). entry.at) (end_entry m c.args.job));
}
