use Rattle.std.proofs.Common.{Option, sym, subst}
use Rattle.std.specs.Prelude.{OnOk}
use Rattle.std.specs.Option.{option_to_list}
use Rattle.shop_records.specs.declared.journal.Entry.{Entry}
use Rattle.shop_book.specs.FiledEntries.{AreEntriesFiled}
use Rattle.shop_book.proofs.number_index.NumberIndex.file_new_entry.Goals as goal

pub returns-in-Some-clause-filed : goal.returns-in-Some-clause-filed
returns-in-Some-clause-filed c = subst (λ (entry : Option Entry). OnOk c.file_entry.result (AreEntriesFiled c.file_entry.new.self (option_to_list entry))) (sym c.in-Some.is) c.file_entry.ensures.filed
