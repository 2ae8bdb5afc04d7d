use Rattle.std.proofs.Common.{[], ◌∷◌}
use Rattle.std.specs.Prelude.{IfSome, IsTrue}
use Rattle.std.proofs.lemmas.Result.{IfOk-weaker}
use Rattle.shop_book.specs.FiledEntries.{AreEntriesFiled}
use Rattle.shop_book.specs.Filing.{is_filed_in, is_filed_of}
use Rattle.shop_book.proofs.EntriesFiled.{entry_filed, filed_as, some_is}
use Rattle.shop_book.proofs.number_index.NumberIndex.file_entry.Goals as goal

pub returns-clause-filed : goal.returns-clause-filed
returns-clause-filed c =
    let entry = c.args.entry.now in
    let index = c.file_in_part.new.self in
    let n = c.filed_number-number.result in
    let two = c.file_for_some-2.ensures.stays in
    let three = c.file_of_order.ensures.stays in
    let last = c.file_in_part.ensures.stays in
    IfOk-weaker c.file_in_part.result (λ _. IfSome entry.part (λ name. IsTrue (is_filed_in index name n))) (λ _. AreEntriesFiled index (entry ∷ []))
    (λ _ part.
    entry_filed index entry
    (filed_as index entry n c.filed_number-number.ensures (λ some. last.numbers entry.job n (three.numbers entry.job n (two.numbers entry.job n (c.in_ok-file_for_some.ensures.filed some))))
    (λ some. last.numbers entry.act n (three.numbers entry.act n (c.in_ok-file_for_some-2.ensures.filed some)))
    (λ code is. last.codes code n (some_is (λ code. IsTrue (is_filed_of c.file_of_order.new.self code n)) entry.order c.in_ok-file_of_order.ensures.filed code is))
    (some_is (λ name. IsTrue (is_filed_in index name n)) entry.part part)))
    c.file_in_part.ensures.filed
