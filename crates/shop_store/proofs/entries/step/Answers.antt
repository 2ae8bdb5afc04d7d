use Rattle.std.proofs.Common.{◌≡◌, ◌-◌, List, Some, length, sym, ap, subst, ◌∙◌, arith, rules}
use Rattle.std.specs.List.{slice_get}
use Rattle.sqlite.specs.Held.{state}
use Rattle.sqlite.specs.State.{HasCleanDisk}
use Rattle.shop_records.specs.declared.journal.Entry.{Entry}
use Rattle.shop_book.specs.Ends.{AddEnds}
use Rattle.shop_book.specs.FiledEntries.{AreEntriesFiled}
use Rattle.shop_store.proofs.InSteps.{before_last}
use Rattle.shop_store.proofs.NextEntries.{all_ends, all_filed, more_ends, more_filed, next_in}
use Rattle.shop_store.proofs.entries.step.Goals as goal

pub returns-in_default-clause-ends : goal.returns-in_default-clause-ends
returns-in_default-clause-ends g c clean b was =
    let chunk = c.in_ok-chunk.chunk in
    all_ends b.content c.args.ends.now c.args.at 1000 chunk (c.in_ok-chunk.ensures.rows clean b was) (omega arith) (search rules)

pub returns-clause-ends : goal.returns-clause-ends
returns-clause-ends g c clean b was =
    let chunk = c.in_ok-chunk.chunk in
    let last = c.in-Some.last.now in
    let before : HasCleanDisk (state g.S.Store c.args.conn.now) = let l = c.entries_after.ensures.leaves.survives.clean in omega (arith, l, clean) in
    let are = c.in_ok-chunk.ensures.rows clean b was in
    let end : slice_get chunk (length chunk - 1) ≡ Some last = ap (λ (es : List Entry). slice_get es (length es - 1)) (sym c.as_slice-entries.ensures) ∙ sym c.in-Some.ensures.value in
    let firsts = before_last chunk last end in
    let next = next_in (state g.S.Store c.args.conn.now) b c.args.at 1000 chunk before was (c.in_ok-chunk.ensures.was_open clean) are firsts.0 last firsts.1 in
    more_ends b.content c.args.ends.now c.args.at 1000 chunk are last.number next c.put_all.new.self (subst (λ (es : List Entry). AddEnds es c.args.ends.now c.put_all.new.self) c.as_slice-entries.ensures c.in_ok-put_all.ensures)

pub returns-in_default-clause-filed : goal.returns-in_default-clause-filed
returns-in_default-clause-filed g c clean b was =
    let chunk = c.in_ok-chunk.chunk in
    all_filed b.content c.args.index.now c.args.at 1000 chunk (c.in_ok-chunk.ensures.rows clean b was) (omega arith) (search rules)

pub returns-clause-filed : goal.returns-clause-filed
returns-clause-filed g c clean b was =
    let chunk = c.in_ok-chunk.chunk in
    let last = c.in-Some.last.now in
    let before : HasCleanDisk (state g.S.Store c.args.conn.now) = let l = c.entries_after.ensures.leaves.survives.clean in omega (arith, l, clean) in
    let are = c.in_ok-chunk.ensures.rows clean b was in
    let end : slice_get chunk (length chunk - 1) ≡ Some last = ap (λ (es : List Entry). slice_get es (length es - 1)) (sym c.as_slice-entries.ensures) ∙ sym c.in-Some.ensures.value in
    let firsts = before_last chunk last end in
    let next = next_in (state g.S.Store c.args.conn.now) b c.args.at 1000 chunk before was (c.in_ok-chunk.ensures.was_open clean) are firsts.0 last firsts.1 in
    more_filed b.content c.args.index.now c.args.at 1000 chunk are last.number next c.file_entries.new.self c.file_entries.ensures.stays (subst (AreEntriesFiled c.file_entries.new.self) c.as_slice-entries.ensures c.in_ok-file_entries.ensures.filed)
