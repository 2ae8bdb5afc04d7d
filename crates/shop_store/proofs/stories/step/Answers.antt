use Rattle.std.proofs.Common.{◌≡◌, ◌-◌, List, ◌++◌, None, Option, Some, filter, length, take, sym, ap, subst, ◌∙◌, arith, rules}
use Rattle.std.specs.List.{slice_get}
use Rattle.shop_records.specs.Lists.{entries_about, entries_behind, is_about}
use Rattle.shop_records.specs.declared.journal.Entry.{Entry}
use Rattle.shop_book.specs.FiledEntries.{SkipsNone}
use Rattle.shop_book.specs.Ledgers.{content_in}
use Rattle.shop_store.proofs.InSteps.{before_last, last_step, next_step, none_step, skip_all, skip_to}
use Rattle.shop_store.proofs.stories.step.Goals as goal

pub returns-in_default-clause-rows : goal.returns-in_default-clause-rows
returns-in_default-clause-rows g c clean m was same =
    let about = c.args.about.now in
    let acts = c.args.acts.now in
    let skips : SkipsNone (entries_behind m 0) about acts c.args.at None = rw c.in_default.is at (c.next_about.ensures.next clean m was) in
    none_step m about c.args.most c.args.rows.now c.args.at (skip_all m about c.args.at acts (content_in c.args.ledger.now) same c.requires.acts skips) c.requires.few

pub returns-in_default-last-clause-rows : goal.returns-in_default-last-clause-rows
returns-in_default-last-clause-rows g c clean m was same =
    let about = c.args.about.now in
    let acts = c.args.acts.now in
    let old = c.args.rows.now in
    let most = c.args.most in
    let next = c.in-Some.next in
    let chunk = c.in_ok-chunk.chunk in
    let before = c.entries_after.ensures.leaves.clean_disk clean in
    let skips : SkipsNone (entries_behind m 0) about acts c.args.at (Some next) = rw c.in-Some.is at (c.next_about.ensures.next before m was) in
    ap (λ (l : List Entry). take most (old ++ l)) (skip_to m about c.args.at acts (content_in c.args.ledger.now) same c.requires.acts next skips)
    ∙ last_step m about most old next 1 (omega arith) chunk (c.in_ok-chunk.ensures.rows clean m was) (search rules) c.requires.few

pub returns-clause-rows : goal.returns-clause-rows
returns-clause-rows g c clean m was same =
    let about = c.args.about.now in
    let acts = c.args.acts.now in
    let old = c.args.rows.now in
    let most = c.args.most in
    let next = c.in-Some.next in
    let chunk = c.in_ok-chunk.chunk in
    let last = c.in-Some-last.last.now in
    let held = content_in c.args.ledger.now in
    let p = is_about held about in
    let before = c.entries_after.ensures.leaves.clean_disk clean in
    let skips : SkipsNone (entries_behind m 0) about acts c.args.at (Some next) = rw c.in-Some.is at (c.next_about.ensures.next before m was) in
    let end : slice_get chunk (length chunk - 1) ≡ Some last = ap (λ (es : List Entry). slice_get es (length es - 1)) (sym c.as_slice-entries.ensures) ∙ sym c.in-Some-last.ensures.value in
    let b = before_last chunk last end in
    ap (λ (l : List Entry). take most (old ++ l)) (skip_to m about c.args.at acts held same c.requires.acts next skips)
    ∙ next_step m about most old next held same 1 chunk (c.in_ok-chunk.ensures.rows clean m was) last.number (c.in_ok-chunk.ensures.next clean m was b.0 last b.1) c.push_about.new.rows
    (c.in_ok-push_about.ensures.rows ∙ ap (λ (es : List Entry). take most (old ++ filter p es)) c.as_slice-entries.ensures)
