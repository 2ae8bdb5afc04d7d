use Rattle.std.proofs.Common.{◌≡◌, ◌∙◌, take}
use Rattle.std.proofs.lemmas.Result.{IfOk-weaker}
use Rattle.shop_records.specs.Lists.{entries_behind}
use Rattle.shop_audit.proofs.Pages.{page_in, page_on, page_of}
use Rattle.shop_audit.proofs.again.next_again.Goals as goal

pub returns-clause-given : goal.returns-clause-given
returns-clause-given g c clean m held clean_anew w by part =
    let read = c.in_ok-rows.ensures in
    let last = c.page_again.ensures in
    let was = last.keeps.clean_disk clean in
    let page = c.first_of-page.result.now in
    let are : page ≡ take c.page_size-most.result (entries_behind m c.args.before) =
    page_of m c.args.before c.page_size-most.result c.as_slice.result.now page (c.as_slice.ensures ∙ read.rows was m held) c.first_of-page.ensures in
    last.given clean m (read.keeps.stays was m held) clean_anew w by.kept
    (λ entry there. by.entries entry (page_in m c.args.before c.page_size-most.result page are entry there)) part

pub returns-clause-numbers : goal.returns-clause-numbers
returns-clause-numbers g c clean m held =
    let read = c.in_ok-rows.ensures in
    let last = c.page_again.ensures in
    let was = last.keeps.clean_disk clean in
    let page = c.first_of-page.result.now in
    let are : page ≡ take c.page_size-most.result (entries_behind m c.args.before) =
    page_of m c.args.before c.page_size-most.result c.as_slice.result.now page (c.as_slice.ensures ∙ read.rows was m held) c.first_of-page.ensures in
    IfOk-weaker c.page_again.result _ _
    (λ done found same. page_on m c.args.before done.1 c.page_size-most.result page are (found same).0 (found same).1) last.numbers
