use Rattle.std.proofs.Common.{◌≡◌, List, subst}
use Rattle.std.specs.Bool.{Decides}
use Rattle.std.specs.Ordering.{nat_cmp}
use Rattle.shop_records.specs.declared.journal.Entry.{Entry}
use Rattle.shop_rows.specs.Keys.{entry_key}
use Rattle.shop_book.proofs.Held.{maps_decide}
use Rattle.shop_book.proofs.mem_storage.MemStorage.has_entries_of.Goals as goal

pub returns : goal.returns
returns c =
    let mine = c.args.self.now in
    let its = c.args.other.now in
    let r = c.are_same.result in
    maps_decide entry_key nat_cmp mine.entries.items its.entries.items r
    (subst (λ (es : List Entry). Decides r (es ≡ its.entries.items)) c.deref.ensures.value (subst (λ (es : List Entry). Decides r (c.deref.result.now ≡ es)) c.deref-2.ensures.value c.are_same.ensures)) mine.entries_rise its.entries_rise
