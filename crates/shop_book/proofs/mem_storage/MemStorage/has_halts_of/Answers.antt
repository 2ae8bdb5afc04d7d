use Rattle.std.proofs.Common.{◌≡◌, List, subst}
use Rattle.std.specs.Bool.{Decides}
use Rattle.std.specs.Ordering.{nat_cmp}
use Rattle.shop_records.specs.declared.records.JobHalt.{JobHalt}
use Rattle.shop_rows.specs.Keys.{halt_key}
use Rattle.shop_book.proofs.Held.{maps_decide}
use Rattle.shop_book.proofs.mem_storage.MemStorage.has_halts_of.Goals as goal

pub returns : goal.returns
returns c =
    let mine = c.args.self.now in
    let its = c.args.other.now in
    let r = c.are_same_halts.result in
    maps_decide halt_key nat_cmp mine.halts.items its.halts.items r
    (subst (λ (es : List JobHalt). Decides r (es ≡ its.halts.items)) c.deref.ensures.value (subst (λ (es : List JobHalt). Decides r (c.deref.result.now ≡ es)) c.deref-2.ensures.value c.are_same_halts.ensures)) mine.halts_rise its.halts_rise
