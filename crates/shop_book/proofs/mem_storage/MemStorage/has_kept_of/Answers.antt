use Rattle.std.proofs.Common.{ap, sym, ◌∙◌}
use Rattle.std.specs.FinMap.{from_sorted, entries, entries-from_sorted}
use Rattle.std.proofs.lemmas.Bool.Decides.{Decides-like}
use Rattle.std.proofs.lemmas.Map.Lookups.{btree_map_eq-Decides}
use Rattle.shop_records.specs.Content.{message_id_cmp}
use Rattle.shop_book.specs.Equal.{message_id_decides, kept_decides}
use Rattle.shop_rows.proofs.Places.{tested}
use Rattle.shop_book.proofs.mem_storage.MemStorage.has_kept_of.Goals as goal

pub returns : goal.returns
returns c =
    let mine = c.args.self.now in
    let its = c.args.other.now in
    Decides-like c.eq.result (ap (from_sorted {R = message_id_cmp}))
    (λ p. sym (entries-from_sorted message_id_cmp mine.kept.entries (tested _ mine.kept_rise)) ∙ ap entries p ∙ entries-from_sorted message_id_cmp its.kept.entries (tested _ its.kept_rise))
    (btree_map_eq-Decides message_id_decides kept_decides mine.kept its.kept c.eq.result c.eq.ensures)
