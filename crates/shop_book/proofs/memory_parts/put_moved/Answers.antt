use Rattle.std.proofs.Common.{ap, sym, ◌∙◌}
use Rattle.cut_measure.specs.Names.{name_cmp}
use Rattle.shop_records.specs.Content.{with_moved}
use Rattle.shop_rows.specs.PartRows.{parts_in}
use Rattle.shop_rows.specs.Rows.{entries_of, map_of}
use Rattle.shop_rows.specs.Keys.{part_key, names_total}
use Rattle.shop_book.proofs.Held.{put_is_insert}
use Rattle.shop_book.proofs.memory_parts.put_moved.Goals as goal

pub returns-in-Some-clause-put : goal.returns-in-Some-clause-put
returns-in-Some-clause-put c =
    put_is_insert name_cmp names_total c.in-Some.row.name c.in-Some.row (entries_of part_key name_cmp (parts_in c.args.parts.now)) (entries_of part_key name_cmp (parts_in c.put_part.new.parts)) c.requires.tally.rising c.put_part.ensures.put
    ∙ ap (λ row. with_moved row (map_of part_key name_cmp (parts_in c.args.parts.now))) (sym c.in-Some.is)
