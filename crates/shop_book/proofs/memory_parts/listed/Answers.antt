use Rattle.std.proofs.Common.{◌++◌, sym, ◌∙◌}
use Rattle.std.specs.Option.{option_to_list}
use Rattle.cut_measure.specs.Names.{Name, name_cmp}
use Rattle.shop_rows.specs.Keys.{part_key}
use Rattle.shop_rows.specs.PartRows.{parts_in}
use Rattle.shop_rows.specs.Rows.{row_at}
use Rattle.shop_book.proofs.Handed.{so_far}
use Rattle.shop_book.proofs.memory_parts.listed.Goals as goal

pub loop-name-preserved : goal.loop-name-preserved
loop-name-preserved c =
    c.in_ok-push_found.ensures ∙ (λ i. c.loop-name.invariant i ++ option_to_list (c.find.ensures i))
    ∙ sym (so_far (λ (name : Name). row_at part_key name_cmp name (parts_in c.args.parts.now)) c.args.names.now c.loop-name.name-index c.name-item.result c.loop-name-test.true c.name-item.is)
