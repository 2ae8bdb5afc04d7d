use Rattle.std.proofs.Common.{◌∙◌, subst}
use Rattle.std.specs.Prelude.{string_bytes}
use Rattle.cut_lines.specs.Lines.{Appends, AreSizedLines}
use Rattle.cut_lines.proofs.Blocks.{sizes_from}
use Rattle.cut_lines.proofs.lines.+write_blocks.Goals as goal

pub returns : goal.returns
returns t c =
    let before = string_bytes c.args.out.now in
    let between = string_bytes c.write_block.new.out in
    let name = c.name-item.result in
    let block = subst (λ n. Appends (AreSizedLines n c.deref.result.now) before between) c.as_str.ensures.value c.in_ok-write_block.ensures in
    let own = subst (λ us. Appends (AreSizedLines (string_bytes name) us) before between) (c.deref.ensures.value ∙ c.in_ok-own.ensures) block in
    sizes_from string_bytes c.args.units.now c.args.place before between _ c.args.names.now name c.in-len1-up.len_at_least c.name-item.is own c.in_ok-write_blocks.ensures
