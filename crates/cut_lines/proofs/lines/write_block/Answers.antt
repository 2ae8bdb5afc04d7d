use Rattle.std.proofs.Common.{◌∙◌, ◌++◌, ap, map, refl, subst}
use Rattle.std.specs.Prelude.{string_bytes}
use Rattle.std.specs.List.Sorted.{IsPermutation}
use Rattle.std.proofs.lemmas.List.Sorted.{IsPermutation-map}
use Rattle.std.proofs.lemmas.Result.{on_ok_weaker}
use Rattle.cut_lines.specs.Lines.{sized_text, reported}
use Rattle.cut_lines.proofs.lines.write_block.Goals as goal

pub returns : goal.returns
returns c =
    let name = c.args.name.now in
    let sorted = c.sort.new.self.items in
    let each = subst (λ ls. IsPermutation ls (map reported sorted)) c.in_ok-list.ensures (IsPermutation-map reported _ _ c.sort.ensures.permutation) in
    on_ok_weaker c.write_sized_lines.result
    (λ h. (
      sized_text name (map reported sorted),
      record { lines = sorted; each = each; ordered = c.in_ok-sort.ensures.sorted; says = refl },
      h ∙ ap (λ ls. string_bytes c.args.out.now ++ sized_text name (map reported ls)) c.deref.ensures.value,
    ))
    c.write_sized_lines.ensures
