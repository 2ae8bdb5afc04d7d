use Rattle.std.proofs.Common.{map, rules, subst}
use Rattle.std.specs.List.Sorted.{IsPermutation}
use Rattle.std.proofs.lemmas.List.Sorted.{IsPermutation-map}
use Rattle.cut_lines.specs.Lines.{reported}
use Rattle.cut_lines.proofs.lines.order_lines.Goals as goal

pub returns : goal.returns
returns c = record {
  lines = c.sort.new.self.items;
  each = subst (λ ls. IsPermutation ls (map reported c.sort.new.self.items)) c.in_ok-list.ensures (IsPermutation-map reported _ _ c.sort.ensures.permutation);
  ordered = c.in_ok-sort.ensures.sorted;
  says = search rules;
}
