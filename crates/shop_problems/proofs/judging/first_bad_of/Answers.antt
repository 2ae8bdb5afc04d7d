use Rattle.std.proofs.Common.{◌≡◌, ◌∙◌, ◌+◌, ◌<◌, ◌≤◌, get_or, length, rules, subst, sym}
use Rattle.std.specs.Prelude.{None, option_map}
use Rattle.std.proofs.lemmas.List.{take_all}
use Rattle.shop_problems.specs.Judged.{AreSized, bad_field}
use Rattle.shop_problems.proofs.JudgedLines.{behind_good, more_sized}
use Rattle.shop_problems.proofs.judging.first_bad_of.Goals as goal

pub loop-i-preserved : goal.loop-i-preserved
loop-i-preserved c =
    let shop = option_map (λ entries. entries.now) c.args.shop in
    let lines = c.args.lines.now in
    let i = c.loop-i.i in
    let line = c.index-lines-i.result in
    let found : line ≡ get_or lines i line = search rules in
    let within : i < length lines = search rules in
    let none : bad_field shop c.loop-i.last line ≡ None = search rules in
    record {
      first = sym (behind_good shop (i + 1) c.loop-i.last lines i line within found none) ∙ c.loop-i.invariant.first;
      sized = more_sized lines i line within found c.loop-i.invariant.sized c.in_default.ensures.sized;
    }

pub returns-clause-sized : goal.returns-clause-sized
returns-clause-sized c =
    let past : length c.args.lines.now ≤ c.loop-i.i = search rules in
    subst AreSized (take_all c.loop-i.i c.args.lines.now past) c.loop-i.invariant.sized
