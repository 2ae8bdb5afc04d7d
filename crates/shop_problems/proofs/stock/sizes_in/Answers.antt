use Rattle.std.proofs.Common.{◌≤◌, length, rules}
use Rattle.shop_problems.proofs.Sized.{all_read}
use Rattle.shop_problems.proofs.stock.sizes_in.Goals as goal

pub returns-clause-ok : goal.returns-clause-ok
returns-clause-ok c =
    let past : length c.args.texts.now ≤ c.loop-text.text-index = search rules in
    all_read (λ text. text.now) c.args.kind c.args.texts.now c.loop-text.text-index c.loop-text.sizes.items past c.loop-text.invariant.read
