use Rattle.std.proofs.Common.{Bool, subst}
use Rattle.cut_measure.specs.Names.{name_cmp}
use Rattle.shop_records.specs.Content.{is_listed}
use Rattle.shop_rows.specs.Open.{finds_with, SetsKey}
use Rattle.shop_rows.specs.declared.names.OpenPart.{OpenPart}
use Rattle.shop_rows.proofs.Listed.{unlisted_kept, listed, found_own}
use Rattle.shop_rows.proofs.names.list_in_place.Goals as goal

pub returns-clause-lists : goal.returns-clause-lists
returns-clause-lists c = λ find lists keep.
    let part = c.args.part.now in
    listed part (finds_with name_cmp part.name part find) c.args.lists.now.items c.settle_key.new.lists.items (unlisted_kept part find c.args.lists.now.items lists keep) (found_own part find)
    (subst (λ (key : OpenPart). SetsKey key (is_listed part.material part) c.args.lists.now.items c.settle_key.new.lists.items) c.of.ensures
    (subst (λ (b : Bool). SetsKey c.of.result b c.args.lists.now.items c.settle_key.new.lists.items) c.is_listed-stands.ensures c.settle_key.ensures.settled))
