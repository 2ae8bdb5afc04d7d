use Rattle.std.proofs.Common.{◌≡◌, ◌≤◌, List, length, subst, arith}
use Rattle.std.specs.declared.cmp.Ordering.TheVariants.{Less, Greater}
use Rattle.std.specs.Ordering.{ordering_index}
use Rattle.std.specs.List.Sorted.{IsPartitionPoint, IsNonDecreasingBy}
use Rattle.std.specs.Cmp.Lexicographic.{nat_list_cmp_total}
use Rattle.cut_measure.specs.Codes.{code_cmp}
use Rattle.shop_rows.specs.Keys.{codes_exact}
use Rattle.shop_rows.specs.Open.{list_key}
use Rattle.shop_rows.specs.declared.names.NameList.{NameList}
use Rattle.shop_rows.proofs.NameLists.{is_place, rising_in, spare_found, set_order, set_spare, set_settled, unsettled}
use Rattle.shop_rows.proofs.Places.{row_missed, tested}
use Rattle.shop_rows.proofs.names.settle_key.Goals as goal

pub settle_name-requires : goal.settle_name-requires
settle_name-requires c =
    let old = c.args.lists.now.items in
    let list = c.index_mut.result.now in
    let place = is_place c.deref.result.now old c.in-Ok.i list c.args.key.material c.deref.ensures.value c.in-Ok.ensures.range c.in-Ok.ensures.position c.index_mut.ensures.value in
    let found = spare_found old c.requires.order c.in-Ok.i list c.args.key.material place in
    record {
      rising = rising_in old c.requires.order c.in-Ok.i list c.args.key.material place;
      spare = λ there. let one = c.requires.spare there in omega (arith, one, found);
    }

pub returns-in-Ok : goal.returns-in-Ok
returns-in-Ok c =
    let old = c.args.lists.now.items in
    let list = c.index_mut.result.now in
    let new = c.settle_name.new.list in
    let place = is_place c.deref.result.now old c.in-Ok.i list c.args.key.material c.deref.ensures.value c.in-Ok.ensures.range c.in-Ok.ensures.position c.index_mut.ensures.value in
    record {
      settled = set_settled old c.requires.order c.in-Ok.i list c.args.key.material place new c.settle_name.ensures.material c.args.key.name c.args.is_there c.settle_name.ensures.settled;
      order = set_order old c.requires.order c.in-Ok.i list c.args.key.material place new c.settle_name.ensures.material c.settle_name.ensures.rising;
      spare = set_spare old c.requires.order c.in-Ok.i list c.args.key.material place new c.settle_name.ensures.material 1 (omega (arith, c.settle_name.ensures.len, c.settle_name.ensures.capacity));
      less = λ not code.
          let less = c.settle_name.ensures.less not in
          let more = set_spare old c.requires.order c.in-Ok.i list c.args.key.material place new c.settle_name.ensures.material 0 (omega (arith, less, c.settle_name.ensures.capacity)) code in
          omega (arith, more);
    }

pub returns-in-Err-clause-settled : goal.returns-in-Err-clause-settled
returns-in-Err-clause-settled c =
    unsettled c.args.key c.args.lists.now.items c.args.is_there
    (row_missed list_key code_cmp nat_list_cmp_total codes_exact c.args.lists.now.items (tested _ c.requires.order.materials) c.in-Err.field-0 c.args.key.material
    (subst (λ (ls : List NameList). c.in-Err.field-0 ≤ length ls) c.deref.ensures.value c.in-Err.ensures.range)
    (subst (λ (ls : List NameList). IsNonDecreasingBy (λ (l : NameList). ordering_index (code_cmp (list_key l) c.args.key.material)) ls
    → IsPartitionPoint (λ (l : NameList). code_cmp (list_key l) c.args.key.material ≡ Less) (λ (l : NameList). code_cmp (list_key l) c.args.key.material ≡ Greater) ls c.in-Err.field-0) c.deref.ensures.value c.in-Err.ensures.position)) c.requires.spare
