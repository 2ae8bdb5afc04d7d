use Rattle.std.proofs.Common.{◌≡◌, ◌≤◌, List, length, subst, arith, rules}
use Rattle.std.specs.declared.cmp.Ordering.TheVariants.{Less, Greater}
use Rattle.std.specs.Ordering.{ordering_index}
use Rattle.std.specs.List.Sorted.{IsPartitionPoint, IsNonDecreasingBy}
use Rattle.std.specs.Cmp.Lexicographic.{nat_list_cmp_total}
use Rattle.cut_measure.specs.Codes.{code_cmp}
use Rattle.shop_rows.specs.Keys.{codes_exact}
use Rattle.shop_rows.specs.Open.{list_key}
use Rattle.shop_rows.specs.declared.names.NameList.{NameList}
use Rattle.shop_rows.proofs.NameLists.{is_place, set_own_spare, set_wider}
use Rattle.shop_rows.proofs.Places.{row_missed, tested}
use Rattle.shop_rows.proofs.names.reserve_list.Goals as goal

pub returns-in_err-widen-in-Ok : goal.returns-in_err-widen-in-Ok
returns-in_err-widen-in-Ok c =
    let old = c.args.lists.now.items in
    let list = c.index_mut.result.now in
    let place = is_place c.deref.result.now old c.in-Ok.i list c.args.material c.deref.ensures.value c.in-Ok.ensures.range c.in-Ok.ensures.position c.index_mut.ensures.value in
    let wider = set_wider old c.requires.order c.in-Ok.i list c.args.material place c.widen.new.list c.widen.ensures.material c.widen.ensures.names (omega (arith, c.widen.ensures.len, c.widen.ensures.capacity)) in
    record { names = wider.names; order = wider.order; spare = search rules; more = wider.more }

pub returns-in_ok-widen-in-Ok : goal.returns-in_ok-widen-in-Ok
returns-in_ok-widen-in-Ok c =
    let old = c.args.lists.now.items in
    let list = c.index_mut.result.now in
    let place = is_place c.deref.result.now old c.in-Ok.i list c.args.material c.deref.ensures.value c.in-Ok.ensures.range c.in-Ok.ensures.position c.index_mut.ensures.value in
    let wider = set_wider old c.requires.order c.in-Ok.i list c.args.material place c.widen.new.list c.widen.ensures.material c.widen.ensures.names (omega (arith, c.widen.ensures.len, c.widen.ensures.capacity)) in
    let spare = set_own_spare old c.requires.order c.in-Ok.i list c.args.material place c.widen.new.list c.widen.ensures.material in
    record { names = wider.names; order = wider.order; spare = omega (arith, spare, c.in_ok-widen-in-Ok.ensures.spare); more = wider.more }

pub begin_list-requires-clause-none : goal.begin_list-requires-clause-none
begin_list-requires-clause-none c =
    row_missed list_key code_cmp nat_list_cmp_total codes_exact c.args.lists.now.items (tested _ c.requires.order.materials) c.in-Err.i c.args.material
    (subst (λ (ls : List NameList). c.in-Err.i ≤ length ls) c.deref.ensures.value c.in-Err.ensures.range)
    (subst (λ (ls : List NameList). IsNonDecreasingBy (λ (l : NameList). ordering_index (code_cmp (list_key l) c.args.material)) ls
    → IsPartitionPoint (λ (l : NameList). code_cmp (list_key l) c.args.material ≡ Less) (λ (l : NameList). code_cmp (list_key l) c.args.material ≡ Greater) ls c.in-Err.i) c.deref.ensures.value c.in-Err.ensures.position)
