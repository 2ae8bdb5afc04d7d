use Rattle.std.proofs.Common.{◌≡◌, List, [], None, refl, sym, subst, ◌∙◌, arith}
use Rattle.std.specs.Prelude.{IsTrue}
use Rattle.cut_measure.specs.Codes.{code_cmp}
use Rattle.cut_measure.specs.Names.{Name, name_cmp}
use Rattle.shop_rows.specs.Open.{own_key, list_key}
use Rattle.shop_rows.specs.Rows.{rise, IsPut}
use Rattle.shop_rows.specs.declared.names.NameList.{NameList}
use Rattle.shop_rows.proofs.NameLists.{names_put, order_put, spare_put, spare_there}
use Rattle.shop_rows.proofs.names.begin_list.Goals as goal

pub returns-clause-names : goal.returns-clause-names
returns-clause-names c = λ code.
    let list : NameList = record { material = c.args.material; names = c.reserve.new.self } in
    let is_put : IsPut list_key code_cmp list c.args.lists.now.items c.put.new.rows.items =
    subst (λ (xs : List NameList). IsPut list_key code_cmp list xs c.put.new.rows.items) c.reserve-2.ensures.items c.put.ensures.put in
    names_put list c.args.lists.now.items c.put.new.rows.items is_put None c.requires.none (c.reserve.ensures.items ∙ c.new-names.ensures.items) code

pub returns-clause-order : goal.returns-clause-order
returns-clause-order c =
    let list : NameList = record { material = c.args.material; names = c.reserve.new.self } in
    let is_put : IsPut list_key code_cmp list c.args.lists.now.items c.put.new.rows.items =
    subst (λ (xs : List NameList). IsPut list_key code_cmp list xs c.put.new.rows.items) c.reserve-2.ensures.items c.put.ensures.put in
    let none : list.names.items ≡ [] = c.reserve.ensures.items ∙ c.new-names.ensures.items in
    order_put list c.args.lists.now.items c.put.new.rows.items is_put c.requires.order (subst (λ (names : List Name). IsTrue (rise own_key name_cmp names)) (sym none) refl)

pub returns-clause-spare : goal.returns-clause-spare
returns-clause-spare c =
    let list : NameList = record { material = c.args.material; names = c.reserve.new.self } in
    let spare = spare_there list c.reserve-2.new.self.items c.put.new.rows.items c.put.ensures.put in
    omega (arith, spare, c.in_ok-reserve.ensures.ok)

pub returns-clause-more : goal.returns-clause-more
returns-clause-more c = λ code.
    let list : NameList = record { material = c.args.material; names = c.reserve.new.self } in
    let is_put : IsPut list_key code_cmp list c.args.lists.now.items c.put.new.rows.items =
    subst (λ (xs : List NameList). IsPut list_key code_cmp list xs c.put.new.rows.items) c.reserve-2.ensures.items c.put.ensures.put in
    let more = spare_put list c.args.lists.now.items c.put.new.rows.items is_put None c.requires.none 0 (omega arith) code in
    omega (arith, more)
