use Rattle.std.proofs.Common.{◌≡◌, ◌<◌, ◌∷◌, [], ◌++◌, List, get_or, length, map, take, sym, ap, subst, ◌∙◌}
use Rattle.std.specs.Prelude.{◌==◌, IsTrue, filter}
use Rattle.std.proofs.lemmas.Grind.{take_at_read}
use Rattle.std.proofs.lemmas.List.{map-append, take_all}
use Rattle.cut_measure.specs.Names.{name_cmp}
use Rattle.shop_rows.specs.PartRows.{part_of, row_key, AreBelow}
use Rattle.shop_rows.specs.Rows.{rise}
use Rattle.shop_rows.specs.declared.part_rows.Origin.{Origin}
use Rattle.shop_rows.specs.declared.part_rows.PartRow.{PartRow}
use Rattle.shop_rows.proofs.ByAct.{known_at, known_passed, parts_passed}
use Rattle.shop_rows.proofs.Packed.{rise-parts}
use Rattle.shop_rows.proofs.part_rows.PartRows.named.Goals as goal

pub of_act-rows-requires : goal.of_act-rows-requires
of_act-rows-requires c = subst (λ (rows : List PartRow). IsTrue (rise row_key name_cmp rows)) (sym c.deref.ensures.value) (sym (rise-parts c.args.self.now) ∙ c.requires.rising)

pub unpack-requires : goal.unpack-requires
unpack-requires c =
    let self = c.args.self.now in
    let rows = c.of_act-rows.result.now in
    let n = length self.origins.items in
    let test = λ (row : PartRow). row.name.act == c.args.act in
    let is : rows ≡ filter test self.rows.items = c.of_act-rows.ensures ∙ ap (filter test) c.deref.ensures.value in
    let known : AreBelow n rows = subst (AreBelow n) (sym is) (known_passed n test self.rows.items c.requires.known) in
    subst (λ (origins : List Origin). c.row-item.result.origin < length origins) (sym c.deref-in-loop-row.ensures.value)
    (subst (λ (row : PartRow). row.origin < n) (sym c.row-item.is) (known_at n rows c.loop-row.row-index c.row-item.result known c.loop-row-test.true))

pub loop-row-preserved : goal.loop-row-preserved
loop-row-preserved c =
    let self = c.args.self.now in
    let rows = c.of_act-rows.result.now in
    let i = c.loop-row.row-index in
    let item = c.row-item.result in
    let part = part_of self.origins.items in
    let one : c.unpack.result ≡ part (get_or rows i item) = c.unpack.ensures ∙ (λ k. part_of (c.deref-in-loop-row.ensures.value k) (c.row-item.is k)) in
    c.in_ok-push.ensures.ok ∙ (λ k. c.loop-row.invariant k ++ one k ∷ []) ∙ sym (ap (map part) (take_at_read rows i item c.loop-row-test.true).1 ∙ map-append part (take i rows) (get_or rows i item ∷ []))

pub returns : goal.returns
returns c =
    let self = c.args.self.now in
    let part = part_of self.origins.items in
    let test = λ (row : PartRow). row.name.act == c.args.act in
    c.loop-row.invariant ∙ ap (map part) (take_all c.loop-row.row-index c.of_act-rows.result.now c.loop-row-test.false ∙ c.of_act-rows.ensures ∙ ap (filter test) c.deref.ensures.value)
    ∙ parts_passed self.origins.items c.args.act self.rows.items
