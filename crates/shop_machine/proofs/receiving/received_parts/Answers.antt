use Rattle.std.proofs.Common.{◌≡◌, ◌++◌, ◌∷◌, [], sym, ap, ◌∙◌}
use Rattle.cut_measure.specs.Names.{Name}
use Rattle.shop_records.specs.declared.records.Part.{Part}
use Rattle.shop_records.specs.declared.records.State.TheVariants.{Standing}
use Rattle.shop_machine.specs.Receiving.{unit_parts}
use Rattle.shop_machine.proofs.ReceivingDecision.{unit_parts_more}
use Rattle.shop_machine.proofs.receiving.received_parts.Goals as goal

pub loop-node-preserved : goal.loop-node-preserved
loop-node-preserved c =
    let before = unit_parts c.args.material c.args.batch c.args.size c.args.act c.loop-node.node in
    let part : Name → Part = λ name. record { name = name; material = c.args.material; batch = c.args.batch; root = name; x = 0; y = 0; size = c.args.size; state = Standing } in
    let pushed : c.push.new.self ≡ c.loop-node.rows ++ part c.new-name.result ∷ [] = c.in_ok-push.ensures.ok in
    pushed ∙ ap (λ rows. rows ++ part c.new-name.result ∷ []) c.loop-node.invariant
    ∙ ap (λ name. before ++ part name ∷ []) c.new-name.ensures
    ∙ sym (unit_parts_more c.args.material c.args.batch c.args.size c.args.act c.loop-node.node)
