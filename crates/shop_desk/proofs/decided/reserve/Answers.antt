use Rattle.std.proofs.Common.{subst}
use Rattle.std.specs.Prelude.{MatchOption}
use Rattle.shop_records.specs.declared.changes.Change.{Change}
use Rattle.shop_records.specs.declared.messages.Command.TheVariants.{Reserve}
use Rattle.shop_records.specs.Readings.{reading_of}
use Rattle.shop_records.specs.Content.{demand_at}
use Rattle.shop_machine.specs.Recounts.{AreDemandsFound}
use Rattle.shop_machine.specs.Reserving.{IsReservation}
use Rattle.shop_machine.specs.Machine.{Reads}
use Rattle.shop_forms.specs.Forms.{json_texts}
use Rattle.shop_desk.proofs.Deciding.{decided_by, same_reserve, reserve_by}
use Rattle.shop_desk.proofs.decided.reserve.Goals as goal

pub returns-clause-decision : goal.returns-clause-decision
returns-clause-decision g c =
    λ clean_disk m held well_formed.
    let before_act = c.next_act.ensures.keeps.clean_disk clean_disk in
    let before_leaves = c.leaves_for.ensures.keeps.clean_disk before_act in
    let before_material = c.material_for.ensures.keeps.clean_disk before_leaves in
    let at_material = c.part.ensures.keeps.stays before_material m held in
    let at_leaves = c.material_for.ensures.keeps.stays before_leaves m at_material in
    let at_act = c.leaves_for.ensures.keeps.stays before_act m at_leaves in
    let is_row = c.in_ok-row.ensures.row before_material m held in
    let is_m = c.in_ok-material.ensures.row before_leaves m at_material in
    let is_act = c.in_ok-act.ensures.number clean_disk m at_act in
    let reads : Reads json_texts m (Reserve c.args.part c.args.tree.now) (reading_of c.in_ok-plan.plan) =
    subst (λ t. Reads json_texts m (Reserve c.args.part t) (reading_of c.in_ok-plan.plan)) c.as_str.ensures.value (c.in_ok-plan.ensures m c.args.part is_row is_m) in
    let found : AreDemandsFound (demand_at m) c.deref.result.now = rw c.deref.ensures.value (c.in_ok-leaves.ensures.found before_act m at_leaves) in
    decided_by json_texts m (Reserve c.args.part c.args.tree.now) (reading_of c.in_ok-plan.plan) reads (g.B.Book.failed c.args.book.now) (g.B.Book.failed c.next_act.new.self) _ (same_reserve m c.args.part c.args.tree.now c.in_ok-row.row c.in_ok-material.material c.in_ok-plan.plan c.in_ok-act.act is_row is_m is_act)
    (λ (change : Change). MatchOption c.in_ok-row.row ⊥ (λ r. MatchOption c.in_ok-plan.plan ⊥ (λ p. IsReservation r p (demand_at m) c.in_ok-act.act change)))
    (reserve_by m c.args.part c.args.tree.now c.in_ok-row.row c.in_ok-material.material c.in_ok-plan.plan c.in_ok-act.act is_row is_m is_act)
    c.decide_reserve.result (c.decide_reserve.ensures.decision (demand_at m) found)
