use Rattle.shop_desk.proofs.importing.receipt_rows.Goals as goal

pub returns-clause-rows : goal.returns-clause-rows
returns-clause-rows g c =
    λ clean_disk m held.
    let before_act = c.next_act.ensures.keeps.clean_disk clean_disk in
    let before_totals = c.totals.ensures.keeps.clean_disk before_act in
    let at_totals = c.material.ensures.keeps.stays before_totals m held in
    let at_act = c.totals.ensures.keeps.stays before_act m at_totals in
    record {
      of_material = c.in_ok-known.ensures.row before_totals m held;
      of_totals = c.in_ok-totals.ensures.sums before_act m at_totals;
      of_act = c.in_ok-act.ensures.number clean_disk m at_act;
    }
