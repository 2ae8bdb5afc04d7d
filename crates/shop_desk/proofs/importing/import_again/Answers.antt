use Rattle.std.proofs.Common.{◌∙◌}
use Rattle.shop_forms.specs.Forms.{json_texts}
use Rattle.shop_desk.proofs.Deciding.{again_decided}
use Rattle.shop_desk.proofs.importing.import_again.Goals as goal

pub returns-clause-decision : goal.returns-clause-decision
returns-clause-decision c =
    λ m order form text before after well_formed is same.
    let kept = well_formed.imports order c.args.row.now is in
    let back = c.in_ok-kept_reply.ensures.back kept.answer kept.reports.0 (c.as_str.ensures.value ∙ kept.reports.1) in
    again_decided json_texts m order text c.args.row.now form kept.answer c.accepted-earlier.result (c.accepted-earlier.ensures.made kept.answer kept.reports.0 back) is same kept.reports
    before after c.decide_again.result c.decide_again.ensures.decision
