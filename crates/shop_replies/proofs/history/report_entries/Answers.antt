use Rattle.shop_forms.proofs.Pieces.{one, then}
use Rattle.shop_replies.proofs.history.report_entries.Goals as goal

pub returns-clause-value : goal.returns-clause-value
returns-clause-value c =
    let all = then (one c.in_ok-begin_object.ensures) (then (one c.in_ok-key.ensures) (then c.in_ok-write_entries.ensures.value (then c.in_ok-write_flag.ensures (then c.in_ok-write_text.ensures (one c.in_ok-end_object.ensures))))) in
    record { tokens = all.tokens; before = all.before }
