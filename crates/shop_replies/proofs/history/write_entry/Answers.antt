use Rattle.shop_forms.proofs.Pieces.{one, then}
use Rattle.shop_replies.proofs.history.write_entry.Goals as goal

pub returns-clause-value : goal.returns-clause-value
returns-clause-value c =
    let all = then (one c.in_ok-begin_object.ensures) (then c.in_ok-write_number.ensures (then c.in_ok-write_number-2.ensures (then (one c.in_ok-key.ensures) (then c.in_ok-write_kept_message.ensures.value (then (one c.in_ok-key-2.ensures) (then c.in_ok-write_kept_reply.ensures.value (one c.in_ok-end_object.ensures))))))) in
    record { tokens = all.tokens; before = all.before }
