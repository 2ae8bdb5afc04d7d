use Rattle.shop_forms.proofs.Pieces.{one, then}
use Rattle.shop_messages.proofs.ordering.write_order.Goals as goal

pub returns : goal.returns
returns c =
    let all = then (one c.in_ok-begin_object.ensures) (then c.in_ok-write_text.ensures (then (one c.in_ok-key.ensures) (then c.in_ok-write_rows.ensures.value (then c.in_ok-write_number.ensures (then c.in_ok-write_text-2.ensures (then c.in_ok-write_number-2.ensures (one c.in_ok-end_object.ensures))))))) in
    record { tokens = all.tokens; before = all.before }
