use Rattle.shop_forms.proofs.Pieces.{one, then}
use Rattle.shop_replies.proofs.listing.report_steps.Goals as goal

pub returns-clause-value : goal.returns-clause-value
returns-clause-value c =
    let all = then (one c.in_ok-begin_object.ensures) (then (rw c.wide.ensures.value at c.in_ok-write_number.ensures) (then (rw c.wide-2.ensures.value at c.in_ok-write_number-2.ensures) (then (rw c.as_str.ensures.value at c.in_ok-write_text.ensures) (then c.in_ok-write_text-2.ensures (then c.in_ok-write_name.ensures (then (rw c.job_state_word.ensures at c.in_ok-write_text-3.ensures) (then (one c.in_ok-key.ensures) (then (rw c.as_slice.ensures at c.in_ok-write_rows.ensures.value) (one c.in_ok-end_object.ensures))))))))) in
    record { tokens = rw c.in-Steps.is all.tokens; before = all.before }
