use Rattle.shop_forms.proofs.Pieces.{one, then}
use Rattle.shop_plans.proofs.answers.ReportedPlanListed.write.Goals as goal

pub returns-clause-value : goal.returns-clause-value
returns-clause-value c =
    let all = then (one c.in_ok-begin_object.ensures) (then (rw c.wide.ensures.value at c.in_ok-write_number.ensures) (then (rw c.wide-2.ensures.value at c.in_ok-write_number-2.ensures) (then (one c.in_ok-key.ensures) (then (rw c.as_slice.ensures at c.in_ok-write_names.ensures) (then (rw c.as_str.ensures.value at c.in_ok-write_text.ensures) (then (rw c.wide-3.ensures.value at c.in_ok-write_number-3.ensures) (one c.in_ok-end_object.ensures))))))) in
    record { tokens = all.tokens; before = all.before }
