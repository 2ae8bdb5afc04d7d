use Rattle.shop_forms.proofs.Pieces.{one, then}
use Rattle.shop_plans.proofs.answers.write_plans.Goals as goal

pub returns : goal.returns
returns c =
    let all = then (one c.in_ok-begin_object.ensures) (then c.in_ok-write_number.ensures (then c.in_ok-write_number-2.ensures (then (rw c.as_slice.ensures at c.in_ok-write_list.ensures) (then c.in_ok-write_text.ensures (then (rw c.deref.ensures.value at c.in_ok-write_list-2.ensures) (then (rw c.as_slice-2.ensures at c.in_ok-write_list-3.ensures) (then c.in_ok-write_flag.ensures (then c.in_ok-write_number-3.ensures (then c.in_ok-write_flag-2.ensures (then (rw c.wide.ensures.value at c.in_ok-write_number-4.ensures) (one c.in_ok-end_object.ensures))))))))))) in
    record { tokens = all.tokens; before = all.before }
