use Rattle.shop_machine.proofs.Timeless.{one_step, one_history, one_history_rows, untimed, timed}
use Rattle.shop_machine.proofs.laws.time_decides_nothing.Goals as goal

pub returns : goal.returns
returns c = record { step = one_step; history = one_history; rows = one_history_rows; untimed = untimed; timed = timed }
