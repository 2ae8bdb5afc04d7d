use Rattle.std.proofs.Common.{arith}
use Rattle.shop_statements.specs.Rows.{job_state_number}
use Rattle.shop_tables.proofs.InvalidRows.{job_state_small}
use Rattle.shop_tables.proofs.invalid.has_job_state.Goals as goal

pub returns : goal.returns
returns c x has = c.has_number.ensures.known (job_state_number x) (omega arith) (job_state_small x) has
