use Rattle.std.proofs.Common.{◌≡◌, None, take}
use Rattle.shop_book.specs.Ends.{first_end}
use Rattle.shop_book.proofs.job_ends.time_of_end.Given as goal

abbrev pub invariant-loop-entry : goal.invariant-loop-entry
invariant-loop-entry l = first_end l.job (take l.entry-index l.entries) ≡ None
