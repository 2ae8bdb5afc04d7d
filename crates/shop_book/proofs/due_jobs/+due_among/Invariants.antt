use Rattle.std.proofs.Common.{length}
use Rattle.shop_book.proofs.due_jobs.+due_among.Given as goal

abbrev pub decreases-due_among : goal.decreases-due_among
decreases-due_among l = length l.leaves.now
