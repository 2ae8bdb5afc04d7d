use Rattle.std.proofs.Common.{length}
use Rattle.shop_tables.proofs.writing.+write_all.Given as goal

abbrev pub decreases-write_all : goal.decreases-write_all
decreases-write_all g l = length l.rows.now
