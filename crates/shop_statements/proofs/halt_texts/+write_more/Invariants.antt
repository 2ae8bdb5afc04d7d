use Rattle.std.proofs.Common.{length}
use Rattle.shop_statements.proofs.halt_texts.+write_more.Given as goal

abbrev pub decreases-write_more : goal.decreases-write_more
decreases-write_more l = length l.numbers.now
