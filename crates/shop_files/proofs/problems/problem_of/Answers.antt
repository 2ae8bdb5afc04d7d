use Rattle.std.proofs.Common.{arith}
use Rattle.shop_files.specs.Problems.{is_problem_byte}
use Rattle.shop_files.proofs.Whole.{all_good}
use Rattle.shop_files.proofs.problems.problem_of.Goals as goal

pub problem_in-requires : goal.problem_in-requires
problem_in-requires c = (c.if-text-gt-MAX_TEXT_LEN.false, all_good is_problem_byte c.args.text.now (λ i l. c.good_len-place.ensures.good i (omega (arith, l, c.if-place-text.false))))
