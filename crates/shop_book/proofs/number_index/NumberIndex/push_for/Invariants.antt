use Rattle.std.proofs.Common.{ℕ, ◌+◌, ◌-◌, ◌^◌}
use Rattle.std.specs.Prelude.{IsTrue}
use Rattle.shop_records.specs.Elements.{IsIn}
use Rattle.shop_book.specs.Filing.{first_left, is_filed_for}
use Rattle.shop_book.proofs.JobsFiled.{AreFound}
use Rattle.shop_book.proofs.number_index.NumberIndex.push_for.Given as goal

abbrev pub invariant-loop-number : goal.invariant-loop-number
invariant-loop-number l =
    record {
      found : AreFound (λ number. IsTrue (is_filed_for l.self l.under number)) l.rows (first_left l.last);
      stay : (number : ℕ) → IsIn number l.fn.rows → IsIn number l.rows;
    }

abbrev pub decreases-loop-number : goal.decreases-loop-number
decreases-loop-number l = 2 ^ 32 + 1 - first_left l.last
