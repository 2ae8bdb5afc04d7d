-- How a book's failures are counted where a refusal reports them.
use Rattle.std.specs.Prelude.{◌≡◌, ◌≢◌, ℕ, Result, Err}
use Rattle.shop_records.specs.declared.refusals.Refusal.{Refusal}
use Rattle.shop_records.specs.declared.refusals.Refusal.TheVariants.{StoreFault}
use Rattle.shop_book.specs.Failures.{one_more_failure}

-- what reports a failed store goes with one more failure, and all else with none
pub record CountsRefusal {T : Type 0} (result : Result T Refusal) (before after : ℕ) : Type 0 where
  pub store_fault : result ≡ Err StoreFault → after ≡ one_more_failure before
  pub others : result ≢ Err StoreFault → after ≡ before
