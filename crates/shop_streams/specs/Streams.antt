-- How reads and failures of a source or a sink are counted.
use Rattle.std.specs.Prelude.{◌≡◌, ℕ, ◌+◌, ◌<◌, ◌≤◌, ◌⊎◌, nat_lt, if◌then◌else◌, Result, Ok, Err}
use Rattle.shop_streams.specs.declared.streams.Failed.{Failed}

abbrev pub most_counted : ℕ
most_counted = 18446744073709551615

-- one more, unless the count stands at the greatest number
abbrev pub one_more : ℕ → ℕ
one_more before = if nat_lt before most_counted then before + 1 else before

-- an Err is counted, and an Ok is not
abbrev pub TalliesFailure : {T : Type 0} → ℕ → Result T Failed → ℕ → Type 0
TalliesFailure before (Ok x) after = after ≡ before
TalliesFailure before (Err e) after = after ≡ one_more before

-- the count of failures rose, or stood at its greatest value before
abbrev pub HasFailed : ℕ → ℕ → Type 0
HasFailed before after = (before < after) ⊎ (most_counted ≤ before)

-- a reader or a writer, how often it failed, and how often it was read
pub record Tally (T : Type 0) : Type 0 where
  pub inner : T
  pub failures : ℕ
  pub reads : ℕ
