-- A failure is counted.
use Rattle.std.proofs.Common.{◌≡◌, ℕ, ◌+◌, Bool, true, false, nat_lt, arith, inl, inr, refl}
use Rattle.std.proofs.lemmas.Bool.Decides.{nat_tests}
use Rattle.std.specs.Prelude.{if◌then◌else◌}
use Rattle.shop_streams.specs.Streams.{most_counted}
use Rattle.shop_streams.specs.Streams.{HasFailed}

by_test : (before after : ℕ) (t : Bool) → nat_lt before most_counted ≡ t → after ≡ (if t then before + 1 else before) → HasFailed before after
by_test before after true e is = inl (omega (arith, is))
by_test before after false e is = inr (grind (arith, nat_tests))

pub has_failed : (before after : ℕ) → after ≡ (if nat_lt before most_counted then before + 1 else before) → HasFailed before after
has_failed before after is = by_test before after (nat_lt before most_counted) refl is
