-- Whether a clock is behind the last entry.
use Rattle.std.specs.Prelude.{ℕ, ◌-◌, Bool, nat_lt}

-- it reads a second that is over an hour before this one
abbrev pub is_behind : (second last : ℕ) → Bool
is_behind second last = nat_lt 3600 (last - second)
