-- What a server's time is where it stood still, and whether the store failed, as the answers to messages report.
use Rattle.std.specs.Prelude.{◌≡◌, ℕ, ◌==◌, ◌+◌, ◌-◌, ◌<◌, ◌≤◌, ◌&&◌, ◌||◌, not, min, unwrap_or, option_map, Bool, List, Option, codes}
use Rattle.std.specs.Duration.{as_nanos, max_nanos}
use Rattle.std.specs.Time.{instant_nanos}
use Rattle.std.specs.declared.time.Instant.{Instant}
use Rattle.shop_serve.specs.declared.clocks.Timer.{Timer}
use Rattle.std.specs.List.{starts_with, ends_with}

-- For how long a clock stood still that reads this, stood still for so many nanoseconds before, and stands still since then, if it does: as
-- long as a duration can say.
abbrev pub still_after : (still : ℕ) → (stopped : Option Instant) → (reading : Instant) → ℕ
still_after still stopped reading =
    min (still + (instant_nanos reading - unwrap_or (option_map instant_nanos stopped) (instant_nanos reading))) max_nanos

abbrev pub still_nanos : Timer → Instant → ℕ
still_nanos timer reading = still_after (as_nanos timer.still) timer.stopped reading

-- The time of a timer whose clock reads this: the reading, less all for which it stood still; where that is more, the last time again.
abbrev pub IsTimeAt : (reading : Instant) → (old new : Timer) → Type 0
IsTimeAt reading old new =
    (as_nanos new.still ≤ instant_nanos reading → instant_nanos new.last + as_nanos new.still ≡ instant_nanos reading)
    × (instant_nanos reading < as_nanos new.still → new.last ≡ old.last)

-- an answer reports that what was asked for was done
abbrev pub is_done : (answer : List ℕ) → Bool
is_done answer = starts_with (λ a b. a == b) answer (codes "HTTP/1.1 200 ")

-- an answer reports that the store failed
abbrev pub is_store_fault : (answer : List ℕ) → Bool
is_store_fault answer = starts_with (λ a b. a == b) answer (codes "HTTP/1.1 503 ") && ends_with (λ a b. a == b) answer (codes ":99}")

-- whether the store failed after an answer to a message: as it reports, and where it reports nothing of that, as before
abbrev pub failed_after : (failed : Bool) (answer : List ℕ) → Bool
failed_after failed answer = is_store_fault answer || failed && not (is_done answer)
