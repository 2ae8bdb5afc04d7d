-- Seconds since 1970 as days and times of the calendar.
use Rattle.std.specs.Prelude.{◌≡◌, ◌*ℤ◌, ℕ, ℤ, pos, List, String, codes, Ok, string_bytes}
use Rattle.std.specs.declared.alloc.Global.{Global}
use Rattle.jiff.specs.Strtime.{StrftimeGives}
use Rattle.jiff.specs.declared.timestamp.Timestamp.{Timestamp}
use Rattle.jiff_strtime.specs.Text.{IsInstantParts}

-- how a time is written
abbrev pub time_format : List ℕ
time_format = codes "%Y-%m-%d %H:%M:%S UTC"

-- the nanosecond of an instant is that of a second
abbrev pub IsInstantOf : ℕ → Timestamp → Type 0
IsInstantOf second instant = instant.nanosecond ≡ pos second *ℤ pos 1000000000

-- the format shows this text of the instant with this nanosecond
abbrev pub IsTextOf : ℤ → String Global → Type 0
IsTextOf nanosecond text = StrftimeGives string_bytes time_format (IsInstantParts nanosecond) (Ok text)

-- the text of the instant of a second
abbrev pub IsTimeText : ℕ → String Global → Type 0
IsTimeText second text = IsTextOf (pos second *ℤ pos 1000000000) text
