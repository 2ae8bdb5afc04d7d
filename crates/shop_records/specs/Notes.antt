-- What may be said of an order: a day of the calendar, and a text.
use Rattle.std.specs.Prelude.{ℕ, ◌/◌, ◌%◌, ◌&&◌, ◌||◌, ◌==◌, List, [], ◌∷◌, length, Bool, false, not, nat_le, nat_lt, if◌then◌else◌}
use Rattle.shop_records.specs.declared.notes.TheConstants.{MAX_NOTE_LEN}

-- a year of the calendar with a 29th of February
abbrev pub is_leap : (year : ℕ) → Bool
is_leap year = (year % 4 == 0) && (not (year % 100 == 0) || (year % 400 == 0))

-- how many days a month of a year has
abbrev pub days_in : (year month : ℕ) → ℕ
days_in year month =
    if month == 2 then (if is_leap year then 29 else 28) else if month == 4 || month == 6 || month == 9 || month == 11 then 30 else 31

-- a day of the calendar from 19700101 to 99991231, such as 20261203 for the 3rd of December 2026
abbrev pub is_day : ℕ → Bool
is_day n =
    let year = n / 10000 in
    let month = (n / 100) % 100 in
    let day = n % 100 in
    nat_le 1970 year && nat_le year 9999 && nat_le 1 month && nat_le month 12 && nat_le 1 day && nat_le day (days_in year month)

-- a day, or 0 for none
abbrev pub is_due : ℕ → Bool
is_due n = n == 0 || is_day n

-- A control character begins here: one below U+0020, or from U+007F to U+009F. In UTF-8 those below U+0080 are one byte, and the
-- others the byte 0xC2 and one from 0x80 to 0x9F.
abbrev pub begins_low : List ℕ → Bool
begins_low [] = false
begins_low (b ∷ bytes) = nat_le 0x80 b && nat_le b 0x9F

abbrev pub begins_control : ℕ → List ℕ → Bool
begins_control b more = nat_lt b 0x20 || b == 0x7F || (b == 0xC2 && begins_low more)

-- one begins at some byte
abbrev pub has_control : List ℕ → Bool
has_control [] = false
has_control (b ∷ bytes) = begins_control b bytes || has_control bytes

-- up to 200 bytes, and no control character
abbrev pub is_note_text : List ℕ → Bool
is_note_text text = nat_le (length text) MAX_NOTE_LEN && not (has_control text)

abbrev pub is_note : (due : ℕ) → (text : List ℕ) → Bool
is_note due text = is_due due && is_note_text text
