-- How a text from outside is printed.
use Rattle.std.specs.Prelude.{ℕ, Bool, not, ◌&&◌, ◌==◌, List, ◌++◌, codes, if◌then◌else◌, false}
use Rattle.std.specs.List.{flat_map}
use Rattle.std.specs.Char.{is_control, encode_utf8}
use Rattle.std.specs.Str.{chars}
use Rattle.std.specs.Fmt.{digits}

-- a character is printed as its number: a control character is, except a line feed in a text of several lines
abbrev pub is_hidden : (has_lines : Bool) → ℕ → Bool
is_hidden has_lines c = not (has_lines && c == 10) && is_control c

-- a control character's number, as `\u{1b}`
abbrev pub number_text : ℕ → List ℕ
number_text c = codes "\\u{" ++ digits 16 false c ++ codes "}"

abbrev pub printed_char : (has_lines : Bool) → ℕ → List ℕ
printed_char has_lines c = if is_hidden has_lines c then number_text c else encode_utf8 c

-- a text as it is printed: its characters, one after another
abbrev pub printed : (has_lines : Bool) → List ℕ → List ℕ
printed has_lines text = flat_map (printed_char has_lines) (chars text)
