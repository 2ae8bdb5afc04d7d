-- Lines for standard error: which is written, and what stands there.
use Rattle.std.specs.Prelude.{ℕ, ◌==◌, ◌-◌, ◌*◌, ◌++◌, Bool, false, List, [], ◌∷◌, nat_lt, bytes_eq, string_bytes, codes, decimal, if◌then◌else◌}
use Rattle.std.specs.Time.{instant_nanos}
use Rattle.std.specs.declared.time.Instant.{Instant}
use Rattle.shop_advice.specs.Printing.{printed}
use Rattle.shop_serve.specs.declared.lines.Due.{Due}
use Rattle.shop_serve.specs.declared.lines.Due.TheVariants.{Written, LeftOut}
use Rattle.shop_serve.specs.declared.lines.Known.{Known}

-- it is this line
abbrev pub is_line : (line : List ℕ) → Known → Bool
is_line line known = bytes_eq (string_bytes known.line) line

-- one that was written less than a minute ago is left out, else it is written behind the equal ones that were left out
abbrev pub due_at : Known → (now : Instant) → Due
due_at known now =
    if nat_lt (instant_nanos now - instant_nanos known.written) (60 * 1000000000) then LeftOut else Written known.left_out

-- what is to be done with a line, by those that were written
abbrev pub due_of : (line : List ℕ) (now : Instant) → List Known → Due
due_of line now [] = Written 0
due_of line now (k ∷ ks) = if is_line line k then due_at k now else due_of line now ks

-- how many lines weren't written, where there are any
abbrev pub lost_text : (lost : ℕ) → List ℕ
lost_text lost = if lost == 0 then [] else codes "cutshop: " ++ decimal lost ++ codes " lines were not written\n"

-- how many equal lines were left out, where there are any
abbrev pub times_text : (left_out : ℕ) → List ℕ
times_text left_out = if left_out == 0 then [] else codes " (" ++ decimal left_out ++ codes " times)"

-- a line, given without its end, with its control characters as numbers
abbrev pub printed_line : (line : List ℕ) → List ℕ
printed_line line = printed false line ++ codes "\n"

-- what is written of a line, behind some that weren't, and some equal ones that were left out
abbrev pub line_text : (lost : ℕ) (line : List ℕ) (left_out : ℕ) → List ℕ
line_text lost line left_out = ((lost_text lost ++ line) ++ times_text left_out) ++ codes "\n"
