-- The entries of a content as lines.
use Rattle.std.specs.Prelude.{◌≡◌, ◌+◌, ◌-◌, ℕ, zero, suc, List, [], ◌++◌, codes, Option, Some, None, option_and_then}
use Rattle.std.specs.Io.KnownBytes.{Appends}
use Rattle.serde_json.specs.Written.{compact_text}
use Rattle.shop_records.specs.declared.journal.ReportedEntry.{ReportedEntry}
use Rattle.shop_records.specs.Content.{Content, entry_at, entry_count}
use Rattle.shop_records.specs.Lists.{reported_entry}
use Rattle.shop_forms.specs.Forms.{entry_data}
use Rattle.shop_book.specs.declared.books.BookFault.{BookFault}
use Rattle.shop_book.specs.declared.books.BookFault.TheVariants as book
use Rattle.shop_audit.specs.declared.lines.LinesFault.{LinesFault}
use Rattle.shop_audit.specs.declared.lines.LinesFault.TheVariants.{NoMemory, Store}

-- a book's fault, as it stops the lines
abbrev pub lines_fault : BookFault → LinesFault
lines_fault book.NoMemory = NoMemory
lines_fault book.Store = Store
lines_fault book.WrongVersion = Store

-- the entry of a number as it is reported, where it is there and its message is kept
abbrev pub reported_at : Content → (number : ℕ) → Option ReportedEntry
reported_at m number = option_and_then (reported_entry m) (entry_at m number)

-- the object that an entry is reported as, and a line's end; nothing where there is none
abbrev pub line_of : Option ReportedEntry → List ℕ
line_of None = []
line_of (Some reported) = compact_text (entry_data reported) ++ codes "\n"

abbrev pub line_at : Content → (number : ℕ) → List ℕ
line_at m number = line_of (reported_at m number)

-- the lines of the first entries behind a number, so many, rising
abbrev pub lines : Content → (after count : ℕ) → List ℕ
lines m after zero = []
lines m after (suc count) = lines m after count ++ line_at m (after + count + 1)

-- the lines of all entries behind a number
abbrev pub history_text : Content → (after : ℕ) → List ℕ
history_text m after = lines m after (entry_count m - after)

-- some first bytes of a text were written
abbrev pub AppendsPart : Option (List ℕ) → Option (List ℕ) → List ℕ → Type 0
AppendsPart old new text = (done : List ℕ) × (rest : List ℕ) × (done ++ rest ≡ text) × Appends old new done
