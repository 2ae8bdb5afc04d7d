-- How sizes, places and numbers are printed, and what is printed of a text.
use Rattle.std.specs.Prelude.{◌≡◌, ℕ, ◌-◌, ◌⊎◌, List, ◌++◌, length, replicate, codes, Option, Result, Ok, Err, string_bytes}
use Rattle.std.specs.declared.string.String.{String}
use Rattle.std.specs.Fmt.{decimal}
use Rattle.std.specs.Io.KnownBytes.{Appends}
use Rattle.cut_measure.specs.declared.sizes.Kind.{Kind}
use Rattle.cut_measure.specs.declared.sizes.Kind.TheVariants.{Bar, Sheet}
use Rattle.cut_measure.specs.Lengths.{mm_text}
use Rattle.cut_measure.specs.Names.{Name, name_text}
use Rattle.shop_records.specs.declared.refusals.Refusal.{Refusal}
use Rattle.shop_records.specs.declared.refusals.Refusal.TheVariants.{NoMemory, StoreFault}
use Rattle.shop_records.specs.Refusals.{refusal_number, refusal_name}
use Rattle.shop_book.specs.Failures.{one_more_failure}
use Rattle.shop_text.specs.declared.printing.PrintFault.{PrintFault}
use Rattle.shop_text.specs.declared.printing.PrintFault.TheVariants.{Refused, Write}

-- a text at the right end of so many places
abbrev pub to_the_right : ℕ → List ℕ → List ℕ
to_the_right places text = replicate (places - length text) 32 ++ text

-- the length of a bar, the sides of a sheet's part
abbrev pub size_text : Kind → (w h : ℕ) → List ℕ
size_text Bar w h = mm_text w
size_text Sheet w h = mm_text w ++ codes " x " ++ mm_text h

-- a place along a bar, a place on a sheet
abbrev pub place_text : Kind → (x y : ℕ) → List ℕ
place_text Bar x y = mm_text x
place_text Sheet x y = mm_text x ++ codes " " ++ mm_text y

-- how a line on a part begins
abbrev pub part_start : Name → List ℕ
part_start name = codes "part " ++ name_text name ++ codes " "

-- memory ran out, or the store failed, which is counted
abbrev pub IsFailure : Refusal → ℕ → ℕ → Type 0
IsFailure refusal before after = ((refusal ≡ NoMemory) × (after ≡ before)) ⊎ ((refusal ≡ StoreFault) × (after ≡ one_more_failure before))

-- a text is what it has to be, or there is none for this refusal, or a failure
abbrev pub IsTextMade : {Z : Type 0} → ℕ → ℕ → Result (String Z) Refusal → Result (List ℕ) Refusal → Type 0
IsTextMade before after (Ok text) said = said ≡ Ok (string_bytes text)
IsTextMade before after (Err refusal) said = (said ≡ Err refusal) ⊎ IsFailure refusal before after

-- failures are counted where a refusal reports them, and else not
abbrev pub CountsRefusal : {T : Type 0} → Result T Refusal → ℕ → ℕ → Type 0
CountsRefusal (Ok x) before after = after ≡ before
CountsRefusal (Err refusal) before after = (after ≡ before) ⊎ ((refusal ≡ StoreFault) × (after ≡ one_more_failure before))

-- What has to be said was written; or there is nothing to say for this refusal, or a failure; or a first part was written.
abbrev pub IsPrinted : ℕ → ℕ → Option (List ℕ) → Option (List ℕ) → Result (Unit {0}) PrintFault → Result (List ℕ) Refusal → Type 0
IsPrinted before after old new (Ok x) said = (text : List ℕ) × (said ≡ Ok text) × Appends old new text
IsPrinted before after old new (Err (Refused refusal)) said = (said ≡ Err refusal) ⊎ IsFailure refusal before after
IsPrinted before after old new (Err Write) said = (done : List ℕ) × (rest : List ℕ) × (said ≡ Ok (done ++ rest)) × Appends old new done

-- the same count for a text that is written
abbrev pub CountsPrint : Result (Unit {0}) PrintFault → ℕ → ℕ → Type 0
CountsPrint (Ok x) before after = after ≡ before
CountsPrint (Err (Refused refusal)) before after = (after ≡ before) ⊎ ((refusal ≡ StoreFault) × (after ≡ one_more_failure before))
CountsPrint (Err Write) before after = after ≡ before

-- what a fault is printed as
abbrev pub print_fault_text : PrintFault → List ℕ
print_fault_text (Refused refusal) = codes "refused " ++ decimal (refusal_number refusal) ++ codes " " ++ refusal_name refusal
print_fault_text Write = codes "fault write"
