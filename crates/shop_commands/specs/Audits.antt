-- What is reported about the entries of a store, and of one that is whole.
use Rattle.std.specs.Prelude.{◌≡◌, ◌⊎◌, ℕ, List, ◌++◌, codes, Option, Some, None, Result, Ok, Err}
use Rattle.std.specs.Fmt.{decimal}
use Rattle.shop_records.specs.Content.{Content, entry_count}
use Rattle.shop_forms.specs.Forms.{json_texts}
use Rattle.shop_book.specs.declared.books.Book.{Ghosts}
use Rattle.shop_book.specs.Kept.{OnContent}
use Rattle.shop_audit.specs.Compared.{IsLookedAt}
use Rattle.shop_audit.specs.Lines.{history_text}
use Rattle.shop_audit.specs.Whole.{IsWhole}
use Rattle.shop_audit.specs.declared.audits.Audit.{Audit}
use Rattle.shop_audit.specs.declared.audits.Verdict.TheVariants.{Whole}
use Rattle.shop_advice.specs.declared.causes.StoreCause.TheVariants.{Failed, Missing}
use Rattle.shop_opening.specs.declared.stores.OpenFault.{OpenFault}
use Rattle.shop_opening.specs.declared.stores.OpenFault.TheVariants as opening
use Rattle.shop_commands.specs.declared.faults.Fault.{Fault}
use Rattle.shop_commands.specs.declared.faults.Fault.TheVariants as fault
use Rattle.shop_commands.specs.declared.faults.Fault.TheVariants.{File, NoMemory, Store, Write}
use Rattle.shop_commands.specs.declared.faults.Torn.{Torn}
use Rattle.shop_commands.specs.Faults.{store_fault}
use Rattle.shop_commands.specs.Sinks.{SinkChange, Adds, AddsNone, AddsPrefix, SinkFailed}

-- the number behind which entries are reported, 0 where none is given
abbrev pub number_of : Option ℕ → ℕ
number_of None = 0
number_of (Some after) = after

-- what reports that a store can't be opened; of one that isn't there it may be reported as of a file
abbrev pub IsFaultOf : Fault → OpenFault → Type 0
IsFaultOf fault why = (fault ≡ store_fault why) ⊎ ((fault ≡ File) × (why ≡ opening.Store Missing))

-- the opener gave no book, and this reports why
abbrev pub IsUnfound : {B : Type 0} → (Result B OpenFault → Type 0) → Fault → Type 0
IsUnfound gives fault = (why : OpenFault) × gives (Err why) × IsFaultOf fault why

abbrev pub entries_line : ℕ → List ℕ
entries_line entries = codes "entries " ++ decimal entries ++ codes "\n"

abbrev pub whole_lines : ℕ → List ℕ
whole_lines entries = codes "entries " ++ decimal entries ++ codes "\nwhole\n"

-- memory ran out, or the store failed
abbrev pub IsFailure : Fault → Type 0
IsFailure fault = (fault ≡ NoMemory) ⊎ (fault ≡ Store Failed)

module _ {B : Type 0} (book : Ghosts B) where
  -- A book that the opener gave was looked at: this holds of each content that it held, with a clean disk. It holds what it
  -- held, and a crash leaves nothing that it couldn't before.
  pub record IsReportedFrom (gives : Result B OpenFault → Type 0) (says : Content → Type 0) : Type 0 where
    pub before : B
    pub after : B
    pub given : gives (Ok before)
    pub reported : OnContent book before after says
    pub keeps : IsLookedAt book before after

  -- all entries with greater numbers were written, one a line
  abbrev pub IsHistoryDone : (Result B OpenFault → Type 0) → (after : ℕ) → (out : SinkChange) → Type 0
  IsHistoryDone gives after out = IsReportedFrom gives (λ m. Adds out (history_text m after))

  -- the store isn't opened, and nothing was written; or memory ran out, the store failed or a write did, and a first part was
  abbrev pub IsHistoryStopped : (Result B OpenFault → Type 0) → (after : ℕ) → Fault → (out : SinkChange) → Type 0
  IsHistoryStopped gives after fault out =
      (IsUnfound gives fault × AddsNone out)
      ⊎ ((IsFailure fault ⊎ ((fault ≡ Write) × SinkFailed out)) × IsReportedFrom gives (λ m. AddsPrefix out (history_text m after)))

  -- A book was audited: it has so many entries, and it is found whole only where each content that it held is. It holds what it held.
  pub record IsAuditOf (before after : B) (audit : Audit) : Type 0 where
    pub entries : OnContent book before after (λ m. audit.entries ≡ entry_count m)
    pub whole : OnContent book before after (λ m. audit.verdict ≡ Whole → IsWhole json_texts m)
    pub keeps : IsLookedAt book before after

  -- Each content that the book held is whole, and so many entries were reported. It holds what it held.
  pub record IsJudged (before after : B) (out : SinkChange) : Type 0 where
    pub reported : OnContent book before after (λ m. IsWhole json_texts m × Adds out (whole_lines (entry_count m)))
    pub keeps : IsLookedAt book before after

  -- the store was opened, and is whole
  abbrev pub IsAuditDone : (Result B OpenFault → Type 0) → (out : SinkChange) → Type 0
  IsAuditDone gives out = (before after : B) × gives (Ok before) × IsJudged before after out

-- a store isn't whole, and how many entries it has was written; or that wasn't found out, or couldn't be written
abbrev pub IsUnjudged : (out : SinkChange) → Fault → Type 0
IsUnjudged out f =
    (IsFailure f × AddsNone out)
    ⊎ (((torn : Torn) × (entries : ℕ) × (f ≡ fault.Audit torn) × Adds out (entries_line entries))
    ⊎ ((f ≡ Write) × SinkFailed out))

-- the store isn't opened, and nothing was written; or its book was judged otherwise
abbrev pub IsAuditStopped : {B : Type 0} → (Result B OpenFault → Type 0) → Fault → (out : SinkChange) → Type 0
IsAuditStopped gives fault out = (IsUnfound gives fault × AddsNone out) ⊎ IsUnjudged out fault
