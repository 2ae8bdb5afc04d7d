-- What the audit of a store and the lines of its entries come to.
use Rattle.std.proofs.Common.{◌≡◌, ℕ, List, Result, Ok, Err, inl, inr, refl, subst, sym, true≢false}
use Rattle.std.specs.Prelude.{IfErr, IfOk, IsErr, OnErr, OnOk}
use Rattle.std.proofs.lemmas.Result.{on_ok_weaker}
use Rattle.shop_records.specs.Content.{Content, entry_count}
use Rattle.shop_book.specs.declared.books.Book.{Ghosts}
use Rattle.shop_book.specs.declared.books.BookFault.{BookFault}
use Rattle.shop_book.specs.declared.books.BookFault.TheVariants as book
use Rattle.shop_book.specs.Kept.{OnContent}
use Rattle.shop_audit.specs.Compared.{IsLookedAt}
use Rattle.shop_audit.specs.Lines.{AppendsPart, history_text}
use Rattle.shop_audit.specs.declared.audits.Audit.{Audit}
use Rattle.shop_audit.specs.declared.audits.Verdict.TheVariants.{Whole}
use Rattle.shop_audit.specs.declared.lines.LinesFault.{LinesFault}
use Rattle.shop_audit.specs.declared.lines.LinesFault.TheVariants as lines
use Rattle.shop_opening.specs.declared.stores.OpenFault.{OpenFault}
use Rattle.shop_commands.specs.Audits.{IsAuditOf, IsFailure, IsHistoryDone, IsHistoryStopped, IsJudged, whole_lines}
use Rattle.shop_commands.specs.Faults.{book_fault, written_fault}
use Rattle.shop_commands.specs.Sinks.{SinkChange, Adds, SinkFailed}
use Rattle.shop_commands.specs.declared.faults.Fault.{Fault}

-- a book's fault is lack of memory or a failed store
pub failure : (fault : BookFault) (f : Fault) → f ≡ book_fault fault → IsFailure f
failure book.NoMemory f is = inl is
failure book.Store f is = inr is
failure book.WrongVersion f is = inr is

module _ {B : Type 0} (book : Ghosts B) (before after : B) (out : SinkChange) where
  -- a book that was found whole, and reported so
  pub judged_whole : {X : Type 0} (audit : Audit) → IsAuditOf book before after audit → audit.verdict ≡ Whole → (result : Result X Fault)
      → OnOk result (Adds out (whole_lines audit.entries)) → OnOk result (IsJudged book before after out)
  judged_whole audit of is result adds =
      on_ok_weaker result
      (λ reported. record {
        reported = λ clean m held. (of.whole clean m held is, subst (λ n. Adds out (whole_lines n)) (of.entries clean m held) reported);
        keeps = of.keeps;
      })
      adds

  -- an error judges nothing
  pub unjudged : {X : Type 0} (result : Result X Fault) → IsErr result → OnOk result (IsJudged book before after out)
  unjudged (Ok x) is = absurd (true≢false (sym is))
  unjudged (Err f) is = tt

  module _ (gives : Result B OpenFault → Type 0) (given : gives (Ok before)) (keeps : IsLookedAt book before after) (last : ℕ) where
    abbrev Text : Content → List ℕ
    Text m = history_text m last

    pub history_done : (result : Result (Unit {0}) LinesFault) → result ≡ Ok tt → OnContent book before after (λ m. OnOk result (Adds out (Text m)))
        → IsHistoryDone book gives last out
    history_done result is adds =
        record {
          before = before;
          after = after;
          given = given;
          reported = λ clean m held. subst (λ (r : Result _ LinesFault). OnOk r (Adds out (Text m))) is (adds clean m held);
          keeps = keeps;
        }

    -- a fault of the lines, and what it says of the sink
    by_fault : (fault : LinesFault) (f : Fault) → f ≡ written_fault fault → (fault ≡ lines.Write → SinkFailed out)
        → OnContent book before after (λ m. AppendsPart out.old out.new (Text m)) → IsHistoryStopped book gives last f out
    by_fault lines.NoMemory f is failed part = inr (inl (inl is), record { before = before; after = after; given = given; reported = part; keeps = keeps })
    by_fault lines.Store f is failed part = inr (inl (inr is), record { before = before; after = after; given = given; reported = part; keeps = keeps })
    by_fault lines.Write f is failed part = inr (inr (is, failed refl), record { before = before; after = after; given = given; reported = part; keeps = keeps })

    pub history_stopped : (result : Result (Unit {0}) LinesFault) (fault : LinesFault) (f : Fault) → result ≡ Err fault → f ≡ written_fault fault
        → (fault ≡ lines.Write → SinkFailed out) → OnContent book before after (λ m. OnErr result (AppendsPart out.old out.new (Text m)))
        → IsHistoryStopped book gives last f out
    history_stopped result fault f is reported failed part =
        by_fault fault f reported failed (λ clean m held. subst (λ (r : Result _ LinesFault). OnErr r (AppendsPart out.old out.new (Text m))) is (part clean m held))
