-- Answers that were written.
use Rattle.std.proofs.Common.{◌≡◌, ℕ, List, [], ◌++◌, Option, Result, Ok, Err, refl, sym, ap, subst, ◌∙◌, append-nil}
use Rattle.std.specs.Prelude.{OnOk, OnErr}
use Rattle.std.specs.Io.KnownBytes.{Appends}
use Rattle.std.proofs.KnownBytes.{Appends-nil}
use Rattle.shop_records.specs.declared.messages.Reply.TheVariants.{Refused}
use Rattle.shop_records.specs.declared.refusals.Refusal.TheVariants.{BadMessage}
use Rattle.shop_records.specs.Content.{Content}
use Rattle.shop_records.specs.WellFormed.{IsWellFormed}
use Rattle.shop_forms.specs.Forms.{json_texts}
use Rattle.shop_book.specs.declared.books.Book.{Ghosts}
use Rattle.shop_desk.proofs.Accounts.{account_same}
use Rattle.shop_request.specs.declared.faults.RequestFault.{RequestFault}
use Rattle.shop_request.specs.Requests.{ParseResult, silent, faulty}
use Rattle.shop_wire.specs.declared.faults.WireFault.{WireFault}
use Rattle.shop_wire.specs.AnswerBytes.{answer_bytes, fault_answer, replied}
use Rattle.shop_wire.specs.Serves.{HasServedInput, IsServedAs}

pub same_answer : (s t : ℕ) (f g b d : List ℕ) → s ≡ t → f ≡ g → b ≡ d → answer_bytes (record { status = s; fields = f; body = b }) ≡ answer_bytes (record { status = t; fields = g; body = d })
same_answer s t f g b d p q r =
    ap (λ n. answer_bytes (record { status = n; fields = f; body = b })) p ∙ ap (λ x. answer_bytes (record { status = t; fields = x; body = b })) q
    ∙ ap (λ l. answer_bytes (record { status = t; fields = g; body = l })) r

module _ {B : Type 0} (book : Ghosts B) (at : B) (a b : Option (List ℕ)) where
  silent_served : (m : Content) → book.holds at m → IsWellFormed json_texts m → HasServedInput book at at m silent (replied (Refused BadMessage))
  silent_served m held well_formed = record { next = m; step = refl; held = held; well_formed = well_formed; crash = (refl, λ left it. it); store_fault_justified = λ e. absurd (cc e); account = account_same json_texts m m refl }

  pub silent_reported : (parsed : ParseResult) → parsed ≡ silent → IsServedAs book at at a a parsed []
  silent_reported parsed is =
      subst (λ s. IsServedAs book at at a a s []) (sym is)
      (record { response = replied (Refused BadMessage); bytes = []; reported = refl; written = Appends-nil a; run = record { run = λ h m held well_formed. silent_served m held well_formed; keeps = λ h m held nothing. held } })

  fault_served : (f : RequestFault) (m : Content) → book.holds at m → IsWellFormed json_texts m → HasServedInput book at at m (faulty f) (replied (Refused BadMessage))
  fault_served f m held well_formed = record { next = m; step = refl; held = held; well_formed = well_formed; crash = (refl, λ left it. it); store_fault_justified = λ e. absurd (cc e); account = account_same json_texts m m refl }

  fault_reported : (f : RequestFault) (parsed : ParseResult) → parsed ≡ faulty f → (done rest : List ℕ) → done ++ rest ≡ answer_bytes (fault_answer f) → Appends a b done → IsServedAs book at at a b parsed rest
  fault_reported f parsed is done rest reported written =
      subst (λ s. IsServedAs book at at a b s rest) (sym is)
      (record { response = replied (Refused BadMessage); bytes = done; reported = reported; written = written; run = record { run = λ h m held well_formed. fault_served f m held well_formed; keeps = λ h m held nothing. held } })

  pub fault_ok : (f : RequestFault) (parsed : ParseResult) → parsed ≡ faulty f → (r : Result (Unit {0}) WireFault) → OnOk r (Appends a b (answer_bytes (fault_answer f))) → OnOk r (IsServedAs book at at a b parsed [])
  fault_ok f parsed is (Ok u) h = fault_reported f parsed is (answer_bytes (fault_answer f)) [] (append-nil (answer_bytes (fault_answer f))) h
  fault_ok f parsed is (Err e) h = tt

  pub fault_err : (f : RequestFault) (parsed : ParseResult) → parsed ≡ faulty f → (r : Result (Unit {0}) WireFault) → OnErr r ((done : List ℕ) × (rest : List ℕ) × (done ++ rest ≡ answer_bytes (fault_answer f)) × Appends a b done)
      → OnErr r ((unwritten : List ℕ) × IsServedAs book at at a b parsed unwritten)
  fault_err f parsed is (Ok u) h = tt
  fault_err f parsed is (Err e) h = (h.1, fault_reported f parsed is h.0 h.1 h.2 h.3)
