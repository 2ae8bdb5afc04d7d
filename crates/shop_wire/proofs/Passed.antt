-- Replies that are held when no more lines are answered, and are written then.
use Rattle.std.proofs.Common.{◌≡◌, ℕ, List, [], ◌++◌, length, Option, Result, Ok, Err, refl, sym, ap, subst, ◌∙◌, append_assoc, append-nil}
use Rattle.std.specs.Prelude.{IfOk, IfErr}
use Rattle.std.specs.Io.KnownBytes.{Appends}
use Rattle.shop_book.specs.declared.books.Book.{Ghosts}
use Rattle.shop_wire.specs.declared.faults.ReplayFault.{ReplayFault}
use Rattle.shop_wire.specs.declared.faults.ReplayFault.TheVariants.{Read}
use Rattle.shop_wire.specs.Lines.{AreLines}
use Rattle.shop_wire.specs.Replays.{IsReplayed}
use Rattle.shop_wire.proofs.Replayed.{passed_on}

module _ {B : Type 0} (book : Ghosts B) (before after : B) (left a b c : Option (List ℕ)) (held : List ℕ) where
  pub ok_passed : (outcome : Result ℕ ReplayFault) → Appends b c held
      → IfOk outcome (λ count. (lines : List (List ℕ)) × AreLines left lines × (count ≡ length lines) × IsReplayed book before after a b lines held)
      → IfOk outcome (λ count. (lines : List (List ℕ)) × AreLines left lines × (count ≡ length lines) × IsReplayed book before after a c lines [])
  ok_passed (Ok count) written p = (p.0, p.1, p.2, passed_on book before after a b c p.0 held held [] (append-nil held) written p.3)
  ok_passed (Err fault) written p = tt

  pub err_passed : (outcome : Result ℕ ReplayFault) → Appends b c held
      → IfErr outcome (λ fault. (lines more : List (List ℕ)) × AreLines left (lines ++ more) × (lost : List ℕ) × (fault ≡ Read → lost ≡ []) × IsReplayed book before after a b lines (held ++ lost))
      → IfErr outcome (λ fault. (lines more : List (List ℕ)) × AreLines left (lines ++ more) × (lost : List ℕ) × (fault ≡ Read → lost ≡ []) × IsReplayed book before after a c lines lost)
  err_passed (Ok count) written p = tt
  err_passed (Err fault) written p = (p.0, p.1, p.2, p.3, p.4, passed_on book before after a b c p.0 (held ++ p.3) held p.3 refl written p.5)

  pub part_passed : (outcome : Result ℕ ReplayFault) (done rest : List ℕ) → done ++ rest ≡ held → Appends b c done
      → IfOk outcome (λ count. (lines : List (List ℕ)) × AreLines left lines × (count ≡ length lines) × IsReplayed book before after a b lines held)
      → IfErr outcome (λ fault. (lines more : List (List ℕ)) × AreLines left (lines ++ more) × (lost : List ℕ) × (fault ≡ Read → lost ≡ []) × IsReplayed book before after a b lines (held ++ lost))
      → (lines more : List (List ℕ)) × AreLines left (lines ++ more) × (lost : List ℕ) × IsReplayed book before after a c lines lost
  part_passed (Ok count) done rest is written p q =
      (p.0, [], subst (AreLines left) (sym (append-nil p.0)) p.1, rest, passed_on book before after a b c p.0 held done rest is written p.3)
  part_passed (Err fault) done rest is written p q =
      (q.0, q.1, q.2, rest ++ q.3, passed_on book before after a b c q.0 (held ++ q.3) done (rest ++ q.3) (sym (append_assoc done rest q.3) ∙ ap (λ l. l ++ q.3) is) written q.5)
