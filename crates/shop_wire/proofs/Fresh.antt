-- A replay over a fresh book whose store can't fail.
use Rattle.std.proofs.Common.{◌≡◌, List, [], ◌++◌, length, ℕ, Option, Result, Ok, Err, refl}
use Rattle.std.specs.Prelude.{IfOk, IfErr}
use Rattle.shop_records.specs.Content.{fresh}
use Rattle.shop_machine.proofs.StaysWellFormed.{gives_well_formed}
use Rattle.shop_forms.specs.Forms.{json_texts}
use Rattle.shop_desk.specs.Faults.{StoreFailed}
use Rattle.shop_book.specs.declared.books.Book.{Ghosts}
use Rattle.shop_wire.specs.declared.faults.ReplayFault.{ReplayFault}
use Rattle.shop_wire.specs.declared.faults.ReplayFault.TheVariants.{Read}
use Rattle.shop_wire.specs.Lines.{AreLines}
use Rattle.shop_wire.specs.Replays.{IsReplayed, IsReplayedFresh}

module _ {B : Type 0} (book : Ghosts B) (before after : B) (clean_disk : book.has_clean_disk after) (held : book.holds before fresh) (sure : StoreFailed (book.failed before) (book.failed after) → ⊥) where
  pub from_fresh : (held_old held_new : Option (List ℕ)) (lines : List (List ℕ)) (unwritten : List ℕ)
      → IsReplayed book before after held_old held_new lines unwritten → IsReplayedFresh held_old held_new lines unwritten
  from_fresh held_old held_new lines unwritten r =
      let one = r.run.in_turn clean_disk fresh held (gives_well_formed json_texts [] fresh refl) in
      let later = one.account [] refl in
      record {
        responses = r.responses;
        each = r.each;
        bytes = r.bytes;
        reported = r.reported;
        written = r.written;
        run = record { next = one.next; run = one.run; store_fault_justified = λ reported. sure (one.store_fault_justified reported); history = later.0; messages = later.1; account = later.2 };
      }

  module _ (left held_old held_new : Option (List ℕ)) (result : Result ℕ ReplayFault) where
    pub ok_from_fresh : IfOk result (λ count. (lines : List (List ℕ)) × AreLines left lines × (count ≡ length lines) × IsReplayed book before after held_old held_new lines [])
        → IfOk result (λ count. (lines : List (List ℕ)) × AreLines left lines × (count ≡ length lines) × IsReplayedFresh held_old held_new lines [])
    ok_from_fresh = by result
      where
        by : (r : Result ℕ ReplayFault) → IfOk r (λ count. (lines : List (List ℕ)) × AreLines left lines × (count ≡ length lines) × IsReplayed book before after held_old held_new lines [])
            → IfOk r (λ count. (lines : List (List ℕ)) × AreLines left lines × (count ≡ length lines) × IsReplayedFresh held_old held_new lines [])
        by (Ok count) p = (p.0, p.1, p.2, from_fresh held_old held_new p.0 [] p.3)
        by (Err fault) p = tt

    pub err_from_fresh : IfErr result (λ fault. (lines more : List (List ℕ)) × AreLines left (lines ++ more) × (unwritten : List ℕ) × (fault ≡ Read → unwritten ≡ []) × IsReplayed book before after held_old held_new lines unwritten)
        → IfErr result (λ fault. (lines more : List (List ℕ)) × AreLines left (lines ++ more) × (unwritten : List ℕ) × (fault ≡ Read → unwritten ≡ []) × IsReplayedFresh held_old held_new lines unwritten)
    err_from_fresh = by result
      where
        by : (r : Result ℕ ReplayFault)
            → IfErr r (λ fault. (lines more : List (List ℕ)) × AreLines left (lines ++ more) × (unwritten : List ℕ) × (fault ≡ Read → unwritten ≡ []) × IsReplayed book before after held_old held_new lines unwritten)
            → IfErr r (λ fault. (lines more : List (List ℕ)) × AreLines left (lines ++ more) × (unwritten : List ℕ) × (fault ≡ Read → unwritten ≡ []) × IsReplayedFresh held_old held_new lines unwritten)
        by (Ok count) p = tt
        by (Err fault) p = (p.0, p.1, p.2, p.3, p.4, from_fresh held_old held_new p.0 p.3 p.5)
