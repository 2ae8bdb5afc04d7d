-- Which fault each refusal of the port is reported as.
use Rattle.std.proofs.Common.{◌≡◌, ◌⊎◌, ◌∙◌, None, inl, inr, refl, sym, ap, subst}
use Rattle.std.specs.Prelude.{◌≢◌}
use Rattle.sqlite_disk.specs.declared.Disk.{Ghosts as DiskGhosts}
use Rattle.sqlite_wal.specs.Recovery.{Image}
use Rattle.sqlite.specs.declared.error.Error.{Error}
use Rattle.sqlite.specs.declared.error.Error.TheVariants.{SqliteFailure}
use Rattle.sqlite.specs.declared.error.ErrorCode.{ErrorCode}
use Rattle.sqlite.specs.declared.error.ErrorCode.TheVariants.{CannotOpen, OutOfMemory, DatabaseBusy, DiskFull, NotADatabase, DatabaseCorrupt}
use Rattle.shop_advice.specs.declared.causes.StoreCause.{StoreCause}
use Rattle.shop_advice.specs.declared.causes.StoreCause.TheVariants.{InUse, Full, NoDatabase, Damaged}
use Rattle.shop_opening.specs.declared.stores.OpenFault.{OpenFault}
use Rattle.shop_opening.specs.declared.stores.OpenFault.TheVariants.{NoMemory, Store}
use Rattle.shop_opening.specs.Openings.{AreRefused, IsCodeFault, IsLookFault, IsOpenFault}

pub memory_fault : (code : ErrorCode) → code ≡ OutOfMemory → IsCodeFault code NoMemory
memory_fault code is = record {
  memory = λ _. refl;
  used = λ e. absurd (let f = sym is ∙ e in cc);
  full = λ e. absurd (let f = sym is ∙ e in cc);
  damaged = λ e. elim e [ inl a ↦ absurd (let f = sym is ∙ a in cc) | inr b ↦ absurd (let f = sym is ∙ b in cc) ];
  other = λ none. absurd (none is);
}

pub used_fault : (code : ErrorCode) → code ≡ DatabaseBusy → IsCodeFault code (Store InUse)
used_fault code is = record {
  memory = λ e. absurd (let f = sym is ∙ e in cc);
  used = λ _. refl;
  full = λ e. absurd (let f = sym is ∙ e in cc);
  damaged = λ e. elim e [ inl a ↦ absurd (let f = sym is ∙ a in cc) | inr b ↦ absurd (let f = sym is ∙ b in cc) ];
  other = λ _. (InUse, refl);
}

pub full_fault : (code : ErrorCode) → code ≡ DiskFull → IsCodeFault code (Store Full)
full_fault code is = record {
  memory = λ e. absurd (let f = sym is ∙ e in cc);
  used = λ e. absurd (let f = sym is ∙ e in cc);
  full = λ _. refl;
  damaged = λ e. elim e [ inl a ↦ absurd (let f = sym is ∙ a in cc) | inr b ↦ absurd (let f = sym is ∙ b in cc) ];
  other = λ _. (Full, refl);
}

pub damage_fault : (code : ErrorCode) (cause : StoreCause) → (code ≡ NotADatabase) ⊎ (code ≡ DatabaseCorrupt) → (cause ≡ NoDatabase) ⊎ (cause ≡ Damaged) → IsCodeFault code (Store cause)
damage_fault code cause is found = record {
  memory = λ e. elim is [ inl a ↦ absurd (let f = sym a ∙ e in cc) | inr b ↦ absurd (let f = sym b ∙ e in cc) ];
  used = λ e. elim is [ inl a ↦ absurd (let f = sym a ∙ e in cc) | inr b ↦ absurd (let f = sym b ∙ e in cc) ];
  full = λ e. elim is [ inl a ↦ absurd (let f = sym a ∙ e in cc) | inr b ↦ absurd (let f = sym b ∙ e in cc) ];
  damaged = λ _. elim found [ inl none ↦ inl (ap Store none) | inr bad ↦ inr (ap Store bad) ];
  other = λ _. (cause, refl);
}

pub other_fault : (code : ErrorCode) (cause : StoreCause) → code ≢ OutOfMemory → code ≢ DatabaseBusy → code ≢ DiskFull → code ≢ NotADatabase → code ≢ DatabaseCorrupt → IsCodeFault code (Store cause)
other_fault code cause memory used full none bad = record {
  memory = λ e. absurd (memory e);
  used = λ e. absurd (used e);
  full = λ e. absurd (full e);
  damaged = λ e. elim e [ inl a ↦ absurd (none a) | inr b ↦ absurd (bad b) ];
  other = λ _. (cause, refl);
}

-- what a code is reported as is what the refusal by it is
coded_fault : (code : ErrorCode) (fault : OpenFault) → IsCodeFault code fault → IsOpenFault (SqliteFailure code) fault
coded_fault code fault reported = record {
  coded = λ other is. let same : code ≡ other = cc in subst (λ (c : ErrorCode). IsCodeFault c fault) same reported;
  other = λ none. absurd (none code refl);
}

unopened_fault : (cause : StoreCause) → IsCodeFault CannotOpen (Store cause)
unopened_fault cause = other_fault CannotOpen cause (λ e. cc) (λ e. cc) (λ e. cc) (λ e. cc) (λ e. cc)

-- files that were looked at, and not opened, are as those that the port didn't open
pub looked_refused : {D : Type 0} (g : DiskGhosts D) (image : Image) (fault : OpenFault) → IsLookFault fault → AreRefused g image fault
looked_refused g image fault (inl none) =
    inl (SqliteFailure OutOfMemory, None, tt, coded_fault OutOfMemory fault (subst (IsCodeFault OutOfMemory) (sym none) (memory_fault OutOfMemory refl)))
looked_refused g image fault (inr (cause, is)) =
    inl (SqliteFailure CannotOpen, None, tt, coded_fault CannotOpen fault (subst (IsCodeFault CannotOpen) (sym is) (unopened_fault cause)))
