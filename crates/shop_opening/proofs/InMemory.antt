-- What a file in memory holds to which bytes were written as the first.
use Rattle.std.proofs.Common.{◌≡◌, ◌+◌, ◌<◌, ◌∙◌, ℕ, List, [], ◌∷◌, length, slice_index, refl, sym, ap, arith, ext_get_or}
use Rattle.std.specs.Prelude.{Result, Ok, Err, IfErr, IfOk}
use Rattle.sqlite_disk.specs.Disk.{Holds, Torn}

-- lists of one length whose elements are the same are equal
same : (new bytes : List ℕ) → length new ≡ length bytes → ((i : ℕ) → i < length bytes → slice_index new (0 + i) ≡ slice_index bytes i) → new ≡ bytes
same new bytes long each = ext_get_or 0 new bytes long λ i h.
    let low : i < length bytes = omega (arith, long, h) in
    let here : 0 + i ≡ i = omega arith in
    sym (ap (slice_index new) here) ∙ each i low

pub written_first : (new bytes : List ℕ) → Torn 0 (length bytes) [] new → (0 < length bytes → Holds new 0 bytes) → new ≡ bytes
written_first [] [] torn holds = refl
written_first (x ∷ xs) [] torn holds = absurd (omega (arith, torn.no_longer))
written_first new (b ∷ bs) torn holds =
    let h = holds (omega arith) in
    same new (b ∷ bs) (omega (arith, torn.no_longer, h.within)) h.each

-- what is known of an Ok
pub ok_then : {X E : Type 0} {P Q : X → Type 0} (r : Result X E) → IfOk r P → ((x : X) → P x → Q x) → IfOk r Q
ok_then (Ok x) h f = f x h
ok_then (Err e) h f = tt

-- what is known of an Err
pub err_then : {X E : Type 0} {P Q : E → Type 0} (r : Result X E) → IfErr r P → ((e : E) → P e → Q e) → IfErr r Q
err_then (Ok x) h f = tt
err_then (Err e) h f = f e h
