-- A part of a buffer up to a line feed.
use Rattle.std.proofs.Common.{◌≡◌, ℕ, zero, suc, ◌+◌, ◌-◌, ◌<◌, ◌≤◌, List, [], ◌∷◌, ◌++◌, length, take, drop, get_or, Bool, true, false, nat_eq, refl, sym, ap, ◌∙◌, arith}
use Rattle.std.proofs.Math.Seq.{take-length, drop-cons}
use Rattle.std.proofs.lemmas.Bool.{eqb-true}
use Rattle.std.proofs.lemmas.List.{take-append-drop, drop-drop, drop-take}
use Rattle.std.specs.Prelude.{slice_index}
use Rattle.memchr.specs.Find.{Nowhere, Passes, is_byte}
use Rattle.shop_wire.specs.Lines.{HasNoFeed, pending}

false_from : (b : Bool) → (b ≡ true → ⊥) → b ≡ false
false_from true h = absurd (h refl)
false_from false h = refl

pub no_feed : (hay : List ℕ) (k : ℕ) → Nowhere (Passes (is_byte 10) hay) 0 k → HasNoFeed (take k hay)
no_feed [] zero h = tt
no_feed [] (suc k) h = tt
no_feed (b ∷ bs) zero h = tt
no_feed (b ∷ bs) (suc k) h = (false_from (nat_eq b 10) (h 0 (omega arith) (omega arith)), no_feed bs k (λ i low high. h (suc i) (omega arith) (omega arith)))

pub no_feed_whole : (hay : List ℕ) → Nowhere (Passes (is_byte 10) hay) 0 (length hay) → HasNoFeed hay
no_feed_whole hay h = let part = no_feed hay (length hay) h in rw (sym (take-length hay)) part

taken_on : (buffer : List ℕ) (start end at : ℕ) → suc at ≤ end - start → drop (suc at) (pending buffer start end) ≡ pending buffer (start + (at + 1)) end
taken_on buffer start end at h =
    let m = end - start - suc at in
    let whole : end - start ≡ suc at + m = omega arith in
    let left : m ≡ end - (start + (at + 1)) = omega arith in
    let place : start + suc at ≡ start + (at + 1) = omega arith in
    ap (λ n. drop (suc at) (take n (drop start buffer))) whole ∙ drop-take (suc at) m (drop start buffer)
    ∙ ap (take m) (drop-drop (suc at) start buffer ∙ ap (λ n. drop n buffer) place) ∙ ap (λ n. take n (drop (start + (at + 1)) buffer)) left

pub split_at_feed : (buffer : List ℕ) (start end at : ℕ) → at < length (pending buffer start end) → suc at ≤ end - start → nat_eq (slice_index (pending buffer start end) at) 10 ≡ true
    → pending buffer start end ≡ take at (pending buffer start end) ++ 10 ∷ pending buffer (start + (at + 1)) end
split_at_feed buffer start end at within inside is =
    let rest = pending buffer start end in
    sym (take-append-drop at rest)
    ∙ ap (λ l. take at rest ++ l) (drop-cons rest at 0 within ∙ ap (λ b. b ∷ drop (suc at) rest) (eqb-true (get_or rest at 0) 10 is) ∙ ap (λ l. 10 ∷ l) (taken_on buffer start end at inside))

pub pending_none : (buffer : List ℕ) (n : ℕ) → pending buffer n n ≡ []
pending_none buffer n = let none : n - n ≡ 0 = omega arith in ap (λ m. take m (drop n buffer)) none

pub has_feed : (hay : List ℕ) (at : ℕ) → at < length hay → nat_eq (slice_index hay at) 10 ≡ true → HasNoFeed hay → ⊥
has_feed [] at within is free = absurd (omega arith)
has_feed (b ∷ bs) zero within is free = absurd (cc (sym is ∙ free.0))
has_feed (b ∷ bs) (suc at) within is free = has_feed bs at (omega (arith, within)) is free.1
