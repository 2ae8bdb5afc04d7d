-- What the first words of a text say of all of them.
use Rattle.std.proofs.Common.{◌≡◌, ℕ, zero, suc, ◌+◌, ◌≤◌, ◌<◌, List, [], ◌∷◌, length, take, refl, ap, subst, sym, ◌∙◌, ◌⊎◌, inl, inr, arith, Option}
use Rattle.std.specs.Prelude.{slice_get}
use Rattle.cut_tree.specs.declared.token.Token.{Token}
use Rattle.cut_tree.specs.declared.token.Cause.{Cause}
use Rattle.cut_tree.specs.declared.token.Cause.TheVariants.{NoMemory}
use Rattle.cut_tree.specs.Tree.{Tree}
use Rattle.cut_tree.specs.Spelling.{words, tokens, SpelledAt, IsFaultWithin, IsFaultAfter, HasReadTree, IsWrong, IsWrongAfter, IsFirstFault}

get-take : {A : Type 0} (n : ℕ) (ws : List A) (i : ℕ) → i < n → slice_get (take n ws) i ≡ slice_get ws i
get-take zero ws i h = absurd (omega arith)
get-take (suc n) [] i h = refl
get-take (suc n) (w ∷ ws) zero h = refl
get-take (suc n) (w ∷ ws) (suc i) h = get-take n ws i (omega arith)

pub SpelledAt-take : (n : ℕ) (ws : List (List ℕ)) (at : ℕ) (ts : List Token) → SpelledAt (take n ws) at ts → at + length ts ≤ n → SpelledAt ws at ts
SpelledAt-take n ws at [] p h = tt
SpelledAt-take n ws at (t ∷ ts) p h = (sym (get-take n ws at (omega arith)) ∙ p.0, p.1, SpelledAt-take n ws (at + 1) ts p.2 (omega arith))

pub Stops-take : (m : ℕ) (ws : List (List ℕ)) (w h k n : ℕ) (cause : Cause) → n < m → IsFaultWithin (take m ws) 0 0 w h k n cause → IsFaultWithin ws 0 0 w h k n cause
Stops-take m ws w h k n cause early s = record {
  prefix = s.prefix;
  place = s.place;
  spelled = SpelledAt-take m ws 0 s.prefix s.spelled (omega (arith, s.place));
  goes_on = s.goes_on;
  few_cuts = s.few_cuts;
  wrong = subst (λ (word : Option (List ℕ)). IsWrong cause s.prefix word 0 w h k) (get-take m ws n early) s.wrong;
}

pub FollowsOn-take : (m : ℕ) (ws : List (List ℕ)) (w h k n : ℕ) (cause : Cause) → n < m → IsFaultAfter (take m ws) w h k n cause → IsFaultAfter ws w h k n cause
FollowsOn-take m ws w h k n cause early s = record {
  prefix = s.prefix;
  place = s.place;
  spelled = SpelledAt-take m ws 0 s.prefix s.spelled (omega (arith, s.place));
  whole = s.whole;
  few_cuts = s.few_cuts;
  wrong = subst (λ (word : Option (List ℕ)). IsWrongAfter cause word) (get-take m ws n early) s.wrong;
}

-- words that end before so many are all of them
pub all_taken : {A : Type 0} (n : ℕ) (ws : List A) → length (take n ws) < n → take n ws ≡ ws
all_taken zero ws h = absurd (omega arith)
all_taken (suc n) [] h = refl
all_taken (suc n) (w ∷ ws) h = ap (λ l. w ∷ l) (all_taken n ws (omega arith))

-- the fault that a reader of the first words met
pub read_fault : (ws : List (List ℕ)) (text : List ℕ) (w h k n : ℕ) (cause : Cause) → ws ≡ take 512 (words text) → n ≤ 510 →
    ((n ≡ 0) × (cause ≡ NoMemory)) ⊎ IsFaultWithin ws 0 0 w h k n cause → IsFirstFault text w h k n cause
read_fault ws text w h k n cause is early (inl p) = inl p
read_fault ws text w h k n cause is early (inr s) =
    inr (inl (Stops-take 512 (words text) w h k n cause (omega arith) (subst (λ (v : List (List ℕ)). IsFaultWithin v 0 0 w h k n cause) is s)))

-- the fault after a tree that it read
pub after_fault : (ws : List (List ℕ)) (text : List ℕ) (w h k n cuts : ℕ) (cause : Cause) (tree : Tree) → ws ≡ take 512 (words text) → n ≤ 511 →
    HasReadTree ws 0 0 w h k tree n cuts → IsWrongAfter cause (slice_get ws n) → IsFirstFault text w h k n cause
after_fault ws text w h k n cuts cause tree is early r wrong =
    let s : IsFaultAfter ws w h k n cause = record {
      prefix = tokens tree;
      place = omega (arith, r.upto);
      spelled = r.spelled;
      whole = (tree, r.shaped, refl);
      few_cuts = omega (arith, r.counted, r.few_cuts);
      wrong = wrong;
    } in
    inr (inr (FollowsOn-take 512 (words text) w h k n cause (omega arith) (subst (λ (v : List (List ℕ)). IsFaultAfter v w h k n cause) is s)))
