-- A text has one first fault.
use Rattle.std.proofs.Common.{◌≡◌, ℕ, suc, ◌+◌, ◌≤◌, ◌<◌, List, [], ◌∷◌, ◌++◌, length, refl, ap, subst, sym, ◌∙◌, inl, inr, arith, append_assoc, length-append, Option, Some, None}
use Rattle.std.specs.Prelude.{slice_get}
use Rattle.std.proofs.lemmas.Bool.{cases_lt}
use Rattle.std.proofs.lemmas.List.{append-nil}
use Rattle.cut_tree.specs.declared.token.TheConstants.{MAX_CUTS}
use Rattle.cut_tree.specs.declared.token.Token.{Token}
use Rattle.cut_tree.specs.declared.token.Token.TheVariants as token
use Rattle.cut_tree.specs.declared.token.Cause.{Cause}
use Rattle.cut_tree.specs.declared.token.Cause.TheVariants.{BadToken, TooManyCuts, OffUnit, Missing, Extra, NoMemory}
use Rattle.cut_tree.specs.Tree.{Tree}
use Rattle.cut_tree.specs.Spelling.{tokens, token_text, words, IsToken, cuts_in, SpelledAt, AreTreeTokens, IsPrefix, GoesOn, IsNoToken, IsWrong, IsWrongAfter, IsFaultWithin, IsFaultAfter, IsFirstFault}
use Rattle.cut_tree.proofs.SpelledTexts.{one_token}
use Rattle.cut_tree.proofs.TreePrefixes.{one_tree, cuts_in-append}

-- of two prefixes that words spell, the shorter one begins the other
begins : (ws : List (List ℕ)) (at : ℕ) (fs gs : List Token) → SpelledAt ws at fs → SpelledAt ws at gs → length fs ≤ length gs →
    (more : List Token) × (gs ≡ fs ++ more) × SpelledAt ws (at + length fs) more
begins ws at [] gs p q short = let e : at ≡ at + 0 = omega arith in (gs, refl, subst (λ (n : ℕ). SpelledAt ws n gs) e q)
begins ws at (f ∷ fs) [] p q short = absurd (omega arith)
begins ws at (f ∷ fs) (g ∷ gs) p q short =
    let s : slice_get ws at ≡ Some (token_text f) = p.0 in
    let t : slice_get ws at ≡ Some (token_text g) = q.0 in
    let same : f ≡ g = one_token f g p.1 q.1 (cc) in
    let more = begins ws (at + 1) fs gs p.2 q.2 (omega arith) in
    let split : gs ≡ fs ++ more.0 = more.1 in
    let e : at + 1 + length fs ≡ at + suc (length fs) = omega arith in
    (more.0, cc, subst (λ (n : ℕ). SpelledAt ws n more.0) e more.2)

module _ (w h k : ℕ) where
  prefix_of_whole : (prefix : List Token) → AreTreeTokens prefix w h k → IsPrefix prefix w h k
  prefix_of_whole prefix (t, p, same) = (t, [], p, same ∙ sym (append-nil prefix))

  prefix_of_more : (prefix : List Token) → GoesOn prefix w h k → IsPrefix prefix w h k
  prefix_of_more prefix g = (g.0, g.1 ∷ g.2, g.3, g.4)

  shorter_prefix : (prefix : List Token) (t : Token) (more : List Token) → IsPrefix (prefix ++ t ∷ more) w h k → IsPrefix (prefix ++ t ∷ []) w h k
  shorter_prefix prefix t more f =
      (f.0, more ++ f.1, f.2, f.3 ∙ append_assoc prefix (t ∷ more) f.1 ∙ sym (append_assoc prefix (t ∷ []) (more ++ f.1)))

  -- what is wrong after a prefix is no token of a tree that begins with it
  goes_no_further : (cause : Cause) (prefix : List Token) (t : Token) (more : List Token) (word : Option (List ℕ)) → word ≡ Some (token_text t) → IsToken t →
      IsWrong cause prefix word 0 w h k → IsPrefix (prefix ++ t ∷ more) w h k → cuts_in (prefix ++ t ∷ more) ≤ MAX_CUTS → ⊥
  goes_no_further BadToken prefix t more word is p wrong f few = (let no : IsNoToken (Some (token_text t)) = subst IsNoToken is wrong in no t p refl)
  goes_no_further TooManyCuts prefix t more word is p wrong f few =
      let i : word ≡ Some (token_text (token.Cut wrong.0 wrong.1)) = wrong.2.0 in
      let cut : t ≡ token.Cut wrong.0 wrong.1 = one_token t (token.Cut wrong.0 wrong.1) p wrong.2.1 (cc) in
      let full : 0 + cuts_in prefix ≡ MAX_CUTS = wrong.3 in
      let count : cuts_in (prefix ++ t ∷ more) ≡ cuts_in prefix + cuts_in (token.Cut wrong.0 wrong.1 ∷ more) =
      cuts_in-append prefix (t ∷ more) ∙ ap (λ v. cuts_in prefix + cuts_in (v ∷ more)) cut in
      omega (arith, count, full, few)
  goes_no_further OffUnit prefix t more word is p wrong f few =
      let i : word ≡ Some (token_text (token.Cut wrong.0 wrong.1)) = wrong.2.0 in
      let cut : t ≡ token.Cut wrong.0 wrong.1 = one_token t (token.Cut wrong.0 wrong.1) p wrong.2.1 (cc) in
      wrong.3 (subst (λ (v : Token). IsPrefix (prefix ++ v ∷ []) w h k) cut (shorter_prefix prefix t more f))
  goes_no_further Missing prefix t more word is p wrong f few = cc
  goes_no_further Extra prefix t more word is p wrong f few = wrong
  goes_no_further NoMemory prefix t more word is p wrong f few = wrong

  no_cut : (word : Option (List ℕ)) (t : Token) → IsNoToken word → word ≡ Some (token_text t) → IsToken t → ⊥
  no_cut word t none is p = (let no : IsNoToken (Some (token_text t)) = subst IsNoToken is none in no t p refl)

  no_word : (word : Option (List ℕ)) → IsNoToken word → word ≡ None → ⊥
  no_word word none is = (let no : IsNoToken None = subst IsNoToken is none in no)

  -- one thing is wrong after a prefix
  one_wrong : (a b : Cause) (prefix : List Token) (word : Option (List ℕ)) → IsWrong a prefix word 0 w h k → IsWrong b prefix word 0 w h k → a ≡ b
  one_wrong Extra b prefix word p q = absurd p
  one_wrong NoMemory b prefix word p q = absurd p
  one_wrong BadToken BadToken prefix word p q = refl
  one_wrong BadToken TooManyCuts prefix word p q = absurd (no_cut word (token.Cut q.0 q.1) p q.2.0 q.2.1)
  one_wrong BadToken OffUnit prefix word p q = absurd (no_cut word (token.Cut q.0 q.1) p q.2.0 q.2.1)
  one_wrong BadToken Missing prefix word p q = absurd (no_word word p q)
  one_wrong BadToken Extra prefix word p q = absurd q
  one_wrong BadToken NoMemory prefix word p q = absurd q
  one_wrong TooManyCuts BadToken prefix word p q = absurd (no_cut word (token.Cut p.0 p.1) q p.2.0 p.2.1)
  one_wrong TooManyCuts TooManyCuts prefix word p q = refl
  one_wrong TooManyCuts OffUnit prefix word p q = absurd (omega (arith, p.3, q.4))
  one_wrong TooManyCuts Missing prefix word p q = absurd (let s : word ≡ Some (token_text (token.Cut p.0 p.1)) = p.2.0 in cc)
  one_wrong TooManyCuts Extra prefix word p q = absurd q
  one_wrong TooManyCuts NoMemory prefix word p q = absurd q
  one_wrong OffUnit BadToken prefix word p q = absurd (no_cut word (token.Cut p.0 p.1) q p.2.0 p.2.1)
  one_wrong OffUnit TooManyCuts prefix word p q = absurd (omega (arith, p.4, q.3))
  one_wrong OffUnit OffUnit prefix word p q = refl
  one_wrong OffUnit Missing prefix word p q = absurd (let s : word ≡ Some (token_text (token.Cut p.0 p.1)) = p.2.0 in cc)
  one_wrong OffUnit Extra prefix word p q = absurd q
  one_wrong OffUnit NoMemory prefix word p q = absurd q
  one_wrong Missing BadToken prefix word p q = absurd (no_word word q p)
  one_wrong Missing TooManyCuts prefix word p q = absurd (let s : word ≡ Some (token_text (token.Cut q.0 q.1)) = q.2.0 in cc)
  one_wrong Missing OffUnit prefix word p q = absurd (let s : word ≡ Some (token_text (token.Cut q.0 q.1)) = q.2.0 in cc)
  one_wrong Missing Missing prefix word p q = refl
  one_wrong Missing Extra prefix word p q = absurd q
  one_wrong Missing NoMemory prefix word p q = absurd q

  one_after : (a b : Cause) (word : Option (List ℕ)) → IsWrongAfter a word → IsWrongAfter b word → a ≡ b
  one_after TooManyCuts b word p q = absurd p
  one_after OffUnit b word p q = absurd p
  one_after Missing b word p q = absurd p
  one_after NoMemory b word p q = absurd p
  one_after BadToken BadToken word p q = refl
  one_after BadToken Extra word p q = absurd (no_cut word q.0 p q.2 q.1)
  one_after BadToken TooManyCuts word p q = absurd q
  one_after BadToken OffUnit word p q = absurd q
  one_after BadToken Missing word p q = absurd q
  one_after BadToken NoMemory word p q = absurd q
  one_after Extra BadToken word p q = absurd (no_cut word p.0 q p.2 p.1)
  one_after Extra Extra word p q = refl
  one_after Extra TooManyCuts word p q = absurd q
  one_after Extra OffUnit word p q = absurd q
  one_after Extra Missing word p q = absurd q
  one_after Extra NoMemory word p q = absurd q

  module _ (ws : List (List ℕ)) where
    further : (n : ℕ) (a : Cause) (fs gs more : List Token) → 0 + length fs ≡ n → gs ≡ fs ++ more → SpelledAt ws n more → IsWrong a fs (slice_get ws n) 0 w h k →
        IsPrefix gs w h k → cuts_in gs ≤ MAX_CUTS → n < length gs → ⊥
    further n a fs gs [] place split p wrong f few past = omega (arith, place, ap length (split ∙ append-nil fs))
    further n a fs gs (t ∷ more) place split p wrong f few past =
        goes_no_further a fs t more (slice_get ws n) p.0 p.1 wrong (subst (λ (l : List Token). IsPrefix l w h k) split f) (omega (arith, ap cuts_in split))

    -- a reader that stopped met no longer prefix
    not_past : (n : ℕ) (a : Cause) (gs : List Token) → IsFaultWithin ws 0 0 w h k n a → SpelledAt ws 0 gs → IsPrefix gs w h k → cuts_in gs ≤ MAX_CUTS → n < length gs → ⊥
    not_past n a gs s p f few past =
        let more = begins ws 0 s.prefix gs s.spelled p (omega (arith, s.place)) in
        further n a s.prefix gs more.0 s.place more.1 (subst (λ (m : ℕ). SpelledAt ws m more.0) s.place more.2) s.wrong f few past

    -- prefixes of one length are one
    same_prefix : (fs gs more : List Token) → gs ≡ fs ++ more → length fs ≡ length gs → fs ≡ gs
    same_prefix fs gs [] split same = sym (split ∙ append-nil fs)
    same_prefix fs gs (t ∷ more) split same = absurd (omega (arith, ap length split, length-append fs (t ∷ more)))

    both_stop : (m n : ℕ) (a b : Cause) → IsFaultWithin ws 0 0 w h k m a → IsFaultWithin ws 0 0 w h k n b → (m ≡ n) × (a ≡ b)
    both_stop m n a b s t =
        elim (cases_lt m n) [
          | inl l ↦ absurd (not_past m a t.prefix s t.spelled (prefix_of_more t.prefix t.goes_on) (omega (arith, t.few_cuts)) (omega (arith, t.place)))
          | inr r ↦
              elim (cases_lt n m) [
                | inl l ↦ absurd (not_past n b s.prefix t s.spelled (prefix_of_more s.prefix s.goes_on) (omega (arith, s.few_cuts)) (omega (arith, s.place)))
                | inr l ↦
                    let same : m ≡ n = omega arith in
                    let more = begins ws 0 s.prefix t.prefix s.spelled t.spelled (omega (arith, s.place, t.place)) in
                    let prefix : s.prefix ≡ t.prefix = same_prefix s.prefix t.prefix more.0 more.1 (omega (arith, s.place, t.place)) in (
                      same,
                      one_wrong a b t.prefix (slice_get ws n)
                          (subst (λ (l : List Token). IsWrong a l (slice_get ws n) 0 w h k) prefix (subst (λ (i : ℕ). IsWrong a s.prefix (slice_get ws i) 0 w h k) same s.wrong)) t.wrong,
                    )
              ]
        ]

    -- a whole tree is no prefix of a longer one
    no_longer : (fs gs : List Token) → SpelledAt ws 0 fs → AreTreeTokens fs w h k → SpelledAt ws 0 gs → GoesOn gs w h k → length fs ≤ length gs → ⊥
    no_longer fs gs p whole q g short =
        let more = begins ws 0 fs gs p q short in
        let t : Tree = whole.0 in let u : Tree = g.0 in
        let of_t : tokens t ≡ fs = whole.2 in
        let of_u : tokens u ≡ gs ++ g.1 ∷ g.2 = g.4 in
        let split : gs ≡ fs ++ more.0 = more.1 in
        let longer : tokens t ++ (more.0 ++ g.1 ∷ g.2) ≡ tokens u ++ [] =
        ap (λ l. l ++ (more.0 ++ g.1 ∷ g.2)) of_t ∙ sym (append_assoc fs more.0 (g.1 ∷ g.2)) ∙ ap (λ l. l ++ g.1 ∷ g.2) (sym split) ∙ sym of_u ∙ sym (append-nil (tokens u)) in
        let none : more.0 ++ g.1 ∷ g.2 ≡ [] = (one_tree t u w h k (more.0 ++ g.1 ∷ g.2) [] whole.1 g.3 longer).1 in
        omega (arith, ap length none, length-append more.0 (g.1 ∷ g.2))

    stop_and_follow : (m n : ℕ) (a b : Cause) → IsFaultWithin ws 0 0 w h k m a → IsFaultAfter ws w h k n b → ⊥
    stop_and_follow m n a b s f =
        elim (cases_lt m n) [
          | inl l ↦ not_past m a f.prefix s f.spelled (prefix_of_whole f.prefix f.whole) f.few_cuts (omega (arith, f.place))
          | inr r ↦ no_longer f.prefix s.prefix f.spelled f.whole s.spelled s.goes_on (omega (arith, s.place, f.place))
        ]

    whole_and_whole : (fs gs : List Token) → SpelledAt ws 0 fs → AreTreeTokens fs w h k → SpelledAt ws 0 gs → AreTreeTokens gs w h k → length fs ≤ length gs → length fs ≡ length gs
    whole_and_whole fs gs p whole q other short =
        let more = begins ws 0 fs gs p q short in
        let t : Tree = whole.0 in let u : Tree = other.0 in
        let of_t : tokens t ≡ fs = whole.2 in
        let of_u : tokens u ≡ gs = other.2 in
        let split : gs ≡ fs ++ more.0 = more.1 in
        let none : more.0 ≡ [] =
        (one_tree t u w h k more.0 [] whole.1 other.1 (ap (λ l. l ++ more.0) of_t ∙ sym split ∙ sym of_u ∙ sym (append-nil (tokens u)))).1 in
        omega (arith, ap length split, length-append fs more.0, ap length none)

    both_follow : (m n : ℕ) (a b : Cause) → IsFaultAfter ws w h k m a → IsFaultAfter ws w h k n b → (m ≡ n) × (a ≡ b)
    both_follow m n a b f g =
        let same : m ≡ n =
        elim (cases_lt n m) [
          | inl l ↦ omega (arith, whole_and_whole g.prefix f.prefix g.spelled g.whole f.spelled f.whole (omega (arith, f.place, g.place)), f.place, g.place)
          | inr l ↦ omega (arith, whole_and_whole f.prefix g.prefix f.spelled f.whole g.spelled g.whole (omega (arith, f.place, g.place)), f.place, g.place)
        ] in
        (same, one_after a b (slice_get ws n) (subst (λ (i : ℕ). IsWrongAfter a (slice_get ws i)) same f.wrong) g.wrong)

-- want of memory aside, a text has one first fault
pub one_fault : (text : List ℕ) (w h k m n : ℕ) (a b : Cause) → (a ≡ NoMemory → ⊥) → (b ≡ NoMemory → ⊥) → IsFirstFault text w h k m a → IsFirstFault text w h k n b → (m ≡ n) × (a ≡ b)
one_fault text w h k m n a b p q (inl e) g = absurd (p e.1)
one_fault text w h k m n a b p q (inr f) (inl e) = absurd (q e.1)
one_fault text w h k m n a b p q (inr (inl s)) (inr (inl t)) = both_stop w h k (words text) m n a b s t
one_fault text w h k m n a b p q (inr (inl s)) (inr (inr t)) = absurd (stop_and_follow w h k (words text) m n a b s t)
one_fault text w h k m n a b p q (inr (inr s)) (inr (inl t)) = absurd (stop_and_follow w h k (words text) n m b a t s)
one_fault text w h k m n a b p q (inr (inr s)) (inr (inr t)) = both_follow w h k (words text) m n a b s t
