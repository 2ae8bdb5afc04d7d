-- A text that spells a tree has no fault.
use Rattle.std.proofs.Common.{◌≡◌, ℕ, zero, suc, ◌+◌, ◌^◌, ◌<◌, ◌≤◌, Bool, true, false, List, [], ◌∷◌, ◌++◌, length, get_or, drop, map, refl, ap, subst, sym, ◌∙◌, arith, eqb, inl, inr, append_assoc}
use Rattle.std.specs.Prelude.{Option, Some, None, slice_get, All}
use Rattle.std.specs.List.{slice_split, join_with_byte}
use Rattle.std.specs.Fmt.{decimal}
use Rattle.std.proofs.lemmas.Bool.{false_from_ne_true, eqb-true}
use Rattle.std.proofs.lemmas.Fmt.{digits_decimal, decimal_injective}
use Rattle.std.proofs.lemmas.Str.Parse.{digit_at}
use Rattle.std.proofs.lemmas.List.{append-nil, append_cancel_right, get_or_default}
use Rattle.std.proofs.lemmas.List.Elements.{All-cons, All-append, All-nil}
use Rattle.std.proofs.lemmas.List.Splits.{slice_split_none, slice_split_at}
use Rattle.cut_tree.specs.declared.token.TheConstants.{MAX_CUTS}
use Rattle.cut_measure.specs.declared.sizes.Axis.TheVariants.{X, Y}
use Rattle.cut_tree.specs.declared.token.Token.{Token}
use Rattle.cut_tree.specs.declared.token.Token.TheVariants as token
use Rattle.cut_tree.specs.declared.token.Cause.{Cause}
use Rattle.cut_tree.specs.declared.token.Cause.TheVariants.{BadToken, TooManyCuts, OffUnit, Missing, Extra, NoMemory}
use Rattle.cut_tree.specs.Tree.{Tree, Piece, Rest, Trim, Cut, IsShaped, cut_count}
use Rattle.cut_tree.specs.Spelling.{tokens, token_text, turn_mark, words, IsToken, AllTokens, IsSpelling, cuts_in, SpelledAt, GoesOn, IsNoToken, IsWrong, IsWrongAfter, IsFaultWithin, IsFaultAfter, IsFirstFault}
use Rattle.cut_tree.proofs.PieceWords.{own, unlike, first_byte}
use Rattle.cut_tree.proofs.TreePrefixes.{one_tree, no_end, append-nil', cuts_in-append}
use Rattle.cut_tree.proofs.WholeTexts.{words-some, cuts_in-tokens}

plain_decimal : (n : ℕ) → n < 2 ^ 64 → All (λ b. eqb b 32 ≡ false) (decimal n)
plain_decimal n small k d l =
    let r = digit_at (decimal n) k (digits_decimal own n small) l in
    false_from_ne_true (eqb (get_or (decimal n) k d) 32) (λ e. (
    let same : get_or (decimal n) k d ≡ get_or (decimal n) k 0 = get_or_default (decimal n) k d 0 l in
    let is : get_or (decimal n) k d ≡ 32 = eqb-true (get_or (decimal n) k d) 32 e in omega (arith, r.0)))

plain_mark : (b : Bool) → All (λ c. eqb c 32 ≡ false) (turn_mark b)
plain_mark true = All-cons (λ c. eqb c 32 ≡ false) 116 [] refl (All-nil (λ c. eqb c 32 ≡ false))
plain_mark false = All-nil (λ c. eqb c 32 ≡ false)

-- no token's word has a space
plain_word : (t : Token) → IsToken t → All (λ b. eqb b 32 ≡ false) (token_text t)
plain_word (token.Cut X a) p = All-cons (λ c. eqb c 32 ≡ false) 120 (decimal a) refl (plain_decimal a (omega (arith, p.1)))
plain_word (token.Cut Y a) p = All-cons (λ c. eqb c 32 ≡ false) 121 (decimal a) refl (plain_decimal a (omega (arith, p.1)))
plain_word (token.Piece d b) p = All-cons (λ c. eqb c 32 ≡ false) 112 (decimal d ++ turn_mark b) refl
    (All-append (λ c. eqb c 32 ≡ false) (decimal d) (turn_mark b) (plain_decimal d (omega (arith, p.1))) (plain_mark b))
plain_word token.Rest p = All-cons (λ c. eqb c 32 ≡ false) 114 [] refl (All-nil (λ c. eqb c 32 ≡ false))

words-join : (t : Token) (ts : List Token) → AllTokens (t ∷ ts) → slice_split (λ b. eqb b 32) (join_with_byte 32 (map token_text (t ∷ ts))) ≡ map token_text (t ∷ ts)
words-join t [] p = slice_split_none (λ b. eqb b 32) (token_text t) (plain_word t p.0)
words-join t (u ∷ ts) p =
    slice_split_at (λ b. eqb b 32) (token_text t) 32 (join_with_byte 32 (map token_text (u ∷ ts))) (plain_word t p.0) refl
    ∙ ap (λ l. token_text t ∷ l) (words-join u ts p.1)

some_text : (t : Token) (ts : List Token) → length (join_with_byte 32 (map token_text (t ∷ ts))) ≡ 0 → ⊥
some_text (token.Cut axis a) [] e = omega arith
some_text (token.Piece d b) [] e = omega arith
some_text token.Rest [] e = omega arith
some_text (token.Cut axis a) (u ∷ ts) e = omega arith
some_text (token.Piece d b) (u ∷ ts) e = omega arith
some_text token.Rest (u ∷ ts) e = omega arith

words-text_of : (ts : List Token) → 0 < length ts → AllTokens ts → words (join_with_byte 32 (map token_text ts)) ≡ map token_text ts
words-text_of [] some p = absurd (omega arith)
words-text_of (t ∷ ts) some p = words-some (join_with_byte 32 (map token_text (t ∷ ts))) (some_text t ts) ∙ words-join t ts p

-- one token for a word
pub one_token : (t u : Token) → IsToken t → IsToken u → token_text t ≡ token_text u → t ≡ u
one_token (token.Cut X a) (token.Cut X b) p q same = ap (λ n. token.Cut X n) (decimal_injective a b (omega (arith, p.1)) (omega (arith, q.1)) (cc))
one_token (token.Cut Y a) (token.Cut Y b) p q same = ap (λ n. token.Cut Y n) (decimal_injective a b (omega (arith, p.1)) (omega (arith, q.1)) (cc))
one_token (token.Cut X a) (token.Cut Y b) p q same = absurd (omega (arith, first_byte 120 121 _ _ same))
one_token (token.Cut Y a) (token.Cut X b) p q same = absurd (omega (arith, first_byte 121 120 _ _ same))
one_token (token.Cut X a) (token.Piece d c) p q same = absurd (omega (arith, first_byte 120 112 _ _ same))
one_token (token.Cut Y a) (token.Piece d c) p q same = absurd (omega (arith, first_byte 121 112 _ _ same))
one_token (token.Cut X a) token.Rest p q same = absurd (omega (arith, first_byte 120 114 _ _ same))
one_token (token.Cut Y a) token.Rest p q same = absurd (omega (arith, first_byte 121 114 _ _ same))
one_token (token.Piece d c) (token.Cut X a) p q same = absurd (omega (arith, first_byte 112 120 _ _ same))
one_token (token.Piece d c) (token.Cut Y a) p q same = absurd (omega (arith, first_byte 112 121 _ _ same))
one_token (token.Piece d c) token.Rest p q same = absurd (omega (arith, first_byte 112 114 _ _ same))
one_token token.Rest (token.Cut X a) p q same = absurd (omega (arith, first_byte 114 120 _ _ same))
one_token token.Rest (token.Cut Y a) p q same = absurd (omega (arith, first_byte 114 121 _ _ same))
one_token token.Rest (token.Piece d c) p q same = absurd (omega (arith, first_byte 114 112 _ _ same))
one_token token.Rest token.Rest p q same = refl
one_token (token.Piece d false) (token.Piece e false) p q same =
    let bytes : decimal d ++ [] ≡ decimal e ++ [] = cc in
    ap (λ n. token.Piece n false) (decimal_injective d e (omega (arith, p.1)) (omega (arith, q.1)) (sym (append-nil (decimal d)) ∙ bytes ∙ append-nil (decimal e)))
one_token (token.Piece d true) (token.Piece e true) p q same =
    let bytes : decimal d ++ 116 ∷ [] ≡ decimal e ++ 116 ∷ [] = cc in
    ap (λ n. token.Piece n true) (decimal_injective d e (omega (arith, p.1)) (omega (arith, q.1)) (append_cancel_right (decimal d) (decimal e) (116 ∷ []) bytes))
one_token (token.Piece d false) (token.Piece e true) p q same =
    let bytes : decimal d ++ [] ≡ decimal e ++ 116 ∷ [] = cc in
    absurd (unlike d (decimal e) (omega (arith, p.1)) (sym (append-nil (decimal d)) ∙ bytes))
one_token (token.Piece d true) (token.Piece e false) p q same =
    let bytes : decimal d ++ 116 ∷ [] ≡ decimal e ++ [] = cc in
    absurd (unlike e (decimal d) (omega (arith, q.1)) (sym (append-nil (decimal e)) ∙ sym bytes))

drop_head : {A : Type 0} (ws : List A) (at : ℕ) (x : A) (xs : List A) → drop at ws ≡ x ∷ xs → (slice_get ws at ≡ Some x) × (drop (at + 1) ws ≡ xs)
drop_head [] zero x xs same = absurd (cc)
drop_head [] (suc n) x xs same = absurd (cc)
drop_head (w ∷ ws) zero x xs same = (cc, cc)
drop_head (w ∷ ws) (suc n) x xs same =
    let e : suc n + 1 ≡ suc (n + 1) = omega arith in
    let r : (slice_get ws n ≡ Some x) × (drop (n + 1) ws ≡ xs) = drop_head ws n x xs same in
    (r.0, ap (λ m. drop m (w ∷ ws)) e ∙ r.1)

drop_none : {A : Type 0} (ws : List A) (at : ℕ) → drop at ws ≡ [] → slice_get ws at ≡ None
drop_none [] at same = refl
drop_none (w ∷ ws) zero same = absurd (cc)
drop_none (w ∷ ws) (suc n) same = drop_none ws n same

-- what words of tokens spell begins the tokens
agree : (ws : List (List ℕ)) (at : ℕ) (ts prefix : List Token) → drop at ws ≡ map token_text ts → AllTokens ts → SpelledAt ws at prefix →
    (rest : List Token) × (ts ≡ prefix ++ rest) × AllTokens rest × (drop (at + length prefix) ws ≡ map token_text rest)
agree ws at ts [] here all p = let e : at + 0 ≡ at = omega arith in (ts, refl, all, ap (λ n. drop n ws) e ∙ here)
agree ws at [] (f ∷ fs) here all p = absurd (let n : slice_get ws at ≡ None = drop_none ws at here in let s : slice_get ws at ≡ Some (token_text f) = p.0 in cc)
agree ws at (t ∷ ts) (f ∷ fs) here all p =
    let h : (slice_get ws at ≡ Some (token_text t)) × (drop (at + 1) ws ≡ map token_text ts) = drop_head ws at (token_text t) (map token_text ts) here in
    let s : slice_get ws at ≡ Some (token_text f) = p.0 in let h0 : slice_get ws at ≡ Some (token_text t) = h.0 in
    let same : t ≡ f = one_token t f all.0 p.1 (cc) in
    let more = agree ws (at + 1) ts fs h.1 all.1 p.2 in
    let split : ts ≡ fs ++ more.0 = more.1 in
    let e : at + suc (length fs) ≡ at + 1 + length fs = omega arith in
    (more.0, cc, more.2, ap (λ n. drop n ws) e ∙ more.3)

module _ (t : Tree) (w h k : ℕ) (shaped : IsShaped t w h k) (few : cut_count t ≤ MAX_CUTS) where
  -- the tree ends where the prefix does, or the next word is the tree's next token
  at_end : (prefix : List Token) → tokens t ≡ prefix ++ [] → GoesOn prefix w h k → ⊥
  at_end prefix same g =
      let u : Tree = g.0 in let text : tokens u ≡ prefix ++ g.1 ∷ g.2 = g.4 in
      no_end [] g.1 g.2 (one_tree t u w h k (g.1 ∷ g.2) [] shaped g.3
      (ap (λ l. l ++ g.1 ∷ g.2) (same ∙ append-nil prefix) ∙ sym text ∙ append-nil' (tokens u))).1

  at_token : (cause : Cause) (prefix : List Token) (c : Token) (cs : List Token) (word : Option (List ℕ)) → tokens t ≡ prefix ++ c ∷ cs → IsToken c → word ≡ Some (token_text c) →
      IsWrong cause prefix word 0 w h k → ⊥
  at_token BadToken prefix c cs word same p is wrong = (let no : IsNoToken (Some (token_text c)) = subst IsNoToken is wrong in no c p refl)
  at_token TooManyCuts prefix c cs word same p is wrong =
      let i : word ≡ Some (token_text (token.Cut wrong.0 wrong.1)) = wrong.2.0 in
      let cut : c ≡ token.Cut wrong.0 wrong.1 = one_token c (token.Cut wrong.0 wrong.1) p wrong.2.1 (cc) in
      let full : 0 + cuts_in prefix ≡ MAX_CUTS = wrong.3 in
      let count : cuts_in (tokens t) ≡ cuts_in prefix + cuts_in (token.Cut wrong.0 wrong.1 ∷ cs) =
      ap cuts_in (same ∙ ap (λ v. prefix ++ v ∷ cs) cut) ∙ cuts_in-append prefix (token.Cut wrong.0 wrong.1 ∷ cs) in
      omega (arith, count, full, cuts_in-tokens t)
  at_token OffUnit prefix c cs word same p is wrong =
      let i : word ≡ Some (token_text (token.Cut wrong.0 wrong.1)) = wrong.2.0 in
      let cut : c ≡ token.Cut wrong.0 wrong.1 = one_token c (token.Cut wrong.0 wrong.1) p wrong.2.1 (cc) in
      wrong.3 (t, cs, shaped, same ∙ ap (λ v. prefix ++ v ∷ cs) cut ∙ sym (append_assoc prefix (token.Cut wrong.0 wrong.1 ∷ []) cs))
  at_token Missing prefix c cs word same p is wrong = cc
  at_token Extra prefix c cs word same p is wrong = wrong
  at_token NoMemory prefix c cs word same p is wrong = wrong

  at_rest : (ws : List (List ℕ)) (cause : Cause) (prefix rest : List Token) (n : ℕ) → tokens t ≡ prefix ++ rest → AllTokens rest → drop n ws ≡ map token_text rest →
      GoesOn prefix w h k → IsWrong cause prefix (slice_get ws n) 0 w h k → ⊥
  at_rest ws cause prefix [] n same all here g wrong = at_end prefix same g
  at_rest ws cause prefix (c ∷ cs) n same all here g wrong =
      at_token cause prefix c cs (slice_get ws n) same all.0 (drop_head ws n (token_text c) (map token_text cs) here).0 wrong

  not_stopped : (ws : List (List ℕ)) (n : ℕ) (cause : Cause) → ws ≡ map token_text (tokens t) → AllTokens (tokens t) → IsFaultWithin ws 0 0 w h k n cause → ⊥
  not_stopped ws n cause here all s =
      let a = agree ws 0 (tokens t) s.prefix here all s.spelled in
      at_rest ws cause s.prefix a.0 n a.1 a.2 (subst (λ (m : ℕ). drop m ws ≡ map token_text a.0) s.place a.3) s.goes_on s.wrong

  nothing_after : (cause : Cause) (word : Option (List ℕ)) → word ≡ None → IsWrongAfter cause word → ⊥
  nothing_after BadToken word is wrong = (let no : IsNoToken None = subst IsNoToken is wrong in no)
  nothing_after Extra word is wrong = (let s : word ≡ Some (token_text wrong.0) = wrong.2 in cc)
  nothing_after TooManyCuts word is wrong = wrong
  nothing_after OffUnit word is wrong = wrong
  nothing_after Missing word is wrong = wrong
  nothing_after NoMemory word is wrong = wrong

  not_after : (ws : List (List ℕ)) (n : ℕ) (cause : Cause) → ws ≡ map token_text (tokens t) → AllTokens (tokens t) → IsFaultAfter ws w h k n cause → ⊥
  not_after ws n cause here all s =
      let a = agree ws 0 (tokens t) s.prefix here all s.spelled in
      let u : Tree = s.whole.0 in let text : tokens u ≡ s.prefix = s.whole.2 in
      let body : tokens t ≡ s.prefix ++ a.0 = a.1 in
      let none : [] ≡ a.0 = (one_tree t u w h k [] a.0 shaped s.whole.1 (append-nil (tokens t) ∙ body ∙ ap (λ l. l ++ a.0) (sym text))).1 in
      let place : 0 + length s.prefix ≡ n = omega (arith, s.place) in
      let end : drop n ws ≡ [] = subst (λ (m : ℕ). drop m ws ≡ map token_text a.0) place a.3 ∙ ap (map token_text) (sym none) in
      nothing_after cause (slice_get ws n) (drop_none ws n end) s.wrong

some_token : (t : Tree) → 0 < length (tokens t)
some_token (Piece d b) = omega arith
some_token Rest = omega arith
some_token (Trim axis a f) = omega arith
some_token (Cut axis a f s) = omega arith

spelled_words : (text : List ℕ) (t : Tree) (w h k : ℕ) → IsSpelling text t w h k → words text ≡ map token_text (tokens t)
spelled_words text t w h k s = ap words s.text_is ∙ words-text_of (tokens t) (some_token t) s.numbers

-- a text that spells a tree has no fault but want of memory
pub faultless : (text : List ℕ) (t : Tree) (w h k n : ℕ) (cause : Cause) → IsSpelling text t w h k → cut_count t ≤ MAX_CUTS → IsFirstFault text w h k n cause → cause ≡ NoMemory
faultless text t w h k n cause s few (inl p) = p.1
faultless text t w h k n cause s few (inr (inl p)) = absurd (not_stopped t w h k s.shaped few (words text) n cause (spelled_words text t w h k s) s.numbers p)
faultless text t w h k n cause s few (inr (inr p)) = absurd (not_after t w h k s.shaped few (words text) n cause (spelled_words text t w h k s) s.numbers p)

same_tokens : (ts us : List Token) → AllTokens ts → AllTokens us → map token_text ts ≡ map token_text us → ts ≡ us
same_tokens [] [] p q same = refl
same_tokens [] (u ∷ us) p q same = absurd (cc)
same_tokens (t ∷ ts) [] p q same = absurd (cc)
same_tokens (t ∷ ts) (u ∷ us) p q same =
    let head : t ≡ u = one_token t u p.0 q.0 (cc) in let tail : ts ≡ us = same_tokens ts us p.1 q.1 (cc) in cc

-- a text spells one tree at most
pub one_spelled : (text : List ℕ) (t u : Tree) (w h k : ℕ) → IsSpelling text t w h k → IsSpelling text u w h k → t ≡ u
one_spelled text t u w h k p q =
    (one_tree t u w h k [] [] p.shaped q.shaped
    (ap (λ l. l ++ []) (same_tokens (tokens t) (tokens u) p.numbers q.numbers (sym (spelled_words text t w h k p) ∙ spelled_words text u w h k q)))).0

pub spelled_numbers : (ws : List (List ℕ)) (at : ℕ) (ts : List Token) → SpelledAt ws at ts → AllTokens ts
spelled_numbers ws at [] p = tt
spelled_numbers ws at (t ∷ ts) p = (p.1, spelled_numbers ws (at + 1) ts p.2)
