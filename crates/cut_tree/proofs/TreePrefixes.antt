-- Fronts of trees: where a fault of a part is one of the whole.
use Rattle.std.proofs.Common.{◌≡◌, ℕ, suc, ◌+◌, ◌-◌, ◌<◌, ◌≤◌, List, [], ◌∷◌, ◌++◌, length, refl, ap, subst, sym, ◌∙◌, arith, ◌⊎◌, inl, inr, append_assoc, Option, Some}
use Rattle.std.specs.Prelude.{slice_get}
use Rattle.std.proofs.lemmas.List.{append-nil, length-append}
use Rattle.std.proofs.lemmas.Bool.{cases_lt}
use Rattle.cut_tree.specs.declared.token.TheConstants.{MAX_CUTS}
use Rattle.cut_measure.specs.declared.sizes.Axis.{Axis}
use Rattle.cut_measure.specs.declared.sizes.Axis.TheVariants.{X, Y}
use Rattle.cut_tree.specs.declared.token.Token.{Token}
use Rattle.cut_tree.specs.declared.token.Token.TheVariants as token
use Rattle.cut_tree.specs.declared.token.Cause.{Cause}
use Rattle.cut_tree.specs.declared.token.Cause.TheVariants.{BadToken, TooManyCuts, OffUnit, Missing, Extra, NoMemory}
use Rattle.cut_tree.specs.Tree.{Tree, Piece, Rest, Trim, Cut, IsShaped}
use Rattle.cut_tree.specs.Spelling.{tokens, token_text, IsToken, cuts_in, IsPrefix, GoesOn, SpelledAt, IsWrong, IsFaultWithin}

-- No tree's tokens begin those of another tree on the same sides.
pub one_tree : (t u : Tree) (w h k : ℕ) (xs ys : List Token) → IsShaped t w h k → IsShaped u w h k → tokens t ++ xs ≡ tokens u ++ ys → (t ≡ u) × (xs ≡ ys)
one_tree (Piece d b) (Piece e c) w h k xs ys p q same = (cc, cc)
one_tree (Piece d b) Rest w h k xs ys p q same = absurd (cc)
one_tree (Piece d b) (Trim ax a f) w h k xs ys p q same = absurd (cc)
one_tree (Piece d b) (Cut ax a f s) w h k xs ys p q same = absurd (cc)
one_tree Rest (Piece e c) w h k xs ys p q same = absurd (cc)
one_tree Rest Rest w h k xs ys p q same = (refl, cc)
one_tree Rest (Trim ax a f) w h k xs ys p q same = absurd (cc)
one_tree Rest (Cut ax a f s) w h k xs ys p q same = absurd (cc)
one_tree (Trim ax a f) (Piece e c) w h k xs ys p q same = absurd (cc)
one_tree (Trim ax a f) Rest w h k xs ys p q same = absurd (cc)
one_tree (Cut ax a f s) (Piece e c) w h k xs ys p q same = absurd (cc)
one_tree (Cut ax a f s) Rest w h k xs ys p q same = absurd (cc)
one_tree (Trim X a f) (Trim Y b g) w h k xs ys p q same = absurd (cc)
one_tree (Trim Y a f) (Trim X b g) w h k xs ys p q same = absurd (cc)
one_tree (Trim X a f) (Cut Y b g s) w h k xs ys p q same = absurd (cc)
one_tree (Trim Y a f) (Cut X b g s) w h k xs ys p q same = absurd (cc)
one_tree (Cut X a f s) (Trim Y b g) w h k xs ys p q same = absurd (cc)
one_tree (Cut Y a f s) (Trim X b g) w h k xs ys p q same = absurd (cc)
one_tree (Cut X a f s) (Cut Y b g r) w h k xs ys p q same = absurd (cc)
one_tree (Cut Y a f s) (Cut X b g r) w h k xs ys p q same = absurd (cc)
one_tree (Trim X a f) (Cut X b g s) w h k xs ys p q same =
    let e : a ≡ b = cc in let l : w ≤ a + k = p.2 in let r : b + k < w = q.1 in absurd (omega arith)
one_tree (Trim Y a f) (Cut Y b g s) w h k xs ys p q same =
    let e : a ≡ b = cc in let l : h ≤ a + k = p.2 in let r : b + k < h = q.1 in absurd (omega arith)
one_tree (Cut X a f s) (Trim X b g) w h k xs ys p q same =
    let e : a ≡ b = cc in let l : w ≤ b + k = q.2 in let r : a + k < w = p.1 in absurd (omega arith)
one_tree (Cut Y a f s) (Trim Y b g) w h k xs ys p q same =
    let e : a ≡ b = cc in let l : h ≤ b + k = q.2 in let r : a + k < h = p.1 in absurd (omega arith)
one_tree (Trim X a f) (Trim X b g) w h k xs ys p q same =
    let e : a ≡ b = cc in
    let i : (f ≡ g) × (xs ≡ ys) = one_tree f g a h k xs ys p.3 (subst (λ (n : ℕ). IsShaped g n h k) (sym e) q.3) (cc) in
    let i0 : f ≡ g = i.0 in (cc, i.1)
one_tree (Trim Y a f) (Trim Y b g) w h k xs ys p q same =
    let e : a ≡ b = cc in
    let i : (f ≡ g) × (xs ≡ ys) = one_tree f g w a k xs ys p.3 (subst (λ (n : ℕ). IsShaped g w n k) (sym e) q.3) (cc) in
    let i0 : f ≡ g = i.0 in (cc, i.1)
one_tree (Cut X a f s) (Cut X b g r) w h k xs ys p q same =
    let e : a ≡ b = cc in
    let flat : tokens f ++ (tokens s ++ xs) ≡ tokens g ++ (tokens r ++ ys) = sym (append_assoc (tokens f) (tokens s) xs) ∙ (cc) ∙ append_assoc (tokens g) (tokens r) ys in
    let i : (f ≡ g) × (tokens s ++ xs ≡ tokens r ++ ys) = one_tree f g a h k (tokens s ++ xs) (tokens r ++ ys) p.2 (subst (λ (n : ℕ). IsShaped g n h k) (sym e) q.2) flat in
    let j : (s ≡ r) × (xs ≡ ys) = one_tree s r (w - a - k) h k xs ys p.3 (subst (λ (n : ℕ). IsShaped r (w - n - k) h k) (sym e) q.3) i.1 in
    let i0 : f ≡ g = i.0 in let j0 : s ≡ r = j.0 in (cc, j.1)
one_tree (Cut Y a f s) (Cut Y b g r) w h k xs ys p q same =
    let e : a ≡ b = cc in
    let flat : tokens f ++ (tokens s ++ xs) ≡ tokens g ++ (tokens r ++ ys) = sym (append_assoc (tokens f) (tokens s) xs) ∙ (cc) ∙ append_assoc (tokens g) (tokens r) ys in
    let i : (f ≡ g) × (tokens s ++ xs ≡ tokens r ++ ys) = one_tree f g w a k (tokens s ++ xs) (tokens r ++ ys) p.2 (subst (λ (n : ℕ). IsShaped g w n k) (sym e) q.2) flat in
    let j : (s ≡ r) × (xs ≡ ys) = one_tree s r w (h - a - k) k xs ys p.3 (subst (λ (n : ℕ). IsShaped r w (h - n - k) k) (sym e) q.3) i.1 in
    let i0 : f ≡ g = i.0 in let j0 : s ≡ r = j.0 in (cc, j.1)

-- of two prefixes of one list, one begins the other
pub compare : (xs zs ys us : List Token) → xs ++ ys ≡ zs ++ us → ((e : List Token) × (xs ≡ zs ++ e) × (e ++ ys ≡ us)) ⊎ ((e : List Token) × (zs ≡ xs ++ e))
compare [] zs ys us same = inr (zs, refl)
compare (x ∷ xs) [] ys us same = inl (x ∷ xs, refl, same)
compare (x ∷ xs) (z ∷ zs) ys us same =
    let head : x ≡ z = cc in
    elim (compare xs zs ys us (cc)) [
      | inl p ↦ (let q : xs ≡ zs ++ p.0 = p.1 in inl (p.0, cc, p.2))
      | inr p ↦ (let q : zs ≡ xs ++ p.0 = p.1 in inr (p.0, cc))
    ]

pub SpelledAt-append : (ws : List (List ℕ)) (at : ℕ) (ts us : List Token) → SpelledAt ws at ts → SpelledAt ws (at + length ts) us → SpelledAt ws at (ts ++ us)
SpelledAt-append ws at [] us p q = let e : at + 0 ≡ at = omega arith in subst (λ (n : ℕ). SpelledAt ws n us) e q
SpelledAt-append ws at (t ∷ ts) us p q =
    let e : at + suc (length ts) ≡ at + 1 + length ts = omega arith in
    (p.0, p.1, SpelledAt-append ws (at + 1) ts us p.2 (subst (λ (n : ℕ). SpelledAt ws n us) e q))

pub cuts_in-append : (ts us : List Token) → cuts_in (ts ++ us) ≡ cuts_in ts + cuts_in us
cuts_in-append [] us = omega arith
cuts_in-append (token.Cut axis a ∷ ts) us = omega (arith, cuts_in-append ts us)
cuts_in-append (token.Piece d b ∷ ts) us = cuts_in-append ts us
cuts_in-append (token.Rest ∷ ts) us = cuts_in-append ts us

pub append-nil' : (xs : List Token) → xs ≡ xs ++ []
append-nil' xs = sym (append-nil xs)

pub no_end : (xs : List Token) (y : Token) (ys : List Token) → xs ++ y ∷ ys ≡ [] → ⊥
no_end [] y ys same = cc
no_end (x ∷ xs) y ys same = cc

-- a prefix goes on in a tree, but not with this token: then no tree's tokens and more begin with the prefix and the token
module _ (w h k : ℕ) (prefix : List Token) (c : Token) (g : GoesOn prefix w h k) (off : IsPrefix (prefix ++ c ∷ []) w h k → ⊥) where
  shorter : (f : Tree) → IsShaped f w h k → (e : List Token) → prefix ≡ tokens f ++ e → ⊥
  shorter f f_shaped e q =
      let t : Tree = g.0 in let text : tokens t ≡ prefix ++ g.1 ∷ g.2 = g.4 in
      let same : tokens f ++ (e ++ g.1 ∷ g.2) ≡ tokens t ++ [] =
      sym (append_assoc (tokens f) e (g.1 ∷ g.2)) ∙ ap (λ l. l ++ g.1 ∷ g.2) (sym q) ∙ sym text ∙ append-nil' (tokens t) in
      no_end e g.1 g.2 (one_tree f t w h k (e ++ g.1 ∷ g.2) [] f_shaped g.3 same).1

  longer : (f : Tree) (rest more : List Token) → IsShaped f w h k → (e : List Token) → tokens f ≡ prefix ++ e → e ++ rest ≡ c ∷ more → ⊥
  longer f rest more f_shaped [] q r = shorter f f_shaped [] (sym (q ∙ append-nil prefix) ∙ append-nil' (tokens f))
  longer f rest more f_shaped (e ∷ es) q r =
      let same : e ≡ c = cc in
      off (f, es, f_shaped, q ∙ ap (λ v. prefix ++ v ∷ es) same ∙ sym (append_assoc prefix (c ∷ []) es))

  pub part_off : (f : Tree) (rest more : List Token) → IsShaped f w h k → tokens f ++ rest ≡ (prefix ++ c ∷ []) ++ more → ⊥
  part_off f rest more f_shaped body =
      elim (compare (tokens f) prefix rest (c ∷ more) (body ∙ append_assoc prefix (c ∷ []) more)) [
        | inl p ↦ longer f rest more f_shaped p.0 p.1 p.2
        | inr p ↦ shorter f f_shaped p.0 p.1
      ]

-- A cut along X and its parts.
module _ (w h k a : ℕ) where
  on_x : (prefix : List Token) → 1 ≤ a → a < w → GoesOn prefix a h k → GoesOn (token.Cut X a ∷ prefix) w h k
  on_x prefix ap_ fits g =
      let t : Tree = g.0 in let shaped : IsShaped t a h k = g.3 in let text : tokens t ≡ prefix ++ g.1 ∷ g.2 = g.4 in
      elim (cases_lt (a + k) w) [
        | inl lt ↦ (
          Cut X a t Rest,
          g.1,
          g.2 ++ (token.Rest ∷ []),
          (ap_, lt, shaped, tt),
          ap (λ l. token.Cut X a ∷ (l ++ (token.Rest ∷ []))) text ∙ ap (λ l. token.Cut X a ∷ l) (append_assoc prefix (g.1 ∷ g.2) (token.Rest ∷ [])),
        )
        | inr ge ↦ (Trim X a t, g.1, g.2, (ap_, fits, ge, shaped), ap (λ l. token.Cut X a ∷ l) text)
      ]

  -- a prefix that goes on in the first part, but not with this token, doesn't go on with it in the whole
  off_first_x : (prefix : List Token) (c : Token) → GoesOn prefix a h k → (IsPrefix (prefix ++ c ∷ []) a h k → ⊥) →
      (t : Tree) (more : List Token) → IsShaped t w h k → tokens t ≡ (token.Cut X a ∷ (prefix ++ c ∷ [])) ++ more → ⊥
  off_first_x prefix c g off (Piece d b) more shaped text = cc
  off_first_x prefix c g off Rest more shaped text = cc
  off_first_x prefix c g off (Trim Y b f) more shaped text = cc
  off_first_x prefix c g off (Cut Y b f s) more shaped text = cc
  off_first_x prefix c g off (Trim X b f) more shaped text =
      let e : b ≡ a = cc in
      off (f, more, subst (λ (n : ℕ). IsShaped f n h k) e shaped.3, cc)
  off_first_x prefix c g off (Cut X b f s) more shaped text =
      let e : b ≡ a = cc in
      part_off a h k prefix c g off f (tokens s) more (subst (λ (n : ℕ). IsShaped f n h k) e shaped.2) (cc)

  on_second_x : (first : Tree) (prefix : List Token) → 1 ≤ a → a + k < w → IsShaped first a h k → GoesOn prefix (w - a - k) h k → GoesOn (token.Cut X a ∷ (tokens first ++ prefix)) w h k
  on_second_x first prefix ap_ fits shaped g =
      let t : Tree = g.0 in let t_shaped : IsShaped t (w - a - k) h k = g.3 in let text : tokens t ≡ prefix ++ g.1 ∷ g.2 = g.4 in (
        Cut X a first t,
        g.1,
        g.2,
        (ap_, fits, shaped, t_shaped),
        ap (λ l. token.Cut X a ∷ (tokens first ++ l)) text ∙ ap (λ l. token.Cut X a ∷ l) (sym (append_assoc (tokens first) prefix (g.1 ∷ g.2))),
      )

  off_second_x : (first : Tree) (prefix : List Token) (c : Token) → a + k < w → IsShaped first a h k → (IsPrefix (prefix ++ c ∷ []) (w - a - k) h k → ⊥) →
      (t : Tree) (more : List Token) → IsShaped t w h k → tokens t ≡ (token.Cut X a ∷ ((tokens first ++ prefix) ++ c ∷ [])) ++ more → ⊥
  off_second_x first prefix c fits fp off (Piece d b) more shaped text = cc
  off_second_x first prefix c fits fp off Rest more shaped text = cc
  off_second_x first prefix c fits fp off (Trim Y b f) more shaped text = cc
  off_second_x first prefix c fits fp off (Cut Y b f s) more shaped text = cc
  off_second_x first prefix c fits fp off (Trim X b f) more shaped text =
      let e : b ≡ a = cc in let l : w ≤ b + k = shaped.2 in omega arith
  off_second_x first prefix c fits fp off (Cut X b f s) more shaped text =
      let e : b ≡ a = cc in
      let body : tokens f ++ tokens s ≡ ((tokens first ++ prefix) ++ c ∷ []) ++ more = cc in
      let rest : (f ≡ first) × (tokens s ≡ (prefix ++ c ∷ []) ++ more) =
      one_tree f first a h k (tokens s) ((prefix ++ c ∷ []) ++ more) (subst (λ (n : ℕ). IsShaped f n h k) e shaped.2) fp
      (body ∙ simp append_assoc) in
      off (s, more, subst (λ (n : ℕ). IsShaped s (w - n - k) h k) e shaped.3, rest.1)

-- A cut along Y and its parts.
module _ (w h k a : ℕ) where
  on_y : (prefix : List Token) → 1 ≤ a → a < h → GoesOn prefix w a k → GoesOn (token.Cut Y a ∷ prefix) w h k
  on_y prefix ap_ fits g =
      let t : Tree = g.0 in let shaped : IsShaped t w a k = g.3 in let text : tokens t ≡ prefix ++ g.1 ∷ g.2 = g.4 in
      elim (cases_lt (a + k) h) [
        | inl lt ↦ (
          Cut Y a t Rest,
          g.1,
          g.2 ++ (token.Rest ∷ []),
          (ap_, lt, shaped, tt),
          ap (λ l. token.Cut Y a ∷ (l ++ (token.Rest ∷ []))) text ∙ ap (λ l. token.Cut Y a ∷ l) (append_assoc prefix (g.1 ∷ g.2) (token.Rest ∷ [])),
        )
        | inr ge ↦ (Trim Y a t, g.1, g.2, (ap_, fits, ge, shaped), ap (λ l. token.Cut Y a ∷ l) text)
      ]

  -- a prefix that goes on in the first part, but not with this token, doesn't go on with it in the whole
  off_first_y : (prefix : List Token) (c : Token) → GoesOn prefix w a k → (IsPrefix (prefix ++ c ∷ []) w a k → ⊥) →
      (t : Tree) (more : List Token) → IsShaped t w h k → tokens t ≡ (token.Cut Y a ∷ (prefix ++ c ∷ [])) ++ more → ⊥
  off_first_y prefix c g off (Piece d b) more shaped text = cc
  off_first_y prefix c g off Rest more shaped text = cc
  off_first_y prefix c g off (Trim X b f) more shaped text = cc
  off_first_y prefix c g off (Cut X b f s) more shaped text = cc
  off_first_y prefix c g off (Trim Y b f) more shaped text =
      let e : b ≡ a = cc in
      off (f, more, subst (λ (n : ℕ). IsShaped f w n k) e shaped.3, cc)
  off_first_y prefix c g off (Cut Y b f s) more shaped text =
      let e : b ≡ a = cc in
      part_off w a k prefix c g off f (tokens s) more (subst (λ (n : ℕ). IsShaped f w n k) e shaped.2) (cc)

  on_second_y : (first : Tree) (prefix : List Token) → 1 ≤ a → a + k < h → IsShaped first w a k → GoesOn prefix w (h - a - k) k → GoesOn (token.Cut Y a ∷ (tokens first ++ prefix)) w h k
  on_second_y first prefix ap_ fits shaped g =
      let t : Tree = g.0 in let t_shaped : IsShaped t w (h - a - k) k = g.3 in let text : tokens t ≡ prefix ++ g.1 ∷ g.2 = g.4 in (
        Cut Y a first t,
        g.1,
        g.2,
        (ap_, fits, shaped, t_shaped),
        ap (λ l. token.Cut Y a ∷ (tokens first ++ l)) text ∙ ap (λ l. token.Cut Y a ∷ l) (sym (append_assoc (tokens first) prefix (g.1 ∷ g.2))),
      )

  off_second_y : (first : Tree) (prefix : List Token) (c : Token) → a + k < h → IsShaped first w a k → (IsPrefix (prefix ++ c ∷ []) w (h - a - k) k → ⊥) →
      (t : Tree) (more : List Token) → IsShaped t w h k → tokens t ≡ (token.Cut Y a ∷ ((tokens first ++ prefix) ++ c ∷ [])) ++ more → ⊥
  off_second_y first prefix c fits fp off (Piece d b) more shaped text = cc
  off_second_y first prefix c fits fp off Rest more shaped text = cc
  off_second_y first prefix c fits fp off (Trim X b f) more shaped text = cc
  off_second_y first prefix c fits fp off (Cut X b f s) more shaped text = cc
  off_second_y first prefix c fits fp off (Trim Y b f) more shaped text =
      let e : b ≡ a = cc in let l : h ≤ b + k = shaped.2 in omega arith
  off_second_y first prefix c fits fp off (Cut Y b f s) more shaped text =
      let e : b ≡ a = cc in
      let body : tokens f ++ tokens s ≡ ((tokens first ++ prefix) ++ c ∷ []) ++ more = cc in
      let rest : (f ≡ first) × (tokens s ≡ (prefix ++ c ∷ []) ++ more) =
      one_tree f first w a k (tokens s) ((prefix ++ c ∷ []) ++ more) (subst (λ (n : ℕ). IsShaped f w n k) e shaped.2) fp
      (body ∙ simp append_assoc) in
      off (s, more, subst (λ (n : ℕ). IsShaped s w (h - n - k) k) e shaped.3, rest.1)

abbrev cut_at : Axis → ℕ → Token
cut_at axis a = token.Cut axis a

no_tree_x : (w h k a : ℕ) → w ≤ a → (t : Tree) (more : List Token) → IsShaped t w h k → tokens t ≡ token.Cut X a ∷ more → ⊥
no_tree_x w h k a out (Piece d b) more shaped text = cc
no_tree_x w h k a out Rest more shaped text = cc
no_tree_x w h k a out (Trim Y b f) more shaped text = cc
no_tree_x w h k a out (Cut Y b f s) more shaped text = cc
no_tree_x w h k a out (Trim X b f) more shaped text = let e : b ≡ a = cc in let l : b < w = shaped.1 in omega arith
no_tree_x w h k a out (Cut X b f s) more shaped text = let e : b ≡ a = cc in let l : b + k < w = shaped.1 in omega arith

no_tree_y : (w h k a : ℕ) → h ≤ a → (t : Tree) (more : List Token) → IsShaped t w h k → tokens t ≡ token.Cut Y a ∷ more → ⊥
no_tree_y w h k a out (Piece d b) more shaped text = cc
no_tree_y w h k a out Rest more shaped text = cc
no_tree_y w h k a out (Trim X b f) more shaped text = cc
no_tree_y w h k a out (Cut X b f s) more shaped text = cc
no_tree_y w h k a out (Trim Y b f) more shaped text = let e : b ≡ a = cc in let l : b < h = shaped.1 in omega arith
no_tree_y w h k a out (Cut Y b f s) more shaped text = let e : b ≡ a = cc in let l : b + k < h = shaped.1 in omega arith

-- A fault in a part of a cut along X is one of the whole.
module _ (w h k a : ℕ) (word : Option (List ℕ)) (cuts : ℕ) where
  wrong_first_x : (cause : Cause) (prefix : List Token) → GoesOn prefix a h k → IsWrong cause prefix word (cuts + 1) a h k → IsWrong cause (token.Cut X a ∷ prefix) word cuts w h k
  wrong_first_x BadToken prefix g p = p
  wrong_first_x TooManyCuts prefix g p = (p.0, p.1, p.2, (let e : cuts + 1 + cuts_in prefix ≡ MAX_CUTS = p.3 in omega arith))
  wrong_first_x OffUnit prefix g p = (p.0, p.1, p.2, (λ f. off_first_x w h k a prefix (token.Cut p.0 p.1) g p.3 f.0 f.1 f.2 f.3), (let e : cuts + 1 + cuts_in prefix < MAX_CUTS = p.4 in omega arith))
  wrong_first_x Missing prefix g p = p
  wrong_first_x Extra prefix g p = p
  wrong_first_x NoMemory prefix g p = p

  wrong_second_x : (cause : Cause) (first : Tree) (prefix : List Token) → a + k < w → IsShaped first a h k → IsWrong cause prefix word (cuts + 1 + cuts_in (tokens first)) (w - a - k) h k → IsWrong cause (token.Cut X a ∷ (tokens first ++ prefix)) word cuts w h k
  wrong_second_x BadToken first prefix fits fp p = p
  wrong_second_x TooManyCuts first prefix fits fp p = (p.0, p.1, p.2, (let e : cuts + 1 + cuts_in (tokens first) + cuts_in prefix ≡ MAX_CUTS = p.3 in omega (arith, cuts_in-append (tokens first) prefix)))
  wrong_second_x OffUnit first prefix fits fp p = (p.0, p.1, p.2, (λ f. off_second_x w h k a first prefix (token.Cut p.0 p.1) fits fp p.3 f.0 f.1 f.2 f.3), (let e : cuts + 1 + cuts_in (tokens first) + cuts_in prefix < MAX_CUTS = p.4 in omega (arith, cuts_in-append (tokens first) prefix)))
  wrong_second_x Missing first prefix fits fp p = p
  wrong_second_x Extra first prefix fits fp p = p
  wrong_second_x NoMemory first prefix fits fp p = p

module _ (ws : List (List ℕ)) (at cuts w h k a n : ℕ) (cause : Cause) (got : slice_get ws at ≡ Some (token_text (token.Cut X a))) (is_token : IsToken (token.Cut X a)) where
  pub first_stops_x : a < w → IsFaultWithin ws (at + 1) (cuts + 1) a h k n cause → IsFaultWithin ws at cuts w h k n cause
  first_stops_x fits s = record {
    prefix = token.Cut X a ∷ s.prefix;
    place = (let e : at + 1 + length s.prefix ≡ n = s.place in omega arith);
    spelled = (got, is_token, s.spelled);
    goes_on = on_x w h k a s.prefix is_token.0 fits s.goes_on;
    few_cuts = (let e : cuts + 1 + cuts_in s.prefix ≤ MAX_CUTS = s.few_cuts in omega arith);
    wrong = wrong_first_x w h k a (slice_get ws n) cuts cause s.prefix s.goes_on s.wrong;
  }

  pub second_stops_x : (first : Tree) → a + k < w → IsShaped first a h k → SpelledAt ws (at + 1) (tokens first) →
      IsFaultWithin ws (at + 1 + length (tokens first)) (cuts + 1 + cuts_in (tokens first)) (w - a - k) h k n cause → IsFaultWithin ws at cuts w h k n cause
  second_stops_x first fits shaped spelled s = record {
    prefix = token.Cut X a ∷ (tokens first ++ s.prefix);
    place = (let e : at + 1 + length (tokens first) + length s.prefix ≡ n = s.place in omega (arith, length-append (tokens first) s.prefix));
    spelled = (got, is_token, SpelledAt-append ws (at + 1) (tokens first) s.prefix spelled s.spelled);
    goes_on = on_second_x w h k a first s.prefix is_token.0 fits shaped s.goes_on;
    few_cuts = (let e : cuts + 1 + cuts_in (tokens first) + cuts_in s.prefix ≤ MAX_CUTS = s.few_cuts in omega (arith, cuts_in-append (tokens first) s.prefix));
    wrong = wrong_second_x w h k a (slice_get ws n) cuts cause first s.prefix fits shaped s.wrong;
  }

  -- a cut that isn't inside its rectangle
  pub off_x : w ≤ a → cuts < MAX_CUTS → n ≡ at → IsFaultWithin ws at cuts w h k n OffUnit
  off_x out few here = record {
    prefix = [];
    place = omega arith;
    spelled = tt;
    goes_on = (Rest, token.Rest, [], tt, refl);
    few_cuts = omega arith;
    wrong = (X, a, (subst (λ (m : ℕ). slice_get ws m ≡ Some (token_text (token.Cut X a))) (sym here) got, is_token), (λ f. no_tree_x w h k a out f.0 f.1 f.2 f.3), omega arith);
  }

-- A fault in a part of a cut along Y is one of the whole.
module _ (w h k a : ℕ) (word : Option (List ℕ)) (cuts : ℕ) where
  wrong_first_y : (cause : Cause) (prefix : List Token) → GoesOn prefix w a k → IsWrong cause prefix word (cuts + 1) w a k → IsWrong cause (token.Cut Y a ∷ prefix) word cuts w h k
  wrong_first_y BadToken prefix g p = p
  wrong_first_y TooManyCuts prefix g p = (p.0, p.1, p.2, (let e : cuts + 1 + cuts_in prefix ≡ MAX_CUTS = p.3 in omega arith))
  wrong_first_y OffUnit prefix g p = (p.0, p.1, p.2, (λ f. off_first_y w h k a prefix (token.Cut p.0 p.1) g p.3 f.0 f.1 f.2 f.3), (let e : cuts + 1 + cuts_in prefix < MAX_CUTS = p.4 in omega arith))
  wrong_first_y Missing prefix g p = p
  wrong_first_y Extra prefix g p = p
  wrong_first_y NoMemory prefix g p = p

  wrong_second_y : (cause : Cause) (first : Tree) (prefix : List Token) → a + k < h → IsShaped first w a k → IsWrong cause prefix word (cuts + 1 + cuts_in (tokens first)) w (h - a - k) k → IsWrong cause (token.Cut Y a ∷ (tokens first ++ prefix)) word cuts w h k
  wrong_second_y BadToken first prefix fits fp p = p
  wrong_second_y TooManyCuts first prefix fits fp p = (p.0, p.1, p.2, (let e : cuts + 1 + cuts_in (tokens first) + cuts_in prefix ≡ MAX_CUTS = p.3 in omega (arith, cuts_in-append (tokens first) prefix)))
  wrong_second_y OffUnit first prefix fits fp p = (p.0, p.1, p.2, (λ f. off_second_y w h k a first prefix (token.Cut p.0 p.1) fits fp p.3 f.0 f.1 f.2 f.3), (let e : cuts + 1 + cuts_in (tokens first) + cuts_in prefix < MAX_CUTS = p.4 in omega (arith, cuts_in-append (tokens first) prefix)))
  wrong_second_y Missing first prefix fits fp p = p
  wrong_second_y Extra first prefix fits fp p = p
  wrong_second_y NoMemory first prefix fits fp p = p

module _ (ws : List (List ℕ)) (at cuts w h k a n : ℕ) (cause : Cause) (got : slice_get ws at ≡ Some (token_text (token.Cut Y a))) (is_token : IsToken (token.Cut Y a)) where
  pub first_stops_y : a < h → IsFaultWithin ws (at + 1) (cuts + 1) w a k n cause → IsFaultWithin ws at cuts w h k n cause
  first_stops_y fits s = record {
    prefix = token.Cut Y a ∷ s.prefix;
    place = (let e : at + 1 + length s.prefix ≡ n = s.place in omega arith);
    spelled = (got, is_token, s.spelled);
    goes_on = on_y w h k a s.prefix is_token.0 fits s.goes_on;
    few_cuts = (let e : cuts + 1 + cuts_in s.prefix ≤ MAX_CUTS = s.few_cuts in omega arith);
    wrong = wrong_first_y w h k a (slice_get ws n) cuts cause s.prefix s.goes_on s.wrong;
  }

  pub second_stops_y : (first : Tree) → a + k < h → IsShaped first w a k → SpelledAt ws (at + 1) (tokens first) →
      IsFaultWithin ws (at + 1 + length (tokens first)) (cuts + 1 + cuts_in (tokens first)) w (h - a - k) k n cause → IsFaultWithin ws at cuts w h k n cause
  second_stops_y first fits shaped spelled s = record {
    prefix = token.Cut Y a ∷ (tokens first ++ s.prefix);
    place = (let e : at + 1 + length (tokens first) + length s.prefix ≡ n = s.place in omega (arith, length-append (tokens first) s.prefix));
    spelled = (got, is_token, SpelledAt-append ws (at + 1) (tokens first) s.prefix spelled s.spelled);
    goes_on = on_second_y w h k a first s.prefix is_token.0 fits shaped s.goes_on;
    few_cuts = (let e : cuts + 1 + cuts_in (tokens first) + cuts_in s.prefix ≤ MAX_CUTS = s.few_cuts in omega (arith, cuts_in-append (tokens first) s.prefix));
    wrong = wrong_second_y w h k a (slice_get ws n) cuts cause first s.prefix fits shaped s.wrong;
  }

  -- a cut that isn't inside its rectangle
  pub off_y : h ≤ a → cuts < MAX_CUTS → n ≡ at → IsFaultWithin ws at cuts w h k n OffUnit
  off_y out few here = record {
    prefix = [];
    place = omega arith;
    spelled = tt;
    goes_on = (Rest, token.Rest, [], tt, refl);
    few_cuts = omega arith;
    wrong = (Y, a, (subst (λ (m : ℕ). slice_get ws m ≡ Some (token_text (token.Cut Y a))) (sym here) got, is_token), (λ f. no_tree_y w h k a out f.0 f.1 f.2 f.3), omega arith);
  }
