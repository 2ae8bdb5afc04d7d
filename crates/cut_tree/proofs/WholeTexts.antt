-- What has been read to the end of a text.
use Rattle.std.proofs.Common.{◌≡◌, ℕ, suc, ◌+◌, ◌<◌, ◌≤◌, List, [], ◌∷◌, ◌++◌, length, get_or, drop, map, refl, ap, subst, sym, ◌∙◌, arith, eqb, drop-cons}
use Rattle.std.specs.List.{slice_split, join_with_byte}
use Rattle.std.proofs.Math.ListN.{drop_of_length-le}
use Rattle.std.proofs.lemmas.Option.{slice_get_within, get_or_from_slice_get}
use Rattle.std.proofs.lemmas.List.Splits.{join_with_byte-slice_split}
use Rattle.cut_tree.specs.declared.token.Token.{Token}
use Rattle.cut_tree.specs.Tree.{Tree, Piece, Rest, Trim, Cut, cut_count}
use Rattle.cut_tree.specs.Patterns.{HasDemands}
use Rattle.cut_tree.specs.Spelling.{tokens, token_text, text_of, words, cuts_in, SpelledAt}
use Rattle.cut_tree.proofs.TreePrefixes.{cuts_in-append}

-- words that the tokens spell up to the end
spelled_whole : (ws : List (List ℕ)) (at : ℕ) (ts : List Token) → SpelledAt ws at ts → length ws ≤ at + length ts → drop at ws ≡ map token_text ts
spelled_whole ws at [] p all = drop_of_length-le ws (omega arith)
spelled_whole ws at (t ∷ ts) p all =
    let inside : at < length ws = slice_get_within ws at (token_text t) p.0 in
    let here : get_or ws at [] ≡ token_text t = get_or_from_slice_get ws at (token_text t) [] p.0 in
    let more : drop (at + 1) ws ≡ map token_text ts = spelled_whole ws (at + 1) ts p.2 (omega arith) in
    let next : at + 1 ≡ suc at = omega arith in
    drop-cons ws at [] inside
    ∙ ap (λ w. w ∷ drop (suc at) ws) here
    ∙ ap (λ l. token_text t ∷ l) (ap (λ n. drop n ws) (sym next) ∙ more)

join-words : (text : List ℕ) → join_with_byte 32 (words text) ≡ text
join-words [] = refl
join-words (c ∷ cs) = join_with_byte-slice_split 32 (c ∷ cs)

-- a text whose words spell a tree is the tree's text
pub spelled_text : (text : List ℕ) (ws : List (List ℕ)) (t : Tree) → ws ≡ words text → SpelledAt ws 0 (tokens t) → length ws ≤ 0 + length (tokens t) → text ≡ text_of t
spelled_text text ws t same p all =
    sym (join-words text) ∙ ap (join_with_byte 32) (sym same ∙ spelled_whole ws 0 (tokens t) p all)

pub cuts_in-tokens : (t : Tree) → cuts_in (tokens t) ≡ cut_count t
cuts_in-tokens (Piece d b) = refl
cuts_in-tokens Rest = refl
cuts_in-tokens (Trim axis a f) = ap (λ n. 1 + n) (cuts_in-tokens f)
cuts_in-tokens (Cut axis a f s) = omega (arith, cuts_in-append (tokens f) (tokens s), cuts_in-tokens f, cuts_in-tokens s)

SpelledAt-prefix : (ws : List (List ℕ)) (at : ℕ) (ts us : List Token) → SpelledAt ws at (ts ++ us) → SpelledAt ws at ts × SpelledAt ws (at + length ts) us
SpelledAt-prefix ws at [] us p = let e : at ≡ at + 0 = omega arith in (tt, subst (λ (n : ℕ). SpelledAt ws n us) e p)
SpelledAt-prefix ws at (t ∷ ts) us p =
    let e : at + 1 + length ts ≡ at + suc (length ts) = omega arith in
    let q : SpelledAt ws (at + 1) ts × SpelledAt ws (at + 1 + length ts) us = SpelledAt-prefix ws (at + 1) ts us p.2 in
    ((p.0, p.1, q.0), subst (λ (n : ℕ). SpelledAt ws n us) e q.1)

pub demands_read : (ws : List (List ℕ)) (at : ℕ) (t : Tree) → SpelledAt ws at (tokens t) → HasDemands t
demands_read ws at (Piece d b) p = p.1
demands_read ws at Rest p = tt
demands_read ws at (Trim axis a f) p = demands_read ws (at + 1) f p.2
demands_read ws at (Cut axis a f s) p =
    let q : SpelledAt ws (at + 1) (tokens f) × SpelledAt ws (at + 1 + length (tokens f)) (tokens s) = SpelledAt-prefix ws (at + 1) (tokens f) (tokens s) p.2 in
    (demands_read ws (at + 1) f q.0, demands_read ws (at + 1 + length (tokens f)) s q.1)

-- the words of a text that isn't empty
pub words-some : (text : List ℕ) → (length text ≡ 0 → ⊥) → words text ≡ slice_split (λ b. eqb b 32) text
words-some [] some = absurd (some refl)
words-some (c ∷ cs) some = refl
