-- The text of a cut, by the texts of its parts.
use Rattle.std.proofs.Common.{◌≡◌, ℕ, ◌<◌, List, [], ◌∷◌, ◌++◌, length, map, refl, ap, sym, ◌∙◌, arith, append_assoc}
use Rattle.std.specs.List.{join_with_byte}
use Rattle.std.proofs.lemmas.List.{length-append, map-append}
use Rattle.cut_measure.specs.declared.sizes.Axis.{Axis}
use Rattle.cut_tree.specs.declared.token.Token.TheVariants as token
use Rattle.cut_tree.specs.Tree.{Tree, Piece, Rest, Trim, Cut}
use Rattle.cut_tree.specs.Spelling.{tokens, token_text, text_of}

some_tokens : (t : Tree) → 0 < length (map token_text (tokens t))
some_tokens (Piece d b) = omega arith
some_tokens Rest = omega arith
some_tokens (Trim axis a f) = omega arith
some_tokens (Cut axis a f s) = omega arith

join-cons : (w : List ℕ) (xs : List (List ℕ)) → 0 < length xs → join_with_byte 32 (w ∷ xs) ≡ w ++ (32 ∷ join_with_byte 32 xs)
join-cons w [] some = absurd (omega arith)
join-cons w (x ∷ xs) some = refl

join-append : (xs ys : List (List ℕ)) → 0 < length xs → 0 < length ys → join_with_byte 32 (xs ++ ys) ≡ join_with_byte 32 xs ++ (32 ∷ join_with_byte 32 ys)
join-append [] ys p q = absurd (omega arith)
join-append (x ∷ []) ys p q = join-cons x ys q
join-append (x ∷ y ∷ xs) ys p q =
    ap (λ l. x ++ (32 ∷ l)) (join-append (y ∷ xs) ys (omega arith) q)
    ∙ sym (append_assoc x (32 ∷ join_with_byte 32 (y ∷ xs)) (32 ∷ join_with_byte 32 ys))

pub text_of-Trim : (axis : Axis) (a : ℕ) (f : Tree) → text_of (Trim axis a f) ≡ token_text (token.Cut axis a) ++ (32 ∷ text_of f)
text_of-Trim axis a f = join-cons (token_text (token.Cut axis a)) (map token_text (tokens f)) (some_tokens f)

pub text_of-Cut : (axis : Axis) (a : ℕ) (f s : Tree) → text_of (Cut axis a f s) ≡ token_text (token.Cut axis a) ++ (32 ∷ (text_of f ++ (32 ∷ text_of s)))
text_of-Cut axis a f s =
    ap (λ l. join_with_byte 32 (token_text (token.Cut axis a) ∷ l)) (map-append token_text (tokens f) (tokens s))
    ∙ join-cons (token_text (token.Cut axis a)) (map token_text (tokens f) ++ map token_text (tokens s))
    (let e : 0 < length (map token_text (tokens f)) = some_tokens f in omega (arith, length-append (map token_text (tokens f)) (map token_text (tokens s))))
    ∙ ap (λ l. token_text (token.Cut axis a) ++ (32 ∷ l)) (join-append (map token_text (tokens f)) (map token_text (tokens s)) (some_tokens f) (some_tokens s))
