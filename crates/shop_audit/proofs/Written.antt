-- Lines that are written one after another.
use Rattle.std.proofs.Common.{◌≡◌, ◌+◌, ◌<◌, ◌-◌, ℕ, zero, suc, List, [], ◌++◌, Option, refl, sym, ap, ◌∙◌, append_assoc, append-nil, arith}
use Rattle.std.specs.Io.KnownBytes.{Appends}
use Rattle.std.specs.Prelude.{OnErr, Result, Ok, Err}
use Rattle.std.proofs.KnownBytes.{Appends-nil, Appends-trans}
use Rattle.shop_records.specs.Content.{Content}
use Rattle.shop_audit.specs.Lines.{AppendsPart, line_at, lines}

pub one_later : (m : Content) (after k : ℕ) → lines m after (k + 1) ≡ lines m after k ++ line_at m (after + k + 1)
one_later m after k = let next : k + 1 ≡ suc k = omega arith in ap (lines m after) next

-- the lines of more entries begin with those of fewer
pub begins : (m : Content) (after k more : ℕ) → (rest : List ℕ) × (lines m after k ++ rest ≡ lines m after (k + more))
begins m after k zero = ([], append-nil (lines m after k) ∙ ap (lines m after) (let same : k ≡ k + 0 = omega arith in same))
begins m after k (suc more) =
    let less = begins m after k more in
    let next : suc (k + more) ≡ k + suc more = omega arith in (
      less.0 ++ line_at m (after + (k + more) + 1),
      sym (append_assoc (lines m after k) less.0 (line_at m (after + (k + more) + 1))) ∙ ap (λ l. l ++ line_at m (after + (k + more) + 1)) less.1 ∙ ap (lines m after) next,
    )

-- where k of so many lines were written and a part of the next one, a part of all was
pub part_of_lines : (m : Content) (after k count : ℕ) → k < count → (a b c : Option (List ℕ)) → Appends a b (lines m after k) → AppendsPart b c (line_at m (after + k + 1)) → AppendsPart a c (lines m after count)
part_of_lines m after k count less a b c all part =
    let more = begins m after (k + 1) (count - (k + 1)) in
    let whole : k + 1 + (count - (k + 1)) ≡ count = omega (arith, less) in (
      lines m after k ++ part.0,
      part.1 ++ more.0,
      append_assoc (lines m after k) part.0 (part.1 ++ more.0) ∙ ap (λ l. lines m after k ++ l) (sym (append_assoc part.0 part.1 more.0) ∙ ap (λ l. l ++ more.0) part.2)
          ∙ sym (append_assoc (lines m after k) (line_at m (after + k + 1)) more.0) ∙ ap (λ l. l ++ more.0) (sym (one_later m after k)) ∙ more.1 ∙ ap (lines m after) whole,
      Appends-trans a b c (lines m after k) part.0 all part.3,
    )

-- what holds anyway holds behind an error
pub behind_err : {X E A : Type 0} (result : Result X E) → A → OnErr result A
behind_err (Ok x) holds = tt
behind_err (Err e) holds = holds

-- nothing of a text is a part of it
pub no_part : (a : Option (List ℕ)) (text : List ℕ) → AppendsPart a a text
no_part a text = ([], text, refl, Appends-nil a)
