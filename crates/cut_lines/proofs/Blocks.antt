-- The lines of one size, and of those behind it.
use Rattle.std.proofs.Common.{◌≡◌, ◌∙◌, ◌+◌, ◌-◌, ◌++◌, ◌≤◌, ℕ, suc, List, [], ◌∷◌, ap, arith, drop, get_or, length, map, refl, subst, take}
use Rattle.std.proofs.lemmas.List.{append_assoc, take_all}
use Rattle.cut_bound.specs.declared.planned.PlannedUnit.{PlannedUnit}
use Rattle.cut_lines.specs.Lines.{Appends, AreBlocks, AreSizedLines, units_of}

module _ {X : Type 0} (text_of : X → List ℕ) (units : List PlannedUnit) (place : ℕ) (first second third : List ℕ) where
  -- Where the lines of one size and then those of the later sizes were appended, those of all these sizes were.
  pub one_more_size : (name : X) (names : List X) → Appends (AreSizedLines (text_of name) (units_of place units)) first second
      → Appends (AreBlocks units (suc place) (map text_of names)) second third → Appends (AreBlocks units place (map text_of (name ∷ names))) first third
  one_more_size name names (own, is, after) (later, are, behind) =
      (own ++ later, (own, later, is, are, refl), behind ∙ ap (λ text. text ++ later) after ∙ append_assoc first own later)

  -- the same of a list that has a first name
  pub sizes_from : (names : List X) (name : X) → 1 ≤ length names → name ≡ get_or names 0 name
      → Appends (AreSizedLines (text_of name) (units_of place units)) first second
      → Appends (AreBlocks units (place + 1) (map text_of (take (length names - 1) (drop 1 names)))) second third
      → Appends (AreBlocks units place (map text_of names)) first third
  sizes_from [] name some is one later = absurd (omega (arith, some))
  sizes_from (n ∷ names) name some is one later =
      let next : place + 1 ≡ suc place = omega arith in
      let more : take (length (n ∷ names) - 1) names ≡ names = take_all _ names (omega arith) in
      one_more_size n names (subst (λ m. Appends (AreSizedLines (text_of m) (units_of place units)) first second) is one)
      (subst (λ p. Appends (AreBlocks units p (map text_of names)) second third) next
      (subst (λ ns. Appends (AreBlocks units (place + 1) (map text_of ns)) second third) more later))
