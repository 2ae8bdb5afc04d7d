-- What a reader of nodes says of its faults, and of a cut with both parts.
use Rattle.std.proofs.Common.{◌≡◌, ℕ, ◌+◌, ◌-◌, ◌<◌, ◌≤◌, List, [], refl, subst, sym, arith, ◌⊎◌, inl, inr, Option, Some}
use Rattle.std.specs.Prelude.{slice_get}
use Rattle.std.proofs.lemmas.List.{length-append}
use Rattle.cut_tree.specs.declared.token.TheConstants.{MAX_CUTS}
use Rattle.cut_measure.specs.declared.sizes.Axis.{Axis}
use Rattle.cut_measure.specs.declared.sizes.Axis.TheVariants.{X, Y}
use Rattle.cut_tree.specs.declared.token.Token.TheVariants as token
use Rattle.cut_tree.specs.declared.token.Cause.{Cause}
use Rattle.cut_tree.specs.declared.token.Cause.TheVariants.{BadToken, TooManyCuts, OffUnit, Missing, Extra, NoMemory}
use Rattle.cut_tree.specs.declared.token.Sides.{Sides}
use Rattle.cut_tree.specs.declared.read.SpellFault.{SpellFault}
use Rattle.cut_tree.specs.Sides.{side_along, part_sides}
use Rattle.cut_tree.specs.Tree.{Tree, Rest, Cut, IsShaped}
use Rattle.cut_tree.specs.Spelling.{tokens, token_text, IsToken, cuts_in, SpelledAt, IsWrong, IsNoTokenFor, IsFaultWithin, HasReadTree}
use Rattle.cut_tree.proofs.TreePrefixes.{first_stops_x, first_stops_y, second_stops_x, second_stops_y, off_x, off_y, SpelledAt-append, cuts_in-append}

abbrev pub Fails : List (List ℕ) → (at cuts : ℕ) → Sides → (kerf : ℕ) → SpellFault → Type 0
Fails ws at cuts s k f = ((f.token ≡ 0) × (f.cause ≡ NoMemory)) ⊎ IsFaultWithin ws at cuts s.w s.h k f.token f.cause

wrong_start : (cause : Cause) (word : Option (List ℕ)) (cuts w h k : ℕ) → IsNoTokenFor cause word → IsWrong cause [] word cuts w h k
wrong_start BadToken word cuts w h k p = p
wrong_start Missing word cuts w h k p = p
wrong_start TooManyCuts word cuts w h k p = absurd p
wrong_start OffUnit word cuts w h k p = absurd p
wrong_start Extra word cuts w h k p = absurd p
wrong_start NoMemory word cuts w h k p = absurd p

module _ (ws : List (List ℕ)) (at cuts : ℕ) (s : Sides) (k : ℕ) (few : cuts ≤ MAX_CUTS) where
  pub start_fails : (f : SpellFault) → f.token ≡ at → IsNoTokenFor f.cause (slice_get ws at) → Fails ws at cuts s k f
  start_fails f here p = inr (record {
    prefix = [];
    place = omega arith;
    spelled = tt;
    goes_on = (Rest, token.Rest, [], tt, refl);
    few_cuts = omega arith;
    wrong = wrong_start f.cause (slice_get ws f.token) cuts s.w s.h k (subst (λ (n : ℕ). IsNoTokenFor f.cause (slice_get ws n)) (sym here) p);
  })

  module _ (axis : Axis) (a : ℕ) (got : slice_get ws at ≡ Some (token_text (token.Cut axis a))) (is_token : IsToken (token.Cut axis a)) where
    pub full_fails : cuts ≡ MAX_CUTS → IsFaultWithin ws at cuts s.w s.h k at TooManyCuts
    full_fails full = record {
      prefix = [];
      place = omega arith;
      spelled = tt;
      goes_on = (Rest, token.Rest, [], tt, refl);
      few_cuts = omega arith;
      wrong = (axis, a, (got, is_token), omega arith);
    }

pub off_fails : (ws : List (List ℕ)) (at cuts : ℕ) (s : Sides) (k a : ℕ) (axis : Axis) → slice_get ws at ≡ Some (token_text (token.Cut axis a)) → IsToken (token.Cut axis a) → side_along s axis ≤ a → cuts < MAX_CUTS → IsFaultWithin ws at cuts s.w s.h k at OffUnit
off_fails ws at cuts s k a X got is_token out few = off_x ws at cuts s.w s.h k a at OffUnit got is_token out few refl
off_fails ws at cuts s k a Y got is_token out few = off_y ws at cuts s.w s.h k a at OffUnit got is_token out few refl

pub first_fails : (ws : List (List ℕ)) (at cuts : ℕ) (s : Sides) (k a : ℕ) (axis : Axis) (f : SpellFault) → slice_get ws at ≡ Some (token_text (token.Cut axis a)) → IsToken (token.Cut axis a) → a < side_along s axis →
    Fails ws (at + 1) (cuts + 1) (part_sides s axis a) k f → Fails ws at cuts s k f
first_fails ws at cuts s k a X f got is_token fits (inl p) = inl p
first_fails ws at cuts s k a Y f got is_token fits (inl p) = inl p
first_fails ws at cuts s k a X f got is_token fits (inr p) = inr (first_stops_x ws at cuts s.w s.h k a f.token f.cause got is_token fits p)
first_fails ws at cuts s k a Y f got is_token fits (inr p) = inr (first_stops_y ws at cuts s.w s.h k a f.token f.cause got is_token fits p)

pub second_fails : (ws : List (List ℕ)) (at cuts : ℕ) (s : Sides) (k a : ℕ) (axis : Axis) (first : Tree) (f : SpellFault) → slice_get ws at ≡ Some (token_text (token.Cut axis a)) → IsToken (token.Cut axis a) → a + k < side_along s axis →
    (next middle : ℕ) → HasReadTree ws (at + 1) (cuts + 1) (part_sides s axis a).w (part_sides s axis a).h k first next middle →
    Fails ws next middle (part_sides s axis (side_along s axis - a - k)) k f → Fails ws at cuts s k f
second_fails ws at cuts s k a X first f got is_token fits next middle r (inl p) = inl p
second_fails ws at cuts s k a Y first f got is_token fits next middle r (inl p) = inl p
second_fails ws at cuts s k a X first f got is_token fits next middle r (inr p) =
    inr (second_stops_x ws at cuts s.w s.h k a f.token f.cause got is_token first fits r.shaped r.spelled
    (let P : ℕ → Type 0 = λ n. IsFaultWithin ws n (cuts + 1 + cuts_in (tokens first)) (s.w - a - k) s.h k f.token f.cause in
    let Q : ℕ → Type 0 = λ n. IsFaultWithin ws next n (s.w - a - k) s.h k f.token f.cause in subst P r.upto (subst Q r.counted p)))
second_fails ws at cuts s k a Y first f got is_token fits next middle r (inr p) =
    inr (second_stops_y ws at cuts s.w s.h k a f.token f.cause got is_token first fits r.shaped r.spelled
    (let P : ℕ → Type 0 = λ n. IsFaultWithin ws n (cuts + 1 + cuts_in (tokens first)) s.w (s.h - a - k) k f.token f.cause in
    let Q : ℕ → Type 0 = λ n. IsFaultWithin ws next n s.w (s.h - a - k) k f.token f.cause in subst P r.upto (subst Q r.counted p)))

shaped_cut : (s : Sides) (k a : ℕ) (axis : Axis) (first second : Tree) → 1 ≤ a → a + k < side_along s axis →
    IsShaped first (part_sides s axis a).w (part_sides s axis a).h k → IsShaped second (part_sides s axis (side_along s axis - a - k)).w (part_sides s axis (side_along s axis - a - k)).h k → IsShaped (Cut axis a first second) s.w s.h k
shaped_cut s k a X first second one fits p q = (one, fits, p, q)
shaped_cut s k a Y first second one fits p q = (one, fits, p, q)

pub both_read : (ws : List (List ℕ)) (at cuts : ℕ) (s : Sides) (k a : ℕ) (axis : Axis) (first second : Tree) → slice_get ws at ≡ Some (token_text (token.Cut axis a)) → IsToken (token.Cut axis a) → a + k < side_along s axis →
    (next middle last after : ℕ) → HasReadTree ws (at + 1) (cuts + 1) (part_sides s axis a).w (part_sides s axis a).h k first next middle →
    HasReadTree ws next middle (part_sides s axis (side_along s axis - a - k)).w (part_sides s axis (side_along s axis - a - k)).h k second last after →
    HasReadTree ws at cuts s.w s.h k (Cut axis a first second) last after
both_read ws at cuts s k a axis first second got is_token fits next middle last after p q = record {
  shaped = shaped_cut s k a axis first second is_token.0 fits p.shaped q.shaped;
  spelled = (got, is_token, SpelledAt-append ws (at + 1) (tokens first) (tokens second) p.spelled (subst (λ (n : ℕ). SpelledAt ws n (tokens second)) p.upto q.spelled));
  upto = omega (arith, length-append (tokens first) (tokens second), p.upto, q.upto);
  counted = omega (arith, cuts_in-append (tokens first) (tokens second), p.counted, q.counted);
  few_cuts = q.few_cuts;
}
