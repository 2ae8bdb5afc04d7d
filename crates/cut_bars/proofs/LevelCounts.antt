-- The levels of wants, want by want.
use Rattle.std.proofs.Common.{◌≡◌, ℕ, ◌+◌, ◌<◌, ◌≤◌, List, [], ◌∷◌, length, drop, get_or, sym, refl, ap, ◌∙◌, subst, arith, map}
use Rattle.std.specs.Prelude.{Contains, ◌↔◌}
use Rattle.std.proofs.lemmas.Grind.{common_steps}
use Rattle.std.proofs.lemmas.List.{get_or-drop, drop_more, drop_all}
use Rattle.std.proofs.lemmas.List.Elements.{Contains-get_or}
use Rattle.cut_wants.specs.declared.wants.Want.{Want}
use Rattle.cut_bars.specs.declared.reach.Entry.{Entry}
use Rattle.cut_bars.specs.declared.level.Level.{Level}
use Rattle.cut_bars.specs.declared.level.Level.TheVariants.{Listed, Tabled}
use Rattle.cut_bars.specs.Reached.{AreRising, AreOwn, AreReached, AreOffered, StayBelow, ArePricedBelow}
use Rattle.cut_bars.specs.Levels.{Has, IsLevel}
use Rattle.cut_bars.proofs.JoinedEntries.{none, one_worth}
use Rattle.cut_bars.proofs.WantEntries.{reached_none, reached_want, reached_low}
use Rattle.cut_bars.proofs.RaisedCells.{cells_own}

-- what the wants after the first i reach, and the want before them
pub stays_below : (limit k whole i j : ℕ) (xs : List Want) (d : Want) (has : Entry → Type 0) → ArePricedBelow limit k whole xs → i < length xs → AreReached k (drop j xs) whole has
    → StayBelow limit whole has ((get_or xs i d).size.w + k) (get_or xs i d).worth
stays_below limit k whole i j xs d has p lt r = record {
  price = p.price;
  modest = p.modest;
  low = reached_low p.price k whole (drop j xs) has r (λ x (n, more, is). p.each x (j + n, grind (arith, common_steps), sym (get_or-drop j xs n x) ∙ is));
  gains = p.each (get_or xs i d) (Contains-get_or xs i d lt);
  below = p.below;
}

pub reached_all : (k whole i : ℕ) (xs : List Want) (entries : Entry → Type 0) → length xs ≤ i → AreReached k [] whole entries → AreReached k (drop i xs) whole entries
reached_all k whole i xs entries past r = rw (drop_all i xs past) r

pub reached_more : (k whole i j : ℕ) (xs : List Want) (d : Want) (base entries : Entry → Type 0) → i < length xs → i + 1 ≡ j → AreReached k (drop j xs) whole base
    → AreOffered ((get_or xs i d).size.w + k) (get_or xs i d).worth (get_or xs i d).left whole base entries → AreReached k (drop i xs) whole entries
reached_more k whole i j xs d base entries lt next r o =
    let parts : drop i xs ≡ get_or xs i d ∷ drop j xs = drop_more xs i d lt ∙ ap (λ n. get_or xs i d ∷ drop n xs) next in
    rw parts (reached_want k whole (get_or xs i d) (drop j xs) base entries r o)

-- the same set of entries
pub reached_same : (k whole : ℕ) (xs : List Want) (has others : Entry → Type 0) → AreReached k xs whole has → ((e : Entry) → has e ↔ others e) → AreReached k xs whole others
reached_same k whole xs has others r same = record {
  only = λ e there. r.only e ((same e).1 there);
  each = λ counts is fits. let e = r.each counts is fits in (e.0, (same e.0).0 e.1, e.2);
}

pub level_own : {T : Type 0} (value : T → ℕ) (whole : ℕ) (level : Level T) → IsLevel whole level → AreOwn (Has value level)
level_own value whole (Listed entries) is = one_worth entries.items is
level_own value whole (Tabled cells) is = cells_own (map value cells.items)

-- what no counts reach
pub none_reached : (k whole : ℕ) → AreRising (none ∷ []) × AreReached k [] whole (Contains (none ∷ []))
none_reached k whole = (
  λ i j d lt in_range. absurd (omega arith),
  reached_none k whole (Contains (none ∷ [])) (λ e (i, lt, at). zero e i (omega arith) at) (0, omega arith, refl),
)
  where
    zero : (e : Entry) (i : ℕ) → i ≡ 0 → get_or (none ∷ []) i e ≡ e → (e.span ≡ 0) × (e.worth ≡ 0)
    zero e i z at =
        let here : none ≡ e = subst (λ i. get_or (none ∷ []) i e ≡ e) z at in
        (omega (arith, ap (λ (e : Entry). e.span) here), omega (arith, ap (λ (e : Entry). e.worth) here))
