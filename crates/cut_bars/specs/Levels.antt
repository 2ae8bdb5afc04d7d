-- Levels: what counts of some wants reach, as a list of entries or as a cell for each span.
use Rattle.std.specs.Prelude.{◌≡◌, ℕ, ◌+◌, ◌-◌, ◌*◌, ◌<◌, ◌≤◌, ◌⊎◌, ◌++◌, zero, suc, max, map, List, length, slice_index, slice_index_or, Contains}
use Rattle.cut_wants.specs.declared.wants.Want.{Want}
use Rattle.cut_bars.specs.declared.reach.Entry.{Entry}
use Rattle.cut_bars.specs.declared.level.Level.{Level}
use Rattle.cut_bars.specs.declared.level.Level.TheVariants.{Listed, Tabled}
use Rattle.cut_bars.specs.Counts.{AreBestCounts}
use Rattle.cut_bars.specs.Reached.{AreRising, IsLedTo}

-- the cell of the entry's span, among cells with these numbers, is one more than its worth
abbrev pub HasCell : List ℕ → Entry → Type 0
HasCell cells e = slice_index cells e.span ≡ e.worth + 1

-- the entries of a level whose cells have these values
abbrev pub Has : {T : Type 0} → (T → ℕ) → Level T → Entry → Type 0
Has value (Listed entries) e = Contains entries.items e
Has value (Tabled cells) e = HasCell (map value cells.items) e

-- entries in order, or a cell for each span within the whole
abbrev pub IsLevel : {T : Type 0} → ℕ → Level T → Type 0
IsLevel whole (Listed entries) = AreRising entries.items
IsLevel whole (Tabled cells) = length cells.items ≡ whole + 1

-- a span for the first of two sets of entries: one of either, which fit that span and the rest of the whole, are worth no less than any that fit the whole
pub record IsBestDivision (whole at : ℕ) (prefix back : Entry → Type 0) : Type 0 where
  pub one : Entry
  pub other : Entry
  pub in_prefix : prefix one
  pub in_back : back other
  pub fits : one.span ≤ at
  pub rest : other.span + at ≤ whole
  pub most : (e f : Entry) → prefix e → back f → e.span + f.span ≤ whole → e.worth + f.worth ≤ one.worth + other.worth

-- a span for the first wants: best counts of them within it, and of the others within the rest of the whole, are together best counts
pub record IsBestSpanForFirst (k : ℕ) (first others : List Want) (whole at : ℕ) : Type 0 where
  pub within : at ≤ whole
  pub best : (ns ms : List ℕ) → AreBestCounts k first at ns → AreBestCounts k others (whole - at) ms → AreBestCounts k (first ++ others) whole (ns ++ ms)

-- the entry of two that is worth more
pub record IsWorthierOf (a b worthier : Entry) : Type 0 where
  pub one : (worthier ≡ a) ⊎ (worthier ≡ b)
  pub worth_a : a.worth ≤ worthier.worth
  pub worth_b : b.worth ≤ worthier.worth

-- a cell with a gain: nothing from 0
abbrev pub gained : ℕ → ℕ → ℕ
gained gain zero = 0
gained gain (suc v) = suc v + gain

-- a price for each unit of span that the cells and a gain keep to, at which all the cells stay below the limit
pub record AreCellsBelow (limit : ℕ) (cells : List ℕ) (step gain : ℕ) : Type 0 where
  pub price : ℕ
  pub low : (c : ℕ) → slice_index cells c ≤ c * price + 1
  pub gains : gain ≤ step * price
  pub below : (c : ℕ) → c < length cells → c * price + 1 < limit

-- each span of at least a step is offered what `from` has a step before it
pub record IsRaised (step gain : ℕ) (from old new : List ℕ) : Type 0 where
  pub low : (c : ℕ) → c < step → slice_index new c ≡ slice_index old c
  pub high : (c : ℕ) → step ≤ c → c < length old → slice_index new c ≡ max (slice_index old c) (gained gain (slice_index from (c - step)))

-- the entry of two that comes first, or at the same span the one worth more
pub record IsFirstOf (a b first : Entry) : Type 0 where
  pub one : (first ≡ a) ⊎ (first ≡ b)
  pub span_a : first.span ≤ a.span
  pub span_b : first.span ≤ b.span
  pub worth_a : a.span ≡ first.span → a.worth ≤ first.worth
  pub worth_b : b.span ≡ first.span → b.worth ≤ first.worth

-- the first `kept` entries of `base`, and the first `moved` with one piece more, joined in order
pub record AreJoined (step gain : ℕ) (base : List Entry) (kept moved : ℕ) (joined : List Entry) : Type 0 where
  pub rising : AreRising joined
  pub below_kept : (e d : Entry) → Contains joined e → kept < length base → e.span < (slice_index_or base kept d).span
  pub below_moved : (e d : Entry) → Contains joined e → moved < length base → e.span < (slice_index_or base moved d).span + step
  pub only : (e : Entry) → Contains joined e → IsLedTo step gain 1 (Contains base) e
  pub has_kept : (i : ℕ) (d : Entry) → i < kept → (e : Entry) × Contains joined e × (e.span ≡ (slice_index_or base i d).span) × ((slice_index_or base i d).worth ≤ e.worth)
  pub has_moved : (i : ℕ) (d : Entry) → i < moved
      → (e : Entry) × Contains joined e × (e.span ≡ (slice_index_or base i d).span + step) × ((slice_index_or base i d).worth + gain ≤ e.worth)

-- each span is at most one of `base`
abbrev pub AreUpTo : List Entry → List Entry → Type 0
AreUpTo base entries = (e : Entry) → Contains entries e → (b : Entry) × Contains base b × (e.span ≤ b.span)
