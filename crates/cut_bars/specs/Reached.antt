-- The spans of a bar that counts of pieces take, and the greatest worth of each.
use Rattle.std.specs.Prelude.{◌≡◌, ◌↔◌, ℕ, ◌+◌, ◌*◌, ◌^◌, ◌<◌, ◌≤◌, List, length, slice_index_or, Contains, Option, Some, IsSome}
use Rattle.cut_wants.specs.declared.wants.Want.{Want}
use Rattle.cut_bars.specs.declared.reach.Entry.{Entry}
use Rattle.cut_bars.specs.Counts.{AreCounts, span_taken, worth_of_counts}

-- counts within what is left take this span and have this worth, and none that take it are worth more
pub record IsGreatestAt (k : ℕ) (wants : List Want) (span worth : ℕ) : Type 0 where
  pub counts : List ℕ
  pub within : AreCounts wants counts
  pub takes : span_taken k wants counts ≡ span
  pub value : worth_of_counts wants counts ≡ worth
  pub most : (others : List ℕ) → AreCounts wants others → span_taken k wants others ≡ span → worth_of_counts wants others ≤ worth

-- a map of each span within the whole that counts take to the greatest worth of such counts
pub record IsReached (k : ℕ) (wants : List Want) (whole : ℕ) (found : ℕ → Option ℕ) : Type 0 where
  pub exactly : (n v : ℕ) → (found n ≡ Some v) ↔ ((n ≤ whole) × IsGreatestAt k wants n v)
  pub each : (counts : List ℕ) → AreCounts wants counts → span_taken k wants counts ≤ whole → IsSome (found (span_taken k wants counts))

-- the entries of a set: one for each span within the whole that counts take, with the greatest worth of such counts
pub record AreReached (k : ℕ) (wants : List Want) (whole : ℕ) (has : Entry → Type 0) : Type 0 where
  pub only : (e : Entry) → has e → (e.span ≤ whole) × IsGreatestAt k wants e.span e.worth
  pub each : (counts : List ℕ) → AreCounts wants counts → span_taken k wants counts ≤ whole → (e : Entry) × has e × (e.span ≡ span_taken k wants counts)

-- each span is less than those after it
abbrev pub AreRising : List Entry → Type 0
AreRising entries = (i j : ℕ) (d : Entry) → i < j → j < length entries → (slice_index_or entries i d).span < (slice_index_or entries j d).span

-- entries of one span are worth the same
abbrev pub AreOwn : (Entry → Type 0) → Type 0
AreOwn has = (e f : Entry) → has e → has f → e.span ≡ f.span → e.worth ≡ f.worth

-- e is b with so many pieces more, each of a step and a gain
pub record IsMoved (step gain times : ℕ) (b e : Entry) : Type 0 where
  pub span : e.span ≡ b.span + times * step
  pub worth : e.worth ≡ b.worth + times * gain

-- an entry that at most n pieces of a step and a gain lead to from those of `base`
abbrev pub IsLedTo : (step gain n : ℕ) → (Entry → Type 0) → Entry → Type 0
IsLedTo step gain n base e = (times : ℕ) × (times ≤ n) × (b : Entry) × base b × IsMoved step gain times b e

-- from the entries of `base`, with at most n pieces more: each such span within the whole, with its greatest worth
pub record AreOffered (step gain n whole : ℕ) (base offered : Entry → Type 0) : Type 0 where
  pub own : AreOwn offered
  pub short : (e : Entry) → offered e → e.span ≤ whole
  pub only : (e : Entry) → offered e → IsLedTo step gain n base e
  pub most : (b : Entry) → base b → (times : ℕ) → times ≤ n → b.span + times * step ≤ whole
      → (e : Entry) × offered e × (e.span ≡ b.span + times * step) × (b.worth + times * gain ≤ e.worth)

-- each span is within the whole, with a worth of at most the price for each unit of it
abbrev pub HaveWorthsBoundedBySpan : ℕ → ℕ → (Entry → Type 0) → Type 0
HaveWorthsBoundedBySpan price whole has = (e : Entry) → has e → (e.span ≤ whole) × (e.worth ≤ e.span * price)

-- a price for each unit of span that the entries and a piece keep to, at which one more than the whole's worth stays below the limit
pub record StayBelow (limit whole : ℕ) (has : Entry → Type 0) (step gain : ℕ) : Type 0 where
  pub price : ℕ
  pub modest : price ≤ 2 ^ 30
  pub low : HaveWorthsBoundedBySpan price whole has
  pub gains : gain ≤ step * price
  pub below : whole * price + 1 < limit

-- the same of wants, of which each piece takes its length and a kerf
pub record ArePricedBelow (limit k whole : ℕ) (wants : List Want) : Type 0 where
  pub price : ℕ
  pub modest : price ≤ 2 ^ 30
  pub each : (x : Want) → Contains wants x → x.worth ≤ (x.size.w + k) * price
  pub below : whole * price + 1 < limit

-- an entry of no span and no worth among them, low worths, and cells below the limit
pub record HaveSmallWorths (limit whole : ℕ) (has : Entry → Type 0) : Type 0 where
  pub none : has (record { span = 0; worth = 0 })
  pub low : HaveWorthsBoundedBySpan (2 ^ 30) whole has
  pub below : (e : Entry) → has e → e.worth + 1 < limit
