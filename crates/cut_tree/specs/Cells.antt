-- The owner of one cell of a unit: what it belongs to once the cuts are made.
use Rattle.std.specs.Prelude.{ℕ, ◌+◌, ◌-◌, ◌&&◌, nat_lt, Bool, if◌then◌else◌}
use Rattle.cut_measure.specs.declared.sizes.Axis.{Axis}
use Rattle.cut_measure.specs.declared.sizes.Axis.TheVariants.{X, Y}
use Rattle.cut_tree.specs.declared.lay.Owner.{Owner}
use Rattle.cut_tree.specs.declared.lay.Owner.TheVariants as owner
use Rattle.cut_tree.specs.Tree.{Tree, Piece, Rest, Trim, Cut, node_count, cut_count}

-- What became of a cut whose ancestors were all made: it was made; its rectangle was left whole; it went wrong; it went wrong,
-- and the last so many columns or rows of its rectangle are left, as its axis says.
pub data Outcome : Type 0 where
  Made : Outcome
  LeftWhole : Outcome
  Spoiled : Outcome
  Split : (rest : ℕ) → Outcome

-- where a cell lies: the node that it belongs to, what that is, its sides, and the cell's place inside it
pub record Location : Type 0 where
  pub node : ℕ
  pub owner : Owner
  pub w : ℕ
  pub h : ℕ
  pub x : ℕ
  pub y : ℕ

-- what becomes of a cell by what became of its cut
abbrev pub by_outcome : Outcome → (made whole spoiled : Location) → (split : ℕ → Location) → Location
by_outcome Made made whole spoiled split = made
by_outcome LeftWhole made whole spoiled split = whole
by_outcome Spoiled made whole spoiled split = spoiled
by_outcome (Split rest) made whole spoiled split = split rest

-- a rest is some of a side, and not all of it
abbrev pub is_split : (rest side : ℕ) → Bool
is_split rest side = nat_lt 0 rest && nat_lt rest side

-- The cell (x, y) of a rectangle of w by h whose cut, of number n, went wrong: its first columns or rows are lost, and the
-- last ones are a rest under the next number; where there can't be such a rest, all is lost.
abbrev pub split_location : Axis → (n w h rest x y : ℕ) → Location
split_location X n w h rest x y =
    if is_split rest w
    then (if nat_lt x (w - rest) then record { node = n; owner = owner.Lost; w = w - rest; h = h; x = x; y = y }
    else record { node = n + 1; owner = owner.Rest; w = rest; h = h; x = x - (w - rest); y = y })
    else record { node = n; owner = owner.Lost; w = w; h = h; x = x; y = y }
split_location Y n w h rest x y =
    if is_split rest h
    then (if nat_lt y (h - rest) then record { node = n; owner = owner.Lost; w = w; h = h - rest; x = x; y = y }
    else record { node = n + 1; owner = owner.Rest; w = w; h = rest; x = x; y = y - (h - rest) })
    else record { node = n; owner = owner.Lost; w = w; h = h; x = x; y = y }

-- Follows the cell (x, y) down a tree on w by h. `outcome` says what became of each cut by its number; n is the
-- number of the tree's first node, c that of its first cut.
unfoldable pub location_of : Tree → (w h kerf : ℕ) → (ℕ → Outcome) → (n c x y : ℕ) → Location
location_of (Piece demand turned) w h k outcome n c x y =
    record { node = n; owner = owner.Piece demand; w = w; h = h; x = x; y = y }
location_of Rest w h k outcome n c x y = record { node = n; owner = owner.Rest; w = w; h = h; x = x; y = y }
location_of (Trim X a first) w h k outcome n c x y =
    by_outcome (outcome c)
    (if nat_lt x a then location_of first a h k outcome (n + 1) (c + 1) x y
    else record { node = n; owner = owner.Kerf; w = w - a; h = h; x = x - a; y = y })
    (record { node = n; owner = owner.Uncut; w = w; h = h; x = x; y = y })
    (record { node = n; owner = owner.Lost; w = w; h = h; x = x; y = y })
    (λ rest. split_location X n w h rest x y)
location_of (Trim Y a first) w h k outcome n c x y =
    by_outcome (outcome c)
    (if nat_lt y a then location_of first w a k outcome (n + 1) (c + 1) x y
    else record { node = n; owner = owner.Kerf; w = w; h = h - a; x = x; y = y - a })
    (record { node = n; owner = owner.Uncut; w = w; h = h; x = x; y = y })
    (record { node = n; owner = owner.Lost; w = w; h = h; x = x; y = y })
    (λ rest. split_location Y n w h rest x y)
location_of (Cut X a first second) w h k outcome n c x y =
    by_outcome (outcome c)
    (if nat_lt x a then location_of first a h k outcome (n + 1) (c + 1) x y
    else if nat_lt x (a + k) then record { node = n; owner = owner.Kerf; w = k; h = h; x = x - a; y = y }
    else location_of second (w - a - k) h k outcome (n + 1 + node_count first) (c + 1 + cut_count first) (x - a - k) y)
    (record { node = n; owner = owner.Uncut; w = w; h = h; x = x; y = y })
    (record { node = n; owner = owner.Lost; w = w; h = h; x = x; y = y })
    (λ rest. split_location X n w h rest x y)
location_of (Cut Y a first second) w h k outcome n c x y =
    by_outcome (outcome c)
    (if nat_lt y a then location_of first w a k outcome (n + 1) (c + 1) x y
    else if nat_lt y (a + k) then record { node = n; owner = owner.Kerf; w = w; h = k; x = x; y = y - a }
    else location_of second w (h - a - k) k outcome (n + 1 + node_count first) (c + 1 + cut_count first) x (y - a - k))
    (record { node = n; owner = owner.Uncut; w = w; h = h; x = x; y = y })
    (record { node = n; owner = owner.Lost; w = w; h = h; x = x; y = y })
    (λ rest. split_location Y n w h rest x y)

-- every cut is made
abbrev pub all_made : ℕ → Outcome
all_made c = Made
