-- Which cuts of a tree lie above which: their numbers count the cuts in preorder.
use Rattle.std.specs.Prelude.{ℕ, ◌≡◌, ◌+◌, ◌<◌, ◌≤◌, ◌⊎◌, ◌==◌, ◌&&◌, ◌||◌, nat_lt, nat_le, Bool, false}
use Rattle.cut_tree.specs.Tree.{Tree, Piece, Rest, Trim, Cut, cut_count}

-- c is the first cut of a tree, whose number is n, and d is one of those below it, of which there are so many
abbrev pub IsFirstAbove : (n below c d : ℕ) → Type 0
IsFirstAbove n below c d = (c ≡ n) × (n < d) × (d ≤ n + below)

-- In a tree whose first cut has the number n, the cut of number d divides a part of what the cut of number c divided.
abbrev pub IsAbove : Tree → (n c d : ℕ) → Type 0
IsAbove (Piece demand turned) n c d = ⊥
IsAbove Rest n c d = ⊥
IsAbove (Trim axis a first) n c d = IsFirstAbove n (cut_count first) c d ⊎ IsAbove first (n + 1) c d
IsAbove (Cut axis a first second) n c d =
    IsFirstAbove n (cut_count first + cut_count second) c d ⊎ IsAbove first (n + 1) c d ⊎ IsAbove second (n + 1 + cut_count first) c d

-- the same as tests
abbrev pub is_first_above : (n below c d : ℕ) → Bool
is_first_above n below c d = c == n && nat_lt n d && nat_le d (n + below)

abbrev pub is_above : Tree → (n c d : ℕ) → Bool
is_above (Piece demand turned) n c d = false
is_above Rest n c d = false
is_above (Trim axis a first) n c d = is_first_above n (cut_count first) c d || is_above first (n + 1) c d
is_above (Cut axis a first second) n c d =
    is_first_above n (cut_count first + cut_count second) c d || is_above first (n + 1) c d || is_above second (n + 1 + cut_count first) c d
