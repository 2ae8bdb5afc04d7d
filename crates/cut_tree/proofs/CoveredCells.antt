-- The rows of a tree share its rectangle out: each cell is in one of them, and each row has the cells of its node.
use Rattle.std.proofs.Common.{◌≡◌, ℕ, zero, suc, ◌+◌, ◌-◌, ◌<◌, ◌≤◌, List, [], ◌++◌, Bool, true, false, length, get_or, refl, ap, subst, sym, ◌∙◌, arith, cond, lt-ltb, ◌⊎◌, inl, inr}
use Rattle.std.specs.Prelude.{All, Any, AllPairs, if◌then◌else◌}
use Rattle.std.proofs.lemmas.List.Elements.{All-append, All-cons}
use Rattle.std.proofs.lemmas.List.{get_or_default, get_or_append_left, get_or-append_right, length-append}
use Rattle.std.proofs.lemmas.Bool.{cases_lt, le-ltb, and_parts, ltb-true}
use Rattle.std.proofs.Math.Dec.{ltb}
use Rattle.cut_measure.specs.declared.sizes.Axis.{Axis}
use Rattle.cut_measure.specs.declared.sizes.Axis.TheVariants.{X, Y}
use Rattle.cut_tree.specs.declared.lay.Owner.{Owner}
use Rattle.cut_tree.specs.declared.lay.Owner.TheVariants as owner
use Rattle.cut_tree.specs.declared.lay.Row.{Row}
use Rattle.cut_tree.specs.Tree.{Tree, Piece, Rest, Trim, Cut, IsShaped, node_count, cut_count}
use Rattle.cut_tree.specs.Cells.{Outcome, Made, LeftWhole, Spoiled, Split, Location, location_of, by_outcome, is_split, split_location}
use Rattle.cut_tree.specs.Laying.{CoversCell, IsLocation, IsLaid}
use Rattle.cut_tree.specs.Nodes.{rows_of, one_row, strip_row, split_rows, rows_by_outcome}

-- the cell (i, j) is in the rectangle at (x, y) of w by h
pub record Inside (x y w h i j : ℕ) : Type 0 where
  pub left : x ≤ i
  pub right : i < x + w
  pub top : y ≤ j
  pub bottom : j < y + h

-- The rows share a region out. Their nodes rise, from n on and below m.
pub record Covers (rows : List Row) (In : ℕ → ℕ → Type 0) (location : ℕ → ℕ → Location) (n m : ℕ) : Type 0 where
  pub low : All (λ r. n ≤ r.node) rows
  pub high : All (λ r. r.node < m) rows
  pub rising : AllPairs (λ r s. r.node < s.node) rows
  pub some_cell : All (λ r. (0 < r.w) × (0 < r.h)) rows
  pub own : All (λ r. (i j : ℕ) → CoversCell r i j → In i j × IsLocation r (location i j) i j) rows
  pub each : (i j : ℕ) → In i j → Any (λ r. CoversCell r i j) rows

-- rows whose nodes rise, after rows with lower ones
rising-append : (xs ys : List Row) (m : ℕ) → All (λ r. r.node < m) xs → All (λ r. m ≤ r.node) ys → AllPairs (λ r s. r.node < s.node) xs → AllPairs (λ r s. r.node < s.node) ys → AllPairs (λ r s. r.node < s.node) (xs ++ ys)
rising-append xs ys m below above p q i j d lt in_j =
    let len : length (xs ++ ys) ≡ length xs + length ys = length-append xs ys in
    elim (cases_lt j (length xs)) [
      | inl j_left ↦
          let i_left : i < length xs = omega arith in
          rw (get_or_append_left xs ys d i, get_or_append_left xs ys d j) (p i j d lt j_left)
      | inr j_right ↦
          elim (cases_lt i (length xs)) [
            | inl i_left ↦
                let right : length xs ≤ j = j_right in
                let here : j - length xs < length ys = omega arith in
                rw (get_or_append_left xs ys d i, get_or-append_right xs ys (length xs) j d refl j_right)
                (let a : (get_or xs i d).node < m = below i d i_left in
                let b : m ≤ (get_or ys (j - length xs) d).node = above (j - length xs) d here in
                omega arith)
            | inr i_right ↦
                let here : j - length xs < length ys = omega arith in
                let lt' : i - length xs < j - length xs = omega arith in
                rw (get_or-append_right xs ys (length xs) i d refl i_right, get_or-append_right xs ys (length xs) j d refl j_right)
                (q (i - length xs) (j - length xs) d lt' here)
          ]
    ]

Any-left : (P : Row → Type 0) (xs ys : List Row) → Any P xs → Any P (xs ++ ys)
Any-left P xs ys a =
    let in_xs : a.0 < length xs = a.2 in
    let len : length (xs ++ ys) ≡ length xs + length ys = length-append xs ys in
    (a.0, a.1, omega arith, get_or_append_left xs ys a.1 a.0 in_xs ∙ a.3, a.4)

Any-right : (P : Row → Type 0) (xs ys : List Row) → Any P ys → Any P (xs ++ ys)
Any-right P xs ys a =
    let in_ys : a.0 < length ys = a.2 in
    let len : length (xs ++ ys) ≡ length xs + length ys = length-append xs ys in
    let back : length xs + a.0 - length xs ≡ a.0 = omega arith in (
      length xs + a.0,
      a.1,
      omega arith,
      get_or-append_right xs ys (length xs) (length xs + a.0) a.1 refl (omega arith) ∙ ap (λ n. get_or ys n a.1) back ∙ a.3,
      a.4,
    )

module _ (In In' : ℕ → ℕ → Type 0) (location location' : ℕ → ℕ → Location) where
  -- the same rows, said of the same region in other words
  pub like : (rows : List Row) (n m n' m' : ℕ) → Covers rows In location n m → n' ≤ n → m ≤ m' → ((i j : ℕ) → In i j → In' i j × (location i j ≡ location' i j)) → ((i j : ℕ) → In' i j → In i j) → Covers rows In' location' n' m'
  like rows n m n' m' c below above to from = record {
    low = λ k d l. (let h : n ≤ (get_or rows k d).node = c.low k d l in omega arith);
    high = λ k d l. (let h : (get_or rows k d).node < m = c.high k d l in omega arith);
    rising = c.rising;
    some_cell = c.some_cell;
    own = λ k d l i j h.
        (let o : In i j × IsLocation (get_or rows k d) (location i j) i j = c.own k d l i j h in
        let t : In' i j × (location i j ≡ location' i j) = to i j o.0 in
        (t.0, subst (λ (s : Location). IsLocation (get_or rows k d) s i j) t.1 o.1));
    each = λ i j h. c.each i j (from i j h);
  }

-- rows of one region and rows of another, whose nodes come after them
pub both : (In In' : ℕ → ℕ → Type 0) (location : ℕ → ℕ → Location) (xs ys : List Row) (n m n' m' : ℕ) → Covers xs In location n m → Covers ys In' location n' m' → n ≤ n' → m ≤ n' → m ≤ m' → Covers (xs ++ ys) (λ i j. In i j ⊎ In' i j) location n m'
both In In' location xs ys n m n' m' a b nn mn mm = record {
  low = All-append (λ r. n ≤ r.node) xs ys a.low (λ k d l. (let h : n' ≤ (get_or ys k d).node = b.low k d l in omega arith));
  high = All-append (λ r. r.node < m') xs ys (λ k d l. (let h : (get_or xs k d).node < m = a.high k d l in omega arith)) b.high;
  rising = rising-append xs ys m a.high (λ k d l. (let h : n' ≤ (get_or ys k d).node = b.low k d l in omega arith)) a.rising b.rising;
  some_cell = All-append (λ r. (0 < r.w) × (0 < r.h)) xs ys a.some_cell b.some_cell;
  own = All-append (λ r. (i j : ℕ) → CoversCell r i j → (In i j ⊎ In' i j) × IsLocation r (location i j) i j) xs ys
      (λ k d l i j h. (let o : In i j × IsLocation (get_or xs k d) (location i j) i j = a.own k d l i j h in (inl o.0, o.1)))
      (λ k d l i j h. (let o : In' i j × IsLocation (get_or ys k d) (location i j) i j = b.own k d l i j h in (inr o.0, o.1)));
  each = λ i j h. elim h [ inl p ↦ Any-left (λ r. CoversCell r i j) xs ys (a.each i j p) | inr p ↦ Any-right (λ r. CoversCell r i j) xs ys (b.each i j p) ];
}

-- no row for a region without cells
pub none : (In : ℕ → ℕ → Type 0) (location : ℕ → ℕ → Location) (n m : ℕ) → ((i j : ℕ) → In i j → ⊥) → Covers [] In location n m
none In location n m empty = record {
  low = λ k d l. absurd (omega arith);
  high = λ k d l. absurd (omega arith);
  rising = λ i j d lt l. absurd (omega arith);
  some_cell = λ k d l. absurd (omega arith);
  own = λ k d l. absurd (omega arith);
  each = λ i j h. absurd (empty i j h);
}

-- one row for a whole rectangle
pub one : (x y w h n : ℕ) (owner : Owner) → 0 < w → 0 < h → Covers (one_row n x y w h owner) (Inside x y w h) (λ i j. record { node = n; owner = owner; w = w; h = h; x = i - x; y = j - y }) n (n + 1)
one x y w h n owner w_some h_some = record {
  low = All-cons (λ r. n ≤ r.node) _ [] (omega arith) (λ k d l. absurd (omega arith));
  high = All-cons (λ r. r.node < n + 1) _ [] (omega arith) (λ k d l. absurd (omega arith));
  rising = λ i j d lt l. absurd (omega arith);
  some_cell = All-cons (λ r. (0 < r.w) × (0 < r.h)) _ [] (w_some, h_some) (λ k d l. absurd (omega arith));
  own = All-cons (λ r. (i j : ℕ) → CoversCell r i j → Inside x y w h i j × IsLocation r (record { node = n; owner = owner; w = w; h = h; x = i - x; y = j - y }) i j) _ []
      (λ i j t. (
        record { left = t.left; right = t.right; top = t.top; bottom = t.bottom },
        record { node = refl; owner = refl; w = refl; h = refl; x = omega arith; y = omega arith },
      ))
      (λ k d l. absurd (omega arith));
  each = λ i j t. (
    0,
    record { node = n; x = x; y = y; w = w; h = h; owner = owner },
    omega arith,
    refl,
    record { left = t.left; right = t.right; top = t.top; bottom = t.bottom },
  );
}

if_lt : (p q : Location) (i a : ℕ) → i < a → cond (ltb i a) p q ≡ p
if_lt p q i a l = rw (lt-ltb i a l) refl

if_ge : (p q : Location) (i a : ℕ) → a ≤ i → cond (ltb i a) p q ≡ q
if_ge p q i a l = rw (le-ltb i a l) refl

-- the strip of a saw that may have no width
pub strip : (k x y w h n : ℕ) → (0 < k → (0 < w) × (0 < h)) → (k ≡ 0 → (w ≡ 0) ⊎ (h ≡ 0)) → Covers (strip_row k n x y w h) (Inside x y w h) (λ i j. record { node = n; owner = owner.Kerf; w = w; h = h; x = i - x; y = j - y }) n (n + 1)
strip zero x y w h n some empty = none _ _ n (n + 1) (λ i j t. elim (empty refl) [ inl e ↦ omega arith | inr e ↦ omega arith ])
strip (suc k) x y w h n some empty = let pos : 0 < suc k = omega arith in one x y w h n owner.Kerf (some pos).0 (some pos).1

-- The same for a cut along X that has no second part.
module _ (x y w h a n m : ℕ) (f s : ℕ → ℕ → Location) (kerf first : List Row) where
  pub trim_x : a < w → n + 1 ≤ m →
      Covers kerf (Inside (x + a) y (w - a) h) s n (n + 1) →
      Covers first (Inside x y a h) f (n + 1) m →
      Covers (kerf ++ first) (Inside x y w h) (λ i j. cond (ltb (i - x) a) (f i j) (s i j)) n m
  trim_x fits nm ck cf =
      let location : ℕ → ℕ → Location = λ i j. cond (ltb (i - x) a) (f i j) (s i j) in
      let In1 : ℕ → ℕ → Type 0 = λ i j. Inside (x + a) y (w - a) h i j in
      let In2 : ℕ → ℕ → Type 0 = λ i j. Inside x y a h i j in
      let ck' : Covers kerf In1 location n (n + 1) = like In1 In1 s location kerf n (n + 1) n (n + 1) ck (omega arith) (omega arith)
      (λ i j t. (t, sym (if_ge (f i j) (s i j) (i - x) a (omega arith)))) (λ i j t. t) in
      let cf' : Covers first In2 location (n + 1) m = like In2 In2 f location first (n + 1) m (n + 1) m cf (omega arith) (omega arith)
      (λ i j t. (t, sym (if_lt (f i j) (s i j) (i - x) a (omega arith)))) (λ i j t. t) in
      let two : Covers (kerf ++ first) (λ i j. In1 i j ⊎ In2 i j) location n m = both In1 In2 location kerf first n (n + 1) (n + 1) m ck' cf' (omega arith) (omega arith) (omega arith) in
      like (λ i j. In1 i j ⊎ In2 i j) (Inside x y w h) location location (kerf ++ first) n m n m two (omega arith) (omega arith)
      (λ i j t. (
        elim t [
          | inl u ↦ record { left = omega arith; right = omega arith; top = omega arith; bottom = omega arith }
          | inr u ↦ record { left = omega arith; right = omega arith; top = omega arith; bottom = omega arith }
        ],
        refl,
      ))
      (λ i j t. elim (cases_lt (i - x) a) [
        | inl l ↦ inr (record { left = omega arith; right = omega arith; top = omega arith; bottom = omega arith })
        | inr l ↦ inl (record { left = omega arith; right = omega arith; top = omega arith; bottom = omega arith })
      ])

-- The same for a cut along Y that has no second part.
module _ (x y w h a n m : ℕ) (f s : ℕ → ℕ → Location) (kerf first : List Row) where
  pub trim_y : a < h → n + 1 ≤ m →
      Covers kerf (Inside x (y + a) w (h - a)) s n (n + 1) →
      Covers first (Inside x y w a) f (n + 1) m →
      Covers (kerf ++ first) (Inside x y w h) (λ i j. cond (ltb (j - y) a) (f i j) (s i j)) n m
  trim_y fits nm ck cf =
      let location : ℕ → ℕ → Location = λ i j. cond (ltb (j - y) a) (f i j) (s i j) in
      let In1 : ℕ → ℕ → Type 0 = λ i j. Inside x (y + a) w (h - a) i j in
      let In2 : ℕ → ℕ → Type 0 = λ i j. Inside x y w a i j in
      let ck' : Covers kerf In1 location n (n + 1) = like In1 In1 s location kerf n (n + 1) n (n + 1) ck (omega arith) (omega arith)
      (λ i j t. (t, sym (if_ge (f i j) (s i j) (j - y) a (omega arith)))) (λ i j t. t) in
      let cf' : Covers first In2 location (n + 1) m = like In2 In2 f location first (n + 1) m (n + 1) m cf (omega arith) (omega arith)
      (λ i j t. (t, sym (if_lt (f i j) (s i j) (j - y) a (omega arith)))) (λ i j t. t) in
      let two : Covers (kerf ++ first) (λ i j. In1 i j ⊎ In2 i j) location n m = both In1 In2 location kerf first n (n + 1) (n + 1) m ck' cf' (omega arith) (omega arith) (omega arith) in
      like (λ i j. In1 i j ⊎ In2 i j) (Inside x y w h) location location (kerf ++ first) n m n m two (omega arith) (omega arith)
      (λ i j t. (
        elim t [
          | inl u ↦ record { left = omega arith; right = omega arith; top = omega arith; bottom = omega arith }
          | inr u ↦ record { left = omega arith; right = omega arith; top = omega arith; bottom = omega arith }
        ],
        refl,
      ))
      (λ i j t. elim (cases_lt (j - y) a) [
        | inl l ↦ inr (record { left = omega arith; right = omega arith; top = omega arith; bottom = omega arith })
        | inr l ↦ inl (record { left = omega arith; right = omega arith; top = omega arith; bottom = omega arith })
      ])

-- The parts of a rectangle that a cut along X makes, after one another, share it out.
module _ (x y w h k a n n1 n2 m : ℕ) (f s g : ℕ → ℕ → Location) (kerf first second : List Row) where
  pub cut_x : a + k < w → n + 1 ≤ n1 → n1 ≤ n2 → n2 ≤ m →
      Covers kerf (Inside (x + a) y k h) s n (n + 1) →
      Covers first (Inside x y a h) f n1 n2 →
      Covers second (Inside (x + a + k) y (w - a - k) h) g n2 m →
      Covers (kerf ++ first ++ second) (Inside x y w h) (λ i j. cond (ltb (i - x) a) (f i j) (cond (ltb (i - x) (a + k)) (s i j) (g i j))) n m
  cut_x fits nn1 n12 n2m ck cf cs =
      let location : ℕ → ℕ → Location = λ i j. cond (ltb (i - x) a) (f i j) (cond (ltb (i - x) (a + k)) (s i j) (g i j)) in
      let In1 : ℕ → ℕ → Type 0 = λ i j. Inside (x + a) y k h i j in
      let In2 : ℕ → ℕ → Type 0 = λ i j. Inside x y a h i j in
      let In3 : ℕ → ℕ → Type 0 = λ i j. Inside (x + a + k) y (w - a - k) h i j in
      let ck' : Covers kerf In1 location n (n + 1) = like In1 In1 s location kerf n (n + 1) n (n + 1) ck (omega arith) (omega arith)
      (λ i j t. (t, sym (if_ge (f i j) _ (i - x) a (omega arith) ∙ if_lt (s i j) (g i j) (i - x) (a + k) (omega arith)))) (λ i j t. t) in
      let cf' : Covers first In2 location n1 n2 = like In2 In2 f location first n1 n2 n1 n2 cf (omega arith) (omega arith)
      (λ i j t. (t, sym (if_lt (f i j) _ (i - x) a (omega arith)))) (λ i j t. t) in
      let cs' : Covers second In3 location n2 m = like In3 In3 g location second n2 m n2 m cs (omega arith) (omega arith)
      (λ i j t. (t, sym (if_ge (f i j) _ (i - x) a (omega arith) ∙ if_ge (s i j) (g i j) (i - x) (a + k) (omega arith)))) (λ i j t. t) in
      let two : Covers (kerf ++ first) (λ i j. In1 i j ⊎ In2 i j) location n n2 = both In1 In2 location kerf first n (n + 1) n1 n2 ck' cf' (omega arith) (omega arith) (omega arith) in
      let three : Covers ((kerf ++ first) ++ second) (λ i j. (In1 i j ⊎ In2 i j) ⊎ In3 i j) location n m = both (λ i j. In1 i j ⊎ In2 i j) In3 location (kerf ++ first) second n n2 n2 m two cs' (omega arith) (omega arith) (omega arith) in
      like (λ i j. (In1 i j ⊎ In2 i j) ⊎ In3 i j) (Inside x y w h) location location ((kerf ++ first) ++ second) n m n m three (omega arith) (omega arith)
      (λ i j t. (
        elim t [
          | inl t' ↦ elim t' [
            | inl u ↦ record { left = omega arith; right = omega arith; top = omega arith; bottom = omega arith }
            | inr u ↦ record { left = omega arith; right = omega arith; top = omega arith; bottom = omega arith }
          ]
          | inr u ↦ record { left = omega arith; right = omega arith; top = omega arith; bottom = omega arith }
        ],
        refl,
      ))
      (λ i j t. elim (cases_lt (i - x) a) [
        | inl l ↦ inl (inr (record { left = omega arith; right = omega arith; top = omega arith; bottom = omega arith }))
        | inr l ↦ elim (cases_lt (i - x) (a + k)) [
          | inl l' ↦ inl (inl (record { left = omega arith; right = omega arith; top = omega arith; bottom = omega arith }))
          | inr l' ↦ inr (record { left = omega arith; right = omega arith; top = omega arith; bottom = omega arith })
        ]
      ])

-- The parts of a rectangle that a cut along Y makes, after one another, share it out.
module _ (x y w h k a n n1 n2 m : ℕ) (f s g : ℕ → ℕ → Location) (kerf first second : List Row) where
  pub cut_y : a + k < h → n + 1 ≤ n1 → n1 ≤ n2 → n2 ≤ m →
      Covers kerf (Inside x (y + a) w k) s n (n + 1) →
      Covers first (Inside x y w a) f n1 n2 →
      Covers second (Inside x (y + a + k) w (h - a - k)) g n2 m →
      Covers (kerf ++ first ++ second) (Inside x y w h) (λ i j. cond (ltb (j - y) a) (f i j) (cond (ltb (j - y) (a + k)) (s i j) (g i j))) n m
  cut_y fits nn1 n12 n2m ck cf cs =
      let location : ℕ → ℕ → Location = λ i j. cond (ltb (j - y) a) (f i j) (cond (ltb (j - y) (a + k)) (s i j) (g i j)) in
      let In1 : ℕ → ℕ → Type 0 = λ i j. Inside x (y + a) w k i j in
      let In2 : ℕ → ℕ → Type 0 = λ i j. Inside x y w a i j in
      let In3 : ℕ → ℕ → Type 0 = λ i j. Inside x (y + a + k) w (h - a - k) i j in
      let ck' : Covers kerf In1 location n (n + 1) = like In1 In1 s location kerf n (n + 1) n (n + 1) ck (omega arith) (omega arith)
      (λ i j t. (t, sym (if_ge (f i j) _ (j - y) a (omega arith) ∙ if_lt (s i j) (g i j) (j - y) (a + k) (omega arith)))) (λ i j t. t) in
      let cf' : Covers first In2 location n1 n2 = like In2 In2 f location first n1 n2 n1 n2 cf (omega arith) (omega arith)
      (λ i j t. (t, sym (if_lt (f i j) _ (j - y) a (omega arith)))) (λ i j t. t) in
      let cs' : Covers second In3 location n2 m = like In3 In3 g location second n2 m n2 m cs (omega arith) (omega arith)
      (λ i j t. (t, sym (if_ge (f i j) _ (j - y) a (omega arith) ∙ if_ge (s i j) (g i j) (j - y) (a + k) (omega arith)))) (λ i j t. t) in
      let two : Covers (kerf ++ first) (λ i j. In1 i j ⊎ In2 i j) location n n2 = both In1 In2 location kerf first n (n + 1) n1 n2 ck' cf' (omega arith) (omega arith) (omega arith) in
      let three : Covers ((kerf ++ first) ++ second) (λ i j. (In1 i j ⊎ In2 i j) ⊎ In3 i j) location n m = both (λ i j. In1 i j ⊎ In2 i j) In3 location (kerf ++ first) second n n2 n2 m two cs' (omega arith) (omega arith) (omega arith) in
      like (λ i j. (In1 i j ⊎ In2 i j) ⊎ In3 i j) (Inside x y w h) location location ((kerf ++ first) ++ second) n m n m three (omega arith) (omega arith)
      (λ i j t. (
        elim t [
          | inl t' ↦ elim t' [
            | inl u ↦ record { left = omega arith; right = omega arith; top = omega arith; bottom = omega arith }
            | inr u ↦ record { left = omega arith; right = omega arith; top = omega arith; bottom = omega arith }
          ]
          | inr u ↦ record { left = omega arith; right = omega arith; top = omega arith; bottom = omega arith }
        ],
        refl,
      ))
      (λ i j t. elim (cases_lt (j - y) a) [
        | inl l ↦ inl (inr (record { left = omega arith; right = omega arith; top = omega arith; bottom = omega arith }))
        | inr l ↦ elim (cases_lt (j - y) (a + k)) [
          | inl l' ↦ inl (inl (record { left = omega arith; right = omega arith; top = omega arith; bottom = omega arith }))
          | inr l' ↦ inr (record { left = omega arith; right = omega arith; top = omega arith; bottom = omega arith })
        ]
      ])

minus : (i x a : ℕ) → i - (x + a) ≡ i - x - a
minus i x a = omega arith

minus_two : (i x a k : ℕ) → i - (x + a + k) ≡ i - x - a - k
minus_two i x a k = omega arith

-- what a tree's rows have to share out
abbrev Shares : Tree → (x y w h k : ℕ) → (ℕ → Outcome) → (n c : ℕ) → Type 0
Shares t x y w h k outcome n c = Covers (rows_of t x y w h k outcome n c) (Inside x y w h) (λ i j. location_of t w h k outcome n c (i - x) (j - y)) n (n + node_count t)

-- a tree has a node
some_node : (t : Tree) → 1 ≤ node_count t
some_node (Piece d turned) = omega arith
some_node Rest = omega arith
some_node (Trim axis a first) = omega arith
some_node (Cut axis a first second) = omega arith

-- the columns of a rectangle that are lost, and those that are left after them
module _ (x y w h n rest : ℕ) where
  split_x : 0 < w → 0 < h → Covers (split_rows X n x y w h rest) (Inside x y w h) (λ i j. split_location X n w h rest (i - x) (j - y)) n (n + 2)
  split_x wp hp = by (is_split rest w) refl
    where
      by : (b : Bool) → is_split rest w ≡ b
          → Covers (if b then one_row n x y (w - rest) h owner.Lost ++ one_row (n + 1) (x + (w - rest)) y rest h owner.Rest else one_row n x y w h owner.Lost) (Inside x y w h)
          (λ i j. if b
          then (cond (ltb (i - x) (w - rest)) (record { node = n; owner = owner.Lost; w = w - rest; h = h; x = i - x; y = j - y }) (record { node = n + 1; owner = owner.Rest; w = rest; h = h; x = i - x - (w - rest); y = j - y }))
          else record { node = n; owner = owner.Lost; w = w; h = h; x = i - x; y = j - y }) n (n + 2)
      by true e =
          let both_parts = and_parts (ltb 0 rest) (ltb rest w) e in
          let some : 0 < rest = ltb-true 0 rest both_parts.0 in
          let less : rest < w = ltb-true rest w both_parts.1 in
          let f : ℕ → ℕ → Location = λ i j. record { node = n; owner = owner.Lost; w = w - rest; h = h; x = i - x; y = j - y } in
          let g : ℕ → ℕ → Location = λ i j. record { node = n + 1; owner = owner.Rest; w = rest; h = h; x = i - x - (w - rest); y = j - y } in
          let location : ℕ → ℕ → Location = λ i j. cond (ltb (i - x) (w - rest)) (f i j) (g i j) in
          let In1 : ℕ → ℕ → Type 0 = λ i j. Inside x y (w - rest) h i j in
          let In2 : ℕ → ℕ → Type 0 = λ i j. Inside (x + (w - rest)) y rest h i j in
          let lost : Covers (one_row n x y (w - rest) h owner.Lost) In1 location n (n + 1) =
          like In1 In1 f location _ n (n + 1) n (n + 1) (one x y (w - rest) h n owner.Lost (omega arith) hp) (omega arith) (omega arith)
          (λ i j t. (t, sym (if_lt (f i j) (g i j) (i - x) (w - rest) (omega arith)))) (λ i j t. t) in
          let left : Covers (one_row (n + 1) (x + (w - rest)) y rest h owner.Rest) In2 location (n + 1) (n + 2) =
          like In2 In2 (λ i j. record { node = n + 1; owner = owner.Rest; w = rest; h = h; x = i - (x + (w - rest)); y = j - y }) location _ (n + 1) (n + 1 + 1) (n + 1) (n + 2)
          (one (x + (w - rest)) y rest h (n + 1) owner.Rest some hp) (omega arith) (omega arith)
          (λ i j t. (t, ap (λ v. (let r : Location = record { node = n + 1; owner = owner.Rest; w = rest; h = h; x = v; y = j - y } in r)) (minus i x (w - rest)) ∙ sym (if_ge (f i j) (g i j) (i - x) (w - rest) (omega arith)))) (λ i j t. t) in
          like (λ i j. In1 i j ⊎ In2 i j) (Inside x y w h) location location _ n (n + 2) n (n + 2)
          (both In1 In2 location _ _ n (n + 1) (n + 1) (n + 2) lost left (omega arith) (omega arith) (omega arith)) (omega arith) (omega arith)
          (λ i j t. (
            elim t [
              | inl v ↦ record { left = omega arith; right = omega arith; top = omega arith; bottom = omega arith }
              | inr v ↦ record { left = omega arith; right = omega arith; top = omega arith; bottom = omega arith }
            ],
            refl,
          ))
          (λ i j t. elim (cases_lt (i - x) (w - rest)) [
            | inl l ↦ inl (record { left = omega arith; right = omega arith; top = omega arith; bottom = omega arith })
            | inr l ↦ inr (record { left = omega arith; right = omega arith; top = omega arith; bottom = omega arith })
          ])
      by false e =
          like _ _ (λ i j. record { node = n; owner = owner.Lost; w = w; h = h; x = i - x; y = j - y }) _ _ n (n + 1) n (n + 2) (one x y w h n owner.Lost wp hp) (omega arith) (omega arith) (λ i j t. (t, refl)) (λ i j t. t)

  -- the same of rows
  split_y : 0 < w → 0 < h → Covers (split_rows Y n x y w h rest) (Inside x y w h) (λ i j. split_location Y n w h rest (i - x) (j - y)) n (n + 2)
  split_y wp hp = by (is_split rest h) refl
    where
      by : (b : Bool) → is_split rest h ≡ b
          → Covers (if b then one_row n x y w (h - rest) owner.Lost ++ one_row (n + 1) x (y + (h - rest)) w rest owner.Rest else one_row n x y w h owner.Lost) (Inside x y w h)
          (λ i j. if b
          then (cond (ltb (j - y) (h - rest)) (record { node = n; owner = owner.Lost; w = w; h = h - rest; x = i - x; y = j - y }) (record { node = n + 1; owner = owner.Rest; w = w; h = rest; x = i - x; y = j - y - (h - rest) }))
          else record { node = n; owner = owner.Lost; w = w; h = h; x = i - x; y = j - y }) n (n + 2)
      by true e =
          let both_parts = and_parts (ltb 0 rest) (ltb rest h) e in
          let some : 0 < rest = ltb-true 0 rest both_parts.0 in
          let less : rest < h = ltb-true rest h both_parts.1 in
          let f : ℕ → ℕ → Location = λ i j. record { node = n; owner = owner.Lost; w = w; h = h - rest; x = i - x; y = j - y } in
          let g : ℕ → ℕ → Location = λ i j. record { node = n + 1; owner = owner.Rest; w = w; h = rest; x = i - x; y = j - y - (h - rest) } in
          let location : ℕ → ℕ → Location = λ i j. cond (ltb (j - y) (h - rest)) (f i j) (g i j) in
          let In1 : ℕ → ℕ → Type 0 = λ i j. Inside x y w (h - rest) i j in
          let In2 : ℕ → ℕ → Type 0 = λ i j. Inside x (y + (h - rest)) w rest i j in
          let lost : Covers (one_row n x y w (h - rest) owner.Lost) In1 location n (n + 1) =
          like In1 In1 f location _ n (n + 1) n (n + 1) (one x y w (h - rest) n owner.Lost wp (omega arith)) (omega arith) (omega arith)
          (λ i j t. (t, sym (if_lt (f i j) (g i j) (j - y) (h - rest) (omega arith)))) (λ i j t. t) in
          let left : Covers (one_row (n + 1) x (y + (h - rest)) w rest owner.Rest) In2 location (n + 1) (n + 2) =
          like In2 In2 (λ i j. record { node = n + 1; owner = owner.Rest; w = w; h = rest; x = i - x; y = j - (y + (h - rest)) }) location _ (n + 1) (n + 1 + 1) (n + 1) (n + 2)
          (one x (y + (h - rest)) w rest (n + 1) owner.Rest wp some) (omega arith) (omega arith)
          (λ i j t. (t, ap (λ v. (let r : Location = record { node = n + 1; owner = owner.Rest; w = w; h = rest; x = i - x; y = v } in r)) (minus j y (h - rest)) ∙ sym (if_ge (f i j) (g i j) (j - y) (h - rest) (omega arith)))) (λ i j t. t) in
          like (λ i j. In1 i j ⊎ In2 i j) (Inside x y w h) location location _ n (n + 2) n (n + 2)
          (both In1 In2 location _ _ n (n + 1) (n + 1) (n + 2) lost left (omega arith) (omega arith) (omega arith)) (omega arith) (omega arith)
          (λ i j t. (
            elim t [
              | inl v ↦ record { left = omega arith; right = omega arith; top = omega arith; bottom = omega arith }
              | inr v ↦ record { left = omega arith; right = omega arith; top = omega arith; bottom = omega arith }
            ],
            refl,
          ))
          (λ i j t. elim (cases_lt (j - y) (h - rest)) [
            | inl l ↦ inl (record { left = omega arith; right = omega arith; top = omega arith; bottom = omega arith })
            | inr l ↦ inr (record { left = omega arith; right = omega arith; top = omega arith; bottom = omega arith })
          ])
      by false e =
          like _ _ (λ i j. record { node = n; owner = owner.Lost; w = w; h = h; x = i - x; y = j - y }) _ _ n (n + 1) n (n + 2) (one x y w h n owner.Lost wp hp) (omega arith) (omega arith) (λ i j t. (t, refl)) (λ i j t. t)

  split : (axis : Axis) → 0 < w → 0 < h → Covers (split_rows axis n x y w h rest) (Inside x y w h) (λ i j. split_location axis n w h rest (i - x) (j - y)) n (n + 2)
  split X = split_x
  split Y = split_y

-- the rectangle of a cut that isn't made, or what its parts share out
by_cases : (axis : Axis) (v : Outcome) (made : List Row) (location : ℕ → ℕ → Location) (x y w h n m : ℕ) → 0 < w → 0 < h → n + 2 ≤ m → Covers made (Inside x y w h) location n m →
    Covers (rows_by_outcome axis v made n x y w h) (Inside x y w h)
    (λ i j. by_outcome v (location i j) (record { node = n; owner = owner.Uncut; w = w; h = h; x = i - x; y = j - y }) (record { node = n; owner = owner.Lost; w = w; h = h; x = i - x; y = j - y })
    (λ rest. split_location axis n w h rest (i - x) (j - y))) n m
by_cases axis Made made location x y w h n m wp hp nm c = c
by_cases axis LeftWhole made location x y w h n m wp hp nm c =
    like _ _ (λ i j. record { node = n; owner = owner.Uncut; w = w; h = h; x = i - x; y = j - y }) _ _ n (n + 1) n m (one x y w h n owner.Uncut wp hp) (omega arith) (omega arith) (λ i j t. (t, refl)) (λ i j t. t)
by_cases axis Spoiled made location x y w h n m wp hp nm c =
    like _ _ (λ i j. record { node = n; owner = owner.Lost; w = w; h = h; x = i - x; y = j - y }) _ _ n (n + 1) n m (one x y w h n owner.Lost wp hp) (omega arith) (omega arith) (λ i j t. (t, refl)) (λ i j t. t)
by_cases axis (Split rest) made location x y w h n m wp hp nm c =
    like _ _ (λ i j. split_location axis n w h rest (i - x) (j - y)) _ _ n (n + 2) n m (split x y w h n rest axis wp hp) (omega arith) nm (λ i j t. (t, refl)) (λ i j t. t)

-- The rows of a tree share its rectangle out.
pub covers : (t : Tree) (x y w h k : ℕ) (outcome : ℕ → Outcome) (n c : ℕ) → 0 < w → 0 < h → IsShaped t w h k → Shares t x y w h k outcome n c
unfolding location_of
covers (Piece d turned) x y w h k outcome n c wp hp shaped = one x y w h n (owner.Piece d) wp hp
covers Rest x y w h k outcome n c wp hp shaped = one x y w h n owner.Rest wp hp
covers (Trim X a first) x y w h k outcome n c wp hp shaped =
    let ap_ : 1 ≤ a = shaped.0 in let fits : a < w = shaped.1 in let reach : w ≤ a + k = shaped.2 in
    let f : ℕ → ℕ → Location = λ i j. location_of first a h k outcome (n + 1) (c + 1) (i - x) (j - y) in
    let s : ℕ → ℕ → Location = λ i j. record { node = n; owner = owner.Kerf; w = w - a; h = h; x = i - x - a; y = j - y } in
    let ck : Covers (strip_row k n (x + a) y (w - a) h) (Inside (x + a) y (w - a) h) s n (n + 1) =
    like (Inside (x + a) y (w - a) h) (Inside (x + a) y (w - a) h) (λ i j. record { node = n; owner = owner.Kerf; w = w - a; h = h; x = i - (x + a); y = j - y }) s _ n (n + 1) n (n + 1)
    (strip k (x + a) y (w - a) h n (λ z. (omega arith, hp)) (λ z. inl (omega arith))) (omega arith) (omega arith)
    (λ i j t. (t, ap (λ v. (let r : Location = record { node = n; owner = owner.Kerf; w = w - a; h = h; x = v; y = j - y } in r)) (minus i x a))) (λ i j t. t) in
    let cf : Covers (rows_of first x y a h k outcome (n + 1) (c + 1)) (Inside x y a h) f (n + 1) (n + 1 + node_count first) =
    covers first x y a h k outcome (n + 1) (c + 1) (omega arith) (omega arith) shaped.3 in
    let all : Covers (strip_row k n (x + a) y (w - a) h ++ rows_of first x y a h k outcome (n + 1) (c + 1)) (Inside x y w h) (λ i j. cond (ltb (i - x) a) (f i j) (s i j)) n (n + (1 + node_count first)) =
    like (Inside x y w h) (Inside x y w h) (λ i j. cond (ltb (i - x) a) (f i j) (s i j)) (λ i j. cond (ltb (i - x) a) (f i j) (s i j)) _ n (n + 1 + node_count first) n (n + (1 + node_count first))
    (trim_x x y w h a n (n + 1 + node_count first) f s _ _ fits (omega arith) ck cf) (omega arith) (omega arith) (λ i j t. (t, refl)) (λ i j t. t) in
    let least = some_node first in
    by_cases X (outcome c) _ (λ i j. cond (ltb (i - x) a) (f i j) (s i j)) x y w h n (n + (1 + node_count first)) wp hp (omega (arith, least)) all
covers (Trim Y a first) x y w h k outcome n c wp hp shaped =
    let ap_ : 1 ≤ a = shaped.0 in let fits : a < h = shaped.1 in let reach : h ≤ a + k = shaped.2 in
    let f : ℕ → ℕ → Location = λ i j. location_of first w a k outcome (n + 1) (c + 1) (i - x) (j - y) in
    let s : ℕ → ℕ → Location = λ i j. record { node = n; owner = owner.Kerf; w = w; h = h - a; x = i - x; y = j - y - a } in
    let ck : Covers (strip_row k n x (y + a) w (h - a)) (Inside x (y + a) w (h - a)) s n (n + 1) =
    like (Inside x (y + a) w (h - a)) (Inside x (y + a) w (h - a)) (λ i j. record { node = n; owner = owner.Kerf; w = w; h = h - a; x = i - x; y = j - (y + a) }) s _ n (n + 1) n (n + 1)
    (strip k x (y + a) w (h - a) n (λ z. (wp, omega arith)) (λ z. inr (omega arith))) (omega arith) (omega arith)
    (λ i j t. (t, ap (λ v. (let r : Location = record { node = n; owner = owner.Kerf; w = w; h = h - a; x = i - x; y = v } in r)) (minus j y a))) (λ i j t. t) in
    let cf : Covers (rows_of first x y w a k outcome (n + 1) (c + 1)) (Inside x y w a) f (n + 1) (n + 1 + node_count first) =
    covers first x y w a k outcome (n + 1) (c + 1) (omega arith) (omega arith) shaped.3 in
    let all : Covers (strip_row k n x (y + a) w (h - a) ++ rows_of first x y w a k outcome (n + 1) (c + 1)) (Inside x y w h) (λ i j. cond (ltb (j - y) a) (f i j) (s i j)) n (n + (1 + node_count first)) =
    like (Inside x y w h) (Inside x y w h) (λ i j. cond (ltb (j - y) a) (f i j) (s i j)) (λ i j. cond (ltb (j - y) a) (f i j) (s i j)) _ n (n + 1 + node_count first) n (n + (1 + node_count first))
    (trim_y x y w h a n (n + 1 + node_count first) f s _ _ fits (omega arith) ck cf) (omega arith) (omega arith) (λ i j t. (t, refl)) (λ i j t. t) in
    let least = some_node first in
    by_cases Y (outcome c) _ (λ i j. cond (ltb (j - y) a) (f i j) (s i j)) x y w h n (n + (1 + node_count first)) wp hp (omega (arith, least)) all
covers (Cut X a first second) x y w h k outcome n c wp hp shaped =
    let ap_ : 1 ≤ a = shaped.0 in let fits : a + k < w = shaped.1 in
    let f : ℕ → ℕ → Location = λ i j. location_of first a h k outcome (n + 1) (c + 1) (i - x) (j - y) in
    let s : ℕ → ℕ → Location = λ i j. record { node = n; owner = owner.Kerf; w = k; h = h; x = i - x - a; y = j - y } in
    let g : ℕ → ℕ → Location = λ i j. location_of second (w - a - k) h k outcome (n + 1 + node_count first) (c + 1 + cut_count first) (i - x - a - k) (j - y) in
    let ck : Covers (strip_row k n (x + a) y k h) (Inside (x + a) y k h) s n (n + 1) =
    like (Inside (x + a) y k h) (Inside (x + a) y k h) (λ i j. record { node = n; owner = owner.Kerf; w = k; h = h; x = i - (x + a); y = j - y }) s _ n (n + 1) n (n + 1)
    (strip k (x + a) y k h n (λ z. (z, hp)) (λ z. inl z)) (omega arith) (omega arith)
    (λ i j t. (t, ap (λ v. (let r : Location = record { node = n; owner = owner.Kerf; w = k; h = h; x = v; y = j - y } in r)) (minus i x a))) (λ i j t. t) in
    let cf : Covers (rows_of first x y a h k outcome (n + 1) (c + 1)) (Inside x y a h) f (n + 1) (n + 1 + node_count first) =
    covers first x y a h k outcome (n + 1) (c + 1) (omega arith) (omega arith) shaped.2 in
    let cs : Covers (rows_of second (x + a + k) y (w - a - k) h k outcome (n + 1 + node_count first) (c + 1 + cut_count first)) (Inside (x + a + k) y (w - a - k) h) g (n + 1 + node_count first) (n + 1 + node_count first + node_count second) =
    like (Inside (x + a + k) y (w - a - k) h) (Inside (x + a + k) y (w - a - k) h) (λ i j. location_of second (w - a - k) h k outcome (n + 1 + node_count first) (c + 1 + cut_count first) (i - (x + a + k)) (j - y)) g _ (n + 1 + node_count first) (n + 1 + node_count first + node_count second) (n + 1 + node_count first) (n + 1 + node_count first + node_count second)
    (covers second (x + a + k) y (w - a - k) h k outcome (n + 1 + node_count first) (c + 1 + cut_count first) (omega arith) (omega arith) shaped.3) (omega arith) (omega arith)
    (λ i j t. (t, ap (λ v. location_of second (w - a - k) h k outcome (n + 1 + node_count first) (c + 1 + cut_count first) v (j - y)) (minus_two i x a k))) (λ i j t. t) in
    let all : Covers (strip_row k n (x + a) y k h ++ rows_of first x y a h k outcome (n + 1) (c + 1) ++ rows_of second (x + a + k) y (w - a - k) h k outcome (n + 1 + node_count first) (c + 1 + cut_count first)) (Inside x y w h) (λ i j. cond (ltb (i - x) a) (f i j) (cond (ltb (i - x) (a + k)) (s i j) (g i j))) n (n + (1 + node_count first + node_count second)) =
    like (Inside x y w h) (Inside x y w h) (λ i j. cond (ltb (i - x) a) (f i j) (cond (ltb (i - x) (a + k)) (s i j) (g i j))) (λ i j. cond (ltb (i - x) a) (f i j) (cond (ltb (i - x) (a + k)) (s i j) (g i j))) _ n (n + 1 + node_count first + node_count second) n (n + (1 + node_count first + node_count second))
    (cut_x x y w h k a n (n + 1) (n + 1 + node_count first) (n + 1 + node_count first + node_count second) f s g _ _ _ fits (omega arith) (omega arith) (omega arith) ck cf cs) (omega arith) (omega arith) (λ i j t. (t, refl)) (λ i j t. t) in
    let least = some_node first in
    by_cases X (outcome c) _ (λ i j. cond (ltb (i - x) a) (f i j) (cond (ltb (i - x) (a + k)) (s i j) (g i j))) x y w h n (n + (1 + node_count first + node_count second)) wp hp (omega (arith, least)) all
covers (Cut Y a first second) x y w h k outcome n c wp hp shaped =
    let ap_ : 1 ≤ a = shaped.0 in let fits : a + k < h = shaped.1 in
    let f : ℕ → ℕ → Location = λ i j. location_of first w a k outcome (n + 1) (c + 1) (i - x) (j - y) in
    let s : ℕ → ℕ → Location = λ i j. record { node = n; owner = owner.Kerf; w = w; h = k; x = i - x; y = j - y - a } in
    let g : ℕ → ℕ → Location = λ i j. location_of second w (h - a - k) k outcome (n + 1 + node_count first) (c + 1 + cut_count first) (i - x) (j - y - a - k) in
    let ck : Covers (strip_row k n x (y + a) w k) (Inside x (y + a) w k) s n (n + 1) =
    like (Inside x (y + a) w k) (Inside x (y + a) w k) (λ i j. record { node = n; owner = owner.Kerf; w = w; h = k; x = i - x; y = j - (y + a) }) s _ n (n + 1) n (n + 1)
    (strip k x (y + a) w k n (λ z. (wp, z)) (λ z. inr z)) (omega arith) (omega arith)
    (λ i j t. (t, ap (λ v. (let r : Location = record { node = n; owner = owner.Kerf; w = w; h = k; x = i - x; y = v } in r)) (minus j y a))) (λ i j t. t) in
    let cf : Covers (rows_of first x y w a k outcome (n + 1) (c + 1)) (Inside x y w a) f (n + 1) (n + 1 + node_count first) =
    covers first x y w a k outcome (n + 1) (c + 1) (omega arith) (omega arith) shaped.2 in
    let cs : Covers (rows_of second x (y + a + k) w (h - a - k) k outcome (n + 1 + node_count first) (c + 1 + cut_count first)) (Inside x (y + a + k) w (h - a - k)) g (n + 1 + node_count first) (n + 1 + node_count first + node_count second) =
    like (Inside x (y + a + k) w (h - a - k)) (Inside x (y + a + k) w (h - a - k)) (λ i j. location_of second w (h - a - k) k outcome (n + 1 + node_count first) (c + 1 + cut_count first) (i - x) (j - (y + a + k))) g _ (n + 1 + node_count first) (n + 1 + node_count first + node_count second) (n + 1 + node_count first) (n + 1 + node_count first + node_count second)
    (covers second x (y + a + k) w (h - a - k) k outcome (n + 1 + node_count first) (c + 1 + cut_count first) (omega arith) (omega arith) shaped.3) (omega arith) (omega arith)
    (λ i j t. (t, ap (λ v. location_of second w (h - a - k) k outcome (n + 1 + node_count first) (c + 1 + cut_count first) (i - x) v) (minus_two j y a k))) (λ i j t. t) in
    let all : Covers (strip_row k n x (y + a) w k ++ rows_of first x y w a k outcome (n + 1) (c + 1) ++ rows_of second x (y + a + k) w (h - a - k) k outcome (n + 1 + node_count first) (c + 1 + cut_count first)) (Inside x y w h) (λ i j. cond (ltb (j - y) a) (f i j) (cond (ltb (j - y) (a + k)) (s i j) (g i j))) n (n + (1 + node_count first + node_count second)) =
    like (Inside x y w h) (Inside x y w h) (λ i j. cond (ltb (j - y) a) (f i j) (cond (ltb (j - y) (a + k)) (s i j) (g i j))) (λ i j. cond (ltb (j - y) a) (f i j) (cond (ltb (j - y) (a + k)) (s i j) (g i j))) _ n (n + 1 + node_count first + node_count second) n (n + (1 + node_count first + node_count second))
    (cut_y x y w h k a n (n + 1) (n + 1 + node_count first) (n + 1 + node_count first + node_count second) f s g _ _ _ fits (omega arith) (omega arith) (omega arith) ck cf cs) (omega arith) (omega arith) (λ i j t. (t, refl)) (λ i j t. t) in
    let least = some_node first in
    by_cases Y (outcome c) _ (λ i j. cond (ltb (j - y) a) (f i j) (cond (ltb (j - y) (a + k)) (s i j) (g i j))) x y w h n (n + (1 + node_count first + node_count second)) wp hp (omega (arith, least)) all

at_origin : (t : Tree) (w h k : ℕ) (outcome : ℕ → Outcome) (i j : ℕ) → location_of t w h k outcome 0 0 (i - 0) (j - 0) ≡ location_of t w h k outcome 0 0 i j
at_origin t w h k outcome i j =
    ap (λ v. location_of t w h k outcome 0 0 v (j - 0)) (let e : i - 0 ≡ i = omega arith in e)
    ∙ ap (λ v. location_of t w h k outcome 0 0 i v) (let e : j - 0 ≡ j = omega arith in e)

-- two rows of one node are one row
same_row : (rows : List Row) (k l : ℕ) (d e : Row) → AllPairs (λ r s. r.node < s.node) rows → k < length rows → l < length rows → (get_or rows k d).node ≡ (get_or rows l e).node → k ≡ l
same_row rows k l d e rising k_in l_in same =
    let same' : (get_or rows k d).node ≡ (get_or rows l d).node = same ∙ ap (λ r. r.node) (get_or_default rows l e d l_in) in
    elim (cases_lt k l) [
      | inl lt ↦ (let h : (get_or rows k d).node < (get_or rows l d).node = rising k l d lt l_in in absurd (omega arith))
      | inr ge ↦ elim (cases_lt l k) [
        | inl lt ↦ (let h : (get_or rows l d).node < (get_or rows k d).node = rising l k d lt k_in in absurd (omega arith))
        | inr le ↦ omega arith
      ]
    ]

-- The rows of a tree are laid for it.
pub laid : (t : Tree) (w h k : ℕ) (outcome : ℕ → Outcome) → 0 < w → 0 < h → IsShaped t w h k → IsLaid t w h k outcome (rows_of t 0 0 w h k outcome 0 0)
laid t w h k outcome wp hp shaped =
    let rows : List Row = rows_of t 0 0 w h k outcome 0 0 in
    let c : Shares t 0 0 w h k outcome 0 0 = covers t 0 0 w h k outcome 0 0 wp hp shaped in
    let place : (n : ℕ) (d : Row) → n < length rows → (x y : ℕ) → CoversCell (get_or rows n d) x y → IsLocation (get_or rows n d) (location_of t w h k outcome 0 0 x y) x y =
    λ n d l x y holds. subst (λ (s : Location). IsLocation (get_or rows n d) s x y) (at_origin t w h k outcome x y) (c.own n d l x y holds).1 in
    record {
      rising = c.rising;
      some_cell = c.some_cell;
      own_cells = λ n d l x y. (
        (λ holds. (let o : Inside 0 0 w h x y = (c.own n d l x y holds).0 in
            let p : IsLocation (get_or rows n d) (location_of t w h k outcome 0 0 x y) x y = place n d l x y holds in
            record { inside_width = omega arith; inside_height = omega arith; same_node = p.node; same_owner = p.owner })),
        (λ owns. (
            let w_in : x < w = owns.inside_width in let h_in : y < h = owns.inside_height in
            let a : Any (λ r. CoversCell r x y) rows = c.each x y (record { left = omega arith; right = omega arith; top = omega arith; bottom = omega arith }) in
            let at_a : get_or rows a.0 a.1 ≡ a.1 = a.3 in
            let holds : CoversCell (get_or rows a.0 a.1) x y = subst (λ (r : Row). CoversCell r x y) (sym at_a) a.4 in
            let p : IsLocation (get_or rows a.0 a.1) (location_of t w h k outcome 0 0 x y) x y = place a.0 a.1 a.2 x y holds in
            let index : a.0 ≡ n = same_row rows a.0 n a.1 d c.rising a.2 l (sym p.node ∙ owns.same_node) in
            subst (λ (r : Row). CoversCell r x y) (get_or_default rows a.0 a.1 d a.2 ∙ ap (λ v. get_or rows v d) index) holds)),
      );
      own_place = place;
      each_cell = λ x y xw yh. c.each x y (record { left = omega arith; right = omega arith; top = omega arith; bottom = omega arith });
    }
