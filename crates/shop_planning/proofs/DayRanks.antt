-- Those of some demands that are taken by day.
use Rattle.std.proofs.Common.{◌≡◌, ◌∙◌, ℕ, zero, suc, ◌+◌, ◌-◌, ◌*◌, ◌<◌, ◌≤◌, cond, List, [], ◌∷◌, Bool, true, false, Option, Some, None, ap, refl, sym, subst, Bor, take, ◌++◌, get_or, length, eqb-true, ne_eqb, le-leb, lt-ltb, le-ltb, ltb-true, ltb-false, arith}
use Rattle.std.specs.Prelude.{All, count_by, filter, if◌then◌else◌, map, nat_le, nat_lt, slice_get, IfSome, MatchOption, option_map, ◌==◌}
use Rattle.std.specs.List.Sorted.{IsNonDecreasing, IsPermutation}
use Rattle.std.proofs.lemmas.Option.{slice_get-get_or}
use Rattle.std.proofs.lemmas.Bool.{cond_both, eqb-false, lt-leb}
use Rattle.std.proofs.lemmas.List.{map_more}
use Rattle.std.proofs.lemmas.List.Elements.{All-head, All-more, All-tail, All-weaker}
use Rattle.std.proofs.lemmas.List.Sorted.{sum_by-IsPermutation}
use Rattle.std.proofs.lemmas.List.Sums.{sum_by-cons}
use Rattle.cut_bound.specs.declared.limits.TheConstants.{MAX_ORDER_WANTS}
use Rattle.shop_records.specs.declared.records.Demand.{Demand}
use Rattle.shop_records.specs.Content.{Content}
use Rattle.shop_records.specs.Lists.{due_of, is_due_before}
use Rattle.shop_answers.specs.declared.planning.FoundDemand.{FoundDemand}
use Rattle.shop_planning.specs.declared.by_day.Ranked.{Ranked}
use Rattle.shop_planning.specs.Asked.{before_it, first_by_day, with_row}
use Rattle.shop_planning.specs.ByDay.{HasRank, HaveRanks, IsLast, is_taken, rank_by, rank_of, ranks_in, with_rank}

by_test : {R : Type 0} (b : Bool) → (b ≡ true → R) → (b ≡ false → R) → R
by_test true f g = f refl
by_test false f g = g refl

-- ---- the last that is taken, where ranks rise

abbrev below : ℕ → List ℕ → ℕ
below t s = count_by (λ other. nat_lt other t) s

below_cons : (t x : ℕ) (s : List ℕ) → below t (x ∷ s) ≡ cond {A = ℕ} (nat_lt x t) 1 0 + below t s
below_cons t x s = sum_by-cons (λ other. cond {A = ℕ} (nat_lt other t) 1 0) x s

counts : (t x : ℕ) (s : List ℕ) → nat_lt x t ≡ true → below t (x ∷ s) ≡ suc (below t s)
counts t x s is = let one = ap {B = ℕ} (λ b. cond b 1 0) is in omega (arith, below_cons t x s, one)

passes : (t x : ℕ) (s : List ℕ) → nat_lt x t ≡ false → below t (x ∷ s) ≡ below t s
passes t x s is = let none = ap {B = ℕ} (λ b. cond b 1 0) is in omega (arith, below_cons t x s, none)

not_less : (t x : ℕ) → t ≤ x → nat_lt x t ≡ false
not_less t x le = le-ltb x t le

none_below : (t : ℕ) (s : List ℕ) → ((j d : ℕ) → j < length s → t ≤ get_or s j d) → below t s ≡ 0
none_below t [] all = refl
none_below t (x ∷ s) all = passes t x s (not_less t x (all 0 0 (omega arith))) ∙ none_below t s (λ j d lt. all (suc j) d (omega arith))

rest_rises : (x : ℕ) (s : List ℕ) → IsNonDecreasing (x ∷ s) → IsNonDecreasing s
rest_rises x s up i j d le lt = up (suc i) (suc j) d (omega arith) (omega arith)

after_first : (t x : ℕ) (s : List ℕ) → IsNonDecreasing (x ∷ s) → t ≤ x → below t s ≡ 0
after_first t x s up le = none_below t s (λ j d lt. let more = up 0 (suc j) d (omega arith) (omega arith) in omega (arith, more))

one_more : (a b : ℕ) → nat_lt a b ≡ nat_lt (suc a) (suc b)
one_more a b = by_test (nat_lt a b) (λ is. let lt = ltb-true a b is in is ∙ sym (lt-ltb _ _ (omega arith))) (λ is. let le = ltb-false a b is in is ∙ sym (le-ltb _ _ (omega arith)))

last_in : (t : ℕ) (s : List ℕ) (k : ℕ) → IsNonDecreasing s → is_taken (slice_get s k) t ≡ nat_lt (below t s) (suc k)
last_in t [] k up = sym (lt-ltb 0 (suc k) (omega arith))
last_in t (x ∷ s) zero up = by_test (nat_lt x t) less more
  where
    less : nat_lt x t ≡ true → nat_le t x ≡ nat_lt (below t (x ∷ s)) 1
    less is =
        let lt : x < t = ltb-true x t is in
        let many : below t (x ∷ s) ≡ suc (below t s) = counts t x s is in
        lt-leb t x lt ∙ sym (le-ltb (below t (x ∷ s)) 1 (omega (arith, many)))

    more : nat_lt x t ≡ false → nat_le t x ≡ nat_lt (below t (x ∷ s)) 1
    more is =
        let le : t ≤ x = ltb-false x t is in
        let none : below t (x ∷ s) ≡ 0 = passes t x s is ∙ after_first t x s up le in
        le-leb t x le ∙ sym (ap (λ n. nat_lt n 1) none)
last_in t (x ∷ s) (suc k) up = by_test (nat_lt x t) (less (last_in t s k (rest_rises x s up))) (more (last_in t s k (rest_rises x s up)))
  where
    less : is_taken (slice_get s k) t ≡ nat_lt (below t s) (suc k) → nat_lt x t ≡ true → is_taken (slice_get s k) t ≡ nat_lt (below t (x ∷ s)) (suc (suc k))
    less rest is = rest ∙ one_more (below t s) (suc k) ∙ sym (ap (λ n. nat_lt n (suc (suc k))) (counts t x s is))

    more : is_taken (slice_get s k) t ≡ nat_lt (below t s) (suc k) → nat_lt x t ≡ false → is_taken (slice_get s k) t ≡ nat_lt (below t (x ∷ s)) (suc (suc k))
    more rest is =
        let none : below t s ≡ 0 = after_first t x s up (ltb-false x t is) in
        let all_none : below t (x ∷ s) ≡ 0 = passes t x s is ∙ none in
        rest ∙ ap (λ n. nat_lt n (suc k)) none ∙ lt-ltb 0 (suc k) (omega arith) ∙ sym (lt-ltb 0 (suc (suc k)) (omega arith)) ∙ sym (ap (λ n. nat_lt n (suc (suc k))) all_none)

none_at : (s : List ℕ) (k : ℕ) → length s ≤ k → None ≡ slice_get s k
none_at [] k le = refl
none_at (x ∷ s) zero le = absurd (omega (arith, le))
none_at (x ∷ s) (suc k) le = none_at s k (omega (arith, le))

-- what was got of a list
pub got : (s : List ℕ) (k : ℕ) (found : Option (Bor ℕ)) (P : Bor ℕ → Type 0) → IfSome found (λ x. x.now ≡ get_or s k x.now) → MatchOption found (length s ≤ k) (λ x. (k < length s) × P x)
    → option_map (λ (x : Bor ℕ). x.now) found ≡ slice_get s k
got s k None P some match = none_at s k match
got s k (Some x) P some match = ap Some some ∙ sym (slice_get-get_or s k x.now match.0)

-- the 100th of the ranks in order is the last
pub last_is : (ranks sorted : List ℕ) → IsPermutation ranks sorted → IsNonDecreasing sorted → IsLast (slice_get sorted (MAX_ORDER_WANTS - 1)) ranks
last_is ranks sorted moved up rank =
    last_in rank sorted (MAX_ORDER_WANTS - 1) up
    ∙ ap (λ n. nat_lt n MAX_ORDER_WANTS) (sum_by-IsPermutation (λ other. cond {A = ℕ} (nat_lt other rank) 1 0) ranks sorted moved)

-- ---- ranks are the order by day

abbrev place : ℕ → ℕ
place day = if day == 0 then 4294967295 else day - 1

lower : (p q n k : ℕ) → p < q → n < 4294967296 → nat_lt (p * 4294967296 + n) (q * 4294967296 + k) ≡ true
lower p q n k lt small = lt-ltb _ _ (omega arith)

higher : (p q n k : ℕ) → q < p → k < 4294967296 → nat_lt (p * 4294967296 + n) (q * 4294967296 + k) ≡ false
higher p q n k lt small = le-ltb _ _ (omega arith)

equal : (p n k : ℕ) → nat_lt (p * 4294967296 + n) (p * 4294967296 + k) ≡ nat_lt n k
equal p n k = by_test (nat_lt n k) (λ is. let lt = ltb-true n k is in lt-ltb _ _ (omega arith) ∙ sym is) (λ is. let le = ltb-false n k is in le-ltb _ _ (omega arith) ∙ sym is)

place_none : (day : ℕ) → (day == 0) ≡ true → place day ≡ 4294967295
place_none day is = ap {B = ℕ} (λ b. if b then 4294967295 else day - 1) is

place_day : (day : ℕ) → (day == 0) ≡ false → place day ≡ day - 1
place_day day is = ap {B = ℕ} (λ b. if b then 4294967295 else day - 1) is

in_turn : (x y n k : ℕ) → x < 4294967296 → n < 4294967296 → y < 4294967296 → k < 4294967296
    → (if x == y then nat_lt n k else (if y == 0 then true else (if x == 0 then false else nat_lt x y))) ≡ nat_lt (rank_by x n) (rank_by y k)
in_turn x y n k hx hn hy hk =
    cond_both (x == y) (nat_lt n k) (if y == 0 then true else (if x == 0 then false else nat_lt x y)) (λ r. r ≡ nat_lt (rank_by x n) (rank_by y k))
    (λ is. sym (equal (place x) n k) ∙ ap (λ z. nat_lt (rank_by x n) (rank_by z k)) (eqb-true x y is))
    (λ no. cond_both (y == 0) true (if x == 0 then false else nat_lt x y) (λ r. r ≡ nat_lt (rank_by x n) (rank_by y k))
    (λ none. let yz = eqb-true y 0 none in let ne = eqb-false x y no in let py = place_none y none in
    let px = place_day x (ne_eqb x 0 (λ e. ne (e ∙ sym yz))) in
    sym (lower (place x) (place y) n k (omega (arith, px, py)) hn))
    (λ day. let yn = eqb-false y 0 day in let py = place_day y day in
    cond_both (x == 0) false (nat_lt x y) (λ r. r ≡ nat_lt (rank_by x n) (rank_by y k))
    (λ none. let px = place_none x none in sym (higher (place x) (place y) n k (omega (arith, px, py)) hk))
    (λ some. let xn = eqb-false x 0 some in let px = place_day x some in let ne = eqb-false x y no in
    by_test (nat_lt x y)
    (λ is. let lt = ltb-true x y is in is ∙ sym (lower (place x) (place y) n k (positive x y lt xn px py) hn))
    (λ is. let le = ltb-false x y is in is ∙ sym (higher (place x) (place y) n k (positive y x (strict x y le ne) yn py px) hk)))))
  where
    positive : (a b : ℕ) → a < b → (a ≡ 0 → ⊥) → place a ≡ a - 1 → place b ≡ b - 1 → place a < place b
    positive zero b lt some pa pb = absurd (some refl)
    positive (suc a) b lt some pa pb = omega (arith, pa, pb)

    strict : (a b : ℕ) → b ≤ a → (a ≡ b → ⊥) → b < a
    strict a b le ne = by_test (nat_lt b a) (λ is. ltb-true b a is) (λ is. let back = ltb-false b a is in absurd (ne (omega (arith, back))))

before_by_rank : (m : Content) (a b : Demand) → HasRank m a → HasRank m b → is_due_before m a b ≡ nat_lt (rank_of m a) (rank_of m b)
before_by_rank m a b here there = in_turn (due_of m a.order) (due_of m b.order) a.number b.number here.0 here.1 there.0 there.1

-- ---- so those up to the last rank are the first by day

counted : (m : Content) (d : Demand) → HasRank m d → (rows : List Demand) → All (HasRank m) rows
    → below (rank_of m d) (ranks_in (map (with_rank m) rows)) ≡ before_it m rows d
counted m d has [] all = refl
counted m d has (row ∷ rows) all =
    below_cons (rank_of m d) (rank_of m row) (ranks_in (map (with_rank m) rows))
    ∙ ap (λ b. cond {A = ℕ} b 1 0 + below (rank_of m d) (ranks_in (map (with_rank m) rows))) (sym (before_by_rank m row d (All-head (HasRank m) row rows all) has))
    ∙ ap (λ n. cond {A = ℕ} (is_due_before m row d) 1 0 + n) (counted m d has rows (All-tail (HasRank m) row rows all))
    ∙ sym (sum_by-cons (λ other. cond {A = ℕ} (is_due_before m other d) 1 0) row rows)

chosen : (m : Content) (last : Option ℕ) (p : Demand → Bool) (rows : List Demand) → All (λ d. is_taken last (rank_of m d) ≡ p d) rows
    → map (λ (t : Ranked). with_row t.row) (filter (λ (t : Ranked). is_taken last t.rank) (map (with_rank m) rows)) ≡ map with_row (filter p rows)
chosen m last p [] all = refl
chosen m last p (d ∷ rows) all =
    ap (λ b. map (λ (t : Ranked). with_row t.row) (cond b (with_rank m d ∷ more) more)) (All-head (λ e. is_taken last (rank_of m e) ≡ p e) d rows all)
    ∙ by (p d) (chosen m last p rows (All-tail (λ e. is_taken last (rank_of m e) ≡ p e) d rows all))
  where
    more : List Ranked
    more = filter (λ (t : Ranked). is_taken last t.rank) (map (with_rank m) rows)

    by : (b : Bool) → map (λ (t : Ranked). with_row t.row) more ≡ map with_row (filter p rows)
        → map (λ (t : Ranked). with_row t.row) (cond b (with_rank m d ∷ more) more) ≡ map with_row (cond b (d ∷ filter p rows) (filter p rows))
    by true rest = ap (λ (l : List FoundDemand). with_row d ∷ l) rest
    by false rest = rest

pub taken_by_day : (m : Content) (rows : List Demand) (ranks : List Ranked) (last : Option ℕ) → HaveRanks m rows ranks → IsLast last (ranks_in ranks)
    → map (λ (t : Ranked). with_row t.row) (filter (λ (t : Ranked). is_taken last t.rank) ranks) ≡ map with_row (first_by_day m rows)
taken_by_day m rows ranks last have is =
    ap (λ l. map (λ (t : Ranked). with_row t.row) (filter (λ (t : Ranked). is_taken last t.rank) l)) have.0
    ∙ chosen m last (λ d. nat_lt (before_it m rows d) MAX_ORDER_WANTS) rows
    (All-weaker (HasRank m) (λ d. is_taken last (rank_of m d) ≡ nat_lt (before_it m rows d) MAX_ORDER_WANTS)
    (λ d has. is (rank_of m d) ∙ ap (λ l. nat_lt (below (rank_of m d) (ranks_in l)) MAX_ORDER_WANTS) have.0 ∙ ap (λ n. nat_lt n MAX_ORDER_WANTS) (counted m d has rows have.1)) rows have.1)

-- ---- one rank more

pub rank_more : (m : Content) (rows : List Demand) (i : ℕ) (row : Demand) (ranks new : List Ranked) (day rank : ℕ) → i < length rows → row ≡ get_or rows i row
    → HaveRanks m (take i rows) ranks → new ≡ ranks ++ record { row = row; rank = rank } ∷ [] → rank ≡ rank_by day row.number
    → (day < 4294967296) × (row.number < 4294967296) → day ≡ due_of m row.order → HaveRanks m (take (i + 1) rows) new
rank_more m rows i row ranks new day rank lt at have pushed value ranges is = (
  pushed ∙ ap (λ l. l ++ record { row = row; rank = rank } ∷ []) have.0
      ∙ ap (λ n. map (with_rank m) (take i rows) ++ record { row = row; rank = n } ∷ []) (value ∙ ap (λ d. rank_by d row.number) is)
      ∙ ap (λ (r : Demand). map (with_rank m) (take i rows) ++ with_rank m r ∷ []) at ∙ sym (map_more (with_rank m) rows i row lt),
  All-more (HasRank m) rows i row lt have.1 (subst (HasRank m) at (subst (λ d. d < 4294967296) is ranges.0, ranges.1)),
)
