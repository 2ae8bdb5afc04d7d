-- Entries that are read page by page stand under their own numbers, if the first and the last do.
use Rattle.std.proofs.Common.{◌≡◌, ◌<◌, ◌≤◌, ◌+◌, ℕ, zero, suc, Bool, true, false, List, [], ◌∷◌, get_or, length, take, map, Option, Some, None, refl, sym, ap, subst, ◌∙◌, arith, inl, inr, cond}
use Rattle.std.specs.Prelude.{◌⊎◌, T, filter, nat_lt}
use Rattle.std.specs.declared.cmp.Ordering.TheVariants.{Less}
use Rattle.std.specs.Cmp.{nat_cmp_total, ranked}
use Rattle.std.specs.FinMap.{entries, entries_sorted, find, get-entries, is_sorted, len-entries, nat_cmp-IsAntisymmetric, values}
use Rattle.std.specs.FinMap.Entries.{below_all}
use Rattle.std.specs.Option.{IsSomeAnd}
use Rattle.std.specs.Ordering.{eq_by_cmp, is_lt, nat_cmp}
use Rattle.std.proofs.lemmas.Bool.{ltb-false}
use Rattle.std.proofs.lemmas.List.{take-take}
use Rattle.shop_records.specs.Content.{Content, entry_at}
use Rattle.shop_records.specs.Elements.{IsIn}
use Rattle.shop_records.specs.Lists.{entries_behind}
use Rattle.shop_records.specs.declared.journal.Entry.{Entry}
use Rattle.shop_records.proofs.Basics.{key_cases, tied, untied}
use Rattle.shop_records.proofs.Sums.{first, second, less}
use Rattle.shop_audit.specs.Pages.{GoesOn, HasEnds, IsByNumber, NumberedBehind}

-- ---- what pages show

-- whoever is there needs no further entry
pub here : (a b : ℕ) (xs : List Entry) → a ≡ b → GoesOn a b xs
here a b [] e = e
here a b (x ∷ xs) e = inl e

-- there is an entry for each number on the way
on_way : (a b : ℕ) (xs : List Entry) → GoesOn a b xs → (a ≤ b) × (b ≤ a + length xs)
on_way a b [] e = (omega (arith, e), omega (arith, e))
on_way a b (x ∷ xs) (inl e) = (omega (arith, e), omega (arith, e))
on_way a b (x ∷ xs) (inr (inl (e, f))) = let r = on_way (a + 1) b xs f in let up = r.0 in let few = r.1 in (omega (arith, up), omega (arith, few))
on_way a b (x ∷ xs) (inr (inr (e, f))) = let r = on_way a b xs f in let up = r.0 in let few = r.1 in (up, omega (arith, few))

-- one whose number was there is passed over
past : (b c : ℕ) (x : Entry) (xs : List Entry) → x.number ≤ b → GoesOn b c (x ∷ xs) → GoesOn b c xs
past b c x xs le (inl e) = here b c xs e
past b c x xs le (inr (inl (e, f))) = absurd (omega (arith, le, e))
past b c x xs le (inr (inr (e, f))) = f

pub goes_then : (a b c : ℕ) (xs : List Entry) → GoesOn a b xs → GoesOn b c xs → GoesOn a c xs
goes_then a b c [] e f = e ∙ f
goes_then a b c (x ∷ xs) (inl e) g = subst (λ n. GoesOn n c (x ∷ xs)) (sym e) g
goes_then a b c (x ∷ xs) (inr (inl (e, f))) g =
    let up : a + 1 ≤ b = (on_way (a + 1) b xs f).0 in
    inr (inl (e, goes_then (a + 1) b c xs f (past b c x xs (omega (arith, e, up)) g)))
goes_then a b c (x ∷ xs) (inr (inr (e, f))) g =
    let up : a ≤ b = (on_way a b xs f).0 in
    inr (inr (e, goes_then a b c xs f (past b c x xs (omega (arith, e, up)) g)))

-- where it goes on through as many entries as there are, it passes over none
numbered_all : (a b : ℕ) (xs : List Entry) → GoesOn a b xs → a + length xs ≡ b → NumberedBehind a xs
numbered_all a b [] f all = tt
numbered_all a b (x ∷ xs) (inl e) all = absurd (omega (arith, e, all))
numbered_all a b (x ∷ xs) (inr (inl (e, f))) all = (e, numbered_all (a + 1) b xs f (omega (arith, all)))
numbered_all a b (x ∷ xs) (inr (inr (e, f))) all = absurd (let few = (on_way a b xs f).1 in omega (arith, few, all))

past_back : (a b : ℕ) (x : Entry) (xs : List Entry) → x.number ≤ a → GoesOn a b xs → GoesOn a b (x ∷ xs)
past_back a b x xs le f = inr (inr (le, f))

-- a page of entries that have the next numbers goes on up to the last of them
pub page_goes_on : (most a b after : ℕ) (xs : List Entry) → after ≤ a → NumberedBehind a (take most (filter (λ (x : Entry). nat_lt after x.number) xs)) → b ≡ a + length (take most (filter (λ (x : Entry). nat_lt after x.number) xs)) → GoesOn a b xs
page_goes_on zero a b after xs le n is = here a b xs (omega (arith, is))
page_goes_on (suc most) a b after [] le n is = omega (arith, is)
page_goes_on (suc most) a b after (x ∷ xs) le n is = by (nat_lt after x.number) refl (page_goes_on most (a + 1) b after xs (omega (arith, le))) (page_goes_on (suc most) a b after xs le) n is
  where
    rest : List Entry
    rest = filter (λ (x : Entry). nat_lt after x.number) xs

    by : (t : Bool) → nat_lt after x.number ≡ t → (NumberedBehind (a + 1) (take most rest) → b ≡ a + 1 + length (take most rest) → GoesOn (a + 1) b xs)
        → (NumberedBehind a (take (suc most) rest) → b ≡ a + length (take (suc most) rest) → GoesOn a b xs)
        → NumberedBehind a (take (suc most) (cond t (x ∷ rest) rest)) → b ≡ a + length (take (suc most) (cond t (x ∷ rest) rest)) → GoesOn a b (x ∷ xs)
    by true e next same numbers end = inr (inl (numbers.0, next numbers.1 (omega (arith, end))))
    by false e next same numbers end = past_back a b x xs (let l = ltb-false after x.number e in omega (arith, l, le)) (same numbers end)

-- ---- a page

-- an element at a place is among all
pub item_in : {X : Type 0} (xs : List X) (i : ℕ) (x : X) → i < length xs → x ≡ get_or xs i x → IsIn x xs
item_in [] i x within is = absurd (omega (arith, within))
item_in (y ∷ ys) zero x within is = inl is
item_in (y ∷ ys) (suc i) x within is = inr (item_in ys i x (omega (arith, within)) is)

-- one more that has the next number
pub numbered_next : (a : ℕ) (xs : List Entry) (i : ℕ) (x : Entry) → i < length xs → x ≡ get_or xs i x → NumberedBehind a (take i xs) → x.number ≡ a + i + 1 → NumberedBehind a (take (i + 1) xs)
numbered_next a [] i x within is n own = absurd (omega (arith, within))
numbered_next a (y ∷ ys) zero x within is n own = (ap (λ (z : Entry). z.number) (sym is) ∙ own ∙ (omega arith), tt)
numbered_next a (y ∷ ys) (suc i) x within is n own =
    let more : suc (i + 1) ≡ suc i + 1 = omega arith in
    subst (λ k. NumberedBehind a (take k (y ∷ ys))) more (n.0, numbered_next (a + 1) ys i x (omega (arith, within)) is n.1 (own ∙ (omega arith)))

taken_in : {X : Type 0} (n : ℕ) (xs : List X) (x : X) → IsIn x (take n xs) → IsIn x xs
taken_in zero xs x i = absurd i
taken_in (suc n) [] x i = absurd i
taken_in (suc n) (y ∷ ys) x (inl e) = inl e
taken_in (suc n) (y ∷ ys) x (inr i) = inr (taken_in n ys x i)

filtered_in : {X : Type 0} (p : X → Bool) (xs : List X) (x : X) → IsIn x (filter p xs) → IsIn x xs
filtered_in p [] x i = absurd i
filtered_in {X} p (y ∷ ys) x i = by (p y) (filtered_in p ys x) i
  where
    by : (b : Bool) → (IsIn x (filter p ys) → IsIn x ys) → IsIn x (cond b (y ∷ filter p ys) (filter p ys)) → IsIn x (y ∷ ys)
    by true later (inl e) = inl e
    by true later (inr j) = inr (later j)
    by false later j = inr (later j)

pub page_of : (m : Content) (after most : ℕ) (rows page : List Entry) → rows ≡ take most (entries_behind m after) → page ≡ take most rows → page ≡ take most (entries_behind m after)
page_of m after most rows page read is = is ∙ ap (take most) read ∙ take-take most most (entries_behind m after) (omega arith)

pub page_in : (m : Content) (after most : ℕ) (page : List Entry) → page ≡ take most (entries_behind m after) → (x : Entry) → IsIn x page → IsIn x (values m.entries)
page_in m after most page are x i = filtered_in (λ (e : Entry). nat_lt after e.number) (values m.entries) x (taken_in most (entries_behind m after) x (subst (IsIn x) are i))

pub page_on : (m : Content) (after last most : ℕ) (page : List Entry) → page ≡ take most (entries_behind m after) → NumberedBehind after page → last ≡ after + length page → GoesOn after last (values m.entries)
page_on m after last most page are numbered end =
    page_goes_on most after last after (values m.entries) (omega arith) (subst (NumberedBehind after) are numbered) (end ∙ ap (λ (es : List Entry). after + length es) are)

-- ---- the numbers that they stand under

-- the keys rise above a number
abbrev Rises : ℕ → List (ℕ × Entry) → Type 0
Rises a [] = Unit {0}
Rises a (e ∷ es) = (a < e.0) × Rises e.0 es

lower : (j k : ℕ) (es : List (ℕ × Entry)) → j ≤ k → Rises k es → Rises j es
lower j k [] le r = tt
lower j k (e ∷ es) le r = let more = r.0 in (omega (arith, le, more), r.1)

rises_sorted : (k : ℕ) (es : List (ℕ × Entry)) → T (below_all nat_cmp k es) → T (is_sorted nat_cmp es) → Rises k es
rises_sorted k [] below sorted = tt
rises_sorted k (e ∷ es) below sorted = (
  ranked k e.0 Less (sym (less (nat_cmp k e.0) (first (is_lt (nat_cmp k e.0)) (below_all nat_cmp k es) below))),
  rises_sorted e.0 es (first (below_all nat_cmp e.0 es) (is_sorted nat_cmp es) sorted) (second (below_all nat_cmp e.0 es) (is_sorted nat_cmp es) sorted),
)

-- an entry stands under a key
abbrev StandsAt : ℕ → Entry → List (ℕ × Entry) → Type 0
StandsAt k x [] = ⊥
StandsAt k x (e ∷ es) = ((k ≡ e.0) × (x ≡ e.1)) ⊎ StandsAt k x es

stands : (k : ℕ) (x : Entry) (es : List (ℕ × Entry)) → find nat_cmp k es ≡ Some x → StandsAt k x es
stands k x [] e = cc
stands k x (f ∷ es) e = by (stands k x es) (key_cases nat_cmp_total nat_cmp-IsAntisymmetric k f.0)
  where
    by : (find nat_cmp k es ≡ Some x → StandsAt k x es) → ((k ≡ f.0) × (eq_by_cmp nat_cmp k f.0 ≡ true)) ⊎ ((k ≡ f.0 → ⊥) × (eq_by_cmp nat_cmp k f.0 ≡ false)) → StandsAt k x (f ∷ es)
    by later (inl h) = let same : Some f.1 ≡ Some x = sym (ap (λ b. cond b (Some f.1) (find nat_cmp k es)) h.1) ∙ e in inl (h.0, cc)
    by later (inr h) = inr (later (sym (ap (λ b. cond b (Some f.1) (find nat_cmp k es)) h.1) ∙ e))

abbrev entries_of : List (ℕ × Entry) → List Entry
entries_of es = map (λ (e : ℕ × Entry). e.1) es

-- the numbers are behind
behind_in : (a : ℕ) (xs : List Entry) → NumberedBehind a xs → (x : Entry) → IsIn x xs → a < x.number
behind_in a [] n x i = absurd i
behind_in a (y ∷ ys) n x (inl e) = let own : x.number ≡ a + 1 = ap (λ (z : Entry). z.number) e ∙ n.0 in omega (arith, own)
behind_in a (y ∷ ys) n x (inr i) = let more = behind_in (a + 1) ys n.1 x i in omega (arith, more)

in_of : (k : ℕ) (x : Entry) (es : List (ℕ × Entry)) → StandsAt k x es → IsIn x (entries_of es)
in_of k x [] i = absurd i
in_of k x (e ∷ es) (inl h) = inl h.1
in_of k x (e ∷ es) (inr i) = inr (in_of k x es i)

-- each entry stands under its number
abbrev Own : List (ℕ × Entry) → Type 0
Own [] = Unit {0}
Own (e ∷ es) = (e.0 ≡ e.1.number) × Own es

all_own : (a last : ℕ) (x : Entry) (es : List (ℕ × Entry)) → Rises a es → NumberedBehind a (entries_of es) → StandsAt last x es → x.number ≡ last → last ≡ a + length es → Own es
all_own a last x [] r n i own all = absurd i
all_own a last x (e ∷ []) r n (inl h) own all = (sym h.0 ∙ sym own ∙ ap (λ (z : Entry). z.number) h.1, tt)
all_own a last x (e ∷ []) r n (inr i) own all = absurd i
all_own a last x (e ∷ f ∷ es) r n (inl h) own all =
    let is : x.number ≡ a + 1 = ap (λ (z : Entry). z.number) h.1 ∙ n.0 in
    absurd (omega (arith, is, own, all))
all_own a last x (e ∷ f ∷ es) r n (inr i) own all =
    let up : a < e.0 = r.0 in
    let more : e.0 < f.0 = r.1.0 in
    let number : e.1.number ≡ a + 1 = n.0 in
    let next : f.1.number ≡ a + 1 + 1 = n.1.0 in
    let rest : Own (f ∷ es) = all_own (a + 1) last x (f ∷ es) (lower (a + 1) e.0 (f ∷ es) (omega (arith, up)) r.1) n.1 i own (omega (arith, all)) in
    let under : f.0 ≡ f.1.number = rest.0 in
    (omega (arith, up, more, number, next, under), rest)

found_own : (a : ℕ) (es : List (ℕ × Entry)) → NumberedBehind a (entries_of es) → Own es → (x : Entry) → IsIn x (entries_of es) → find nat_cmp x.number es ≡ Some x
found_own a [] n own x i = absurd i
found_own a (e ∷ es) n own x (inl is) =
    ap (λ b. cond b (Some e.1) (find nat_cmp x.number es)) (tied nat_cmp_total nat_cmp-IsAntisymmetric x.number e.0 (ap (λ (z : Entry). z.number) is ∙ sym own.0)) ∙ ap Some (sym is)
found_own a (e ∷ es) n own x (inr i) =
    let more : a + 1 < x.number = behind_in (a + 1) (entries_of es) n.1 x i in
    let under : e.0 ≡ e.1.number = own.0 in
    let number : e.1.number ≡ a + 1 = n.0 in
    ap (λ b. cond b (Some e.1) (find nat_cmp x.number es)) (untied nat_cmp_total nat_cmp-IsAntisymmetric x.number e.0 (λ same. omega (arith, same, more, under, number))) ∙ found_own (a + 1) es n.1 own.1 x i

-- the first key is 1
rises_from_none : (x : Entry) (es : List (ℕ × Entry)) → T (is_sorted nat_cmp es) → NumberedBehind 0 (entries_of es) → StandsAt 1 x es → x.number ≡ 1 → Rises 0 es
rises_from_none x [] sorted n i own = absurd i
rises_from_none x (e ∷ es) sorted n (inl h) own =
    let one : 1 ≡ e.0 = h.0 in
    (omega (arith, one), rises_sorted e.0 es (first (below_all nat_cmp e.0 es) (is_sorted nat_cmp es) sorted) (second (below_all nat_cmp e.0 es) (is_sorted nat_cmp es) sorted))
rises_from_none x (e ∷ es) sorted n (inr i) own = absurd (let more = behind_in (0 + 1) (entries_of es) n.1 x (in_of 1 x es i) in omega (arith, more, own))

with_number : (found : Option Entry) (number : ℕ) → IsSomeAnd found (λ entry. entry.number ≡ number) → (x : Entry) × (found ≡ Some x) × (x.number ≡ number)
with_number None number h = absurd h
with_number (Some x) number h = (x, refl, h)

-- entries that go on from none to as many as there are stand under their own numbers
pub by_number : (m : Content) (count : ℕ) → GoesOn 0 count (values m.entries) → HasEnds m count → IsByNumber m m
by_number m count goes ends =
    let es = entries m.entries in
    let many : length es ≡ count = sym (len-entries m.entries) ∙ ends.many in
    let numbered : NumberedBehind 0 (entries_of es) = numbered_all 0 count (entries_of es) goes (let all = length_of es in omega (arith, all, many)) in
    let one = with_number (entry_at m 1) 1 ends.first in
    let last = with_number (entry_at m count) count ends.last in
    let rises : Rises 0 es = rises_from_none one.0 es (entries_sorted m.entries) numbered (stands 1 one.0 es (sym (get-entries m.entries 1) ∙ one.1)) one.2 in
    let own : Own es = all_own 0 count last.0 es rises numbered (stands count last.0 es (sym (get-entries m.entries count) ∙ last.1)) last.2 (omega (arith, many)) in
    record { kept = refl; entries = λ entry there. get-entries m.entries entry.number ∙ found_own 0 es numbered own entry there }
  where
    length_of : (es : List (ℕ × Entry)) → length (entries_of es) ≡ length es
    length_of [] = refl
    length_of (e ∷ es) = ap suc (length_of es)
