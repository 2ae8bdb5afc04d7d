-- What the steps of a backup come to.
use Rattle.std.proofs.Common.{Result, Ok, Err, ◌≡◌, ◌∙◌, ◌++◌, ◌∷◌, [], ℕ, suc, ◌+◌, ◌-◌, ◌<◌, ◌≤◌, List, Option, Some, None, inl, inr, refl, sym, ap, subst, append-nil, append_assoc, get_or, length, take, drop, arith}
use Rattle.std.proofs.lemmas.Bool.{false≢true}
use Rattle.std.proofs.lemmas.List.{get_or_append_left, length-append, length-drop, take-append-drop, take_more}
use Rattle.std.proofs.lemmas.List.Sorted.{All-permutation, length_permutation}
use Rattle.std.specs.List.Sorted.{IsNonDecreasing, IsPermutation}
use Rattle.std.specs.Io.KnownBytes.{Appends, Consumes, IsAtEnd}
use Rattle.std.specs.Prelude.{All, IfSome, IsSome, OnErr, max, min}
use Rattle.shop_backup.specs.declared.shelves.StoreFile.{StoreFile}
use Rattle.shop_backup.specs.declared.shelves.StoreFile.TheVariants.{Store, Log}
use Rattle.shop_backup.specs.Steps.{BackupStep, Adds, ArePassed, IsAllBut, IsBackupMade, IsBegun, IsNoBackupMade, IsOld, IsPart, IsPassing, IsUnbegun, begins, cleared, finished, greatest, kept, listed, looked, made, next_number, stayed, taken, whole}

pub adds-none : {X : Type 0} (a : Option (List X)) → Adds a a []
adds-none None = tt
adds-none (Some xs) = sym (append-nil xs)

pub adds-more : {X : Type 0} (a b c : Option (List X)) (xs ys : List X) → Adds a b xs → Adds b c ys → Adds a c (xs ++ ys)
adds-more None b c xs ys p q = tt
adds-more (Some x) None c xs ys p q = absurd p
adds-more (Some x) (Some y) None xs ys p q = absurd q
adds-more (Some x) (Some y) (Some z) xs ys p q = q ∙ ap (λ l. l ++ ys) p ∙ append_assoc x xs ys

-- nothing was added after it
pub adds-same : {X : Type 0} (a b c : Option (List X)) (xs : List X) → c ≡ b → Adds a b xs → Adds a c xs
adds-same a b c xs same p = subst (λ d. Adds a d xs) (sym same) p

-- the first ones of some steps were done, and one more
pub adds-next : {X : Type 0} (steps : List X) (i : ℕ) (d : X) (a b c : Option (List X)) → i < length steps → Adds a b (take i steps) → Adds b c (get_or steps i d ∷ []) → Adds a c (take (i + 1) steps)
adds-next steps i d a b c lt p q = subst (Adds a c) (sym (take_more steps i d lt)) (adds-more a b c _ _ p q)

-- or the next one wasn't
pub adds-first : {X : Type 0} (steps : List X) (i : ℕ) (a b c : Option (List X)) → i < length steps → Adds a b (take i steps) → c ≡ b → (count : ℕ) × (count < length steps) × Adds a c (take count steps)
adds-first steps i a b c lt p same = (i, lt, adds-same a b c (take i steps) same p)

-- what follows of an error
pub on_err : {X E : Type 0} (r : Result X E) (P Q : Type 0) → (P → Q) → OnErr r P → OnErr r Q
on_err (Ok x) P Q f p = tt
on_err (Err e) P Q f p = f p

-- what holds, holds at an error
pub at_err : {X E : Type 0} (r : Result X E) (P : Type 0) → P → OnErr r P
at_err (Ok x) P p = tt
at_err (Err e) P p = p

-- ---- the bytes of a file

-- all that was left was copied
pub all_copied : (left now last held holding : Option (List ℕ)) (copied : List ℕ) → Consumes left now copied → Consumes now last [] → IsAtEnd last → Appends held holding copied
    → IfSome left (λ bytes. Appends held holding bytes)
all_copied None now last held holding copied c d e a = tt
all_copied (Some bytes) None last held holding copied c d e a = absurd c
all_copied (Some bytes) (Some rest) None held holding copied c d e a = absurd d
all_copied (Some bytes) (Some rest) (Some end) held holding copied c d e a =
    subst (Appends held holding) (sym (c ∙ ap (λ r. copied ++ r) (d ∙ e) ∙ append-nil copied)) a

-- what a new file holds to which these were written
held_all : (holding : Option (List ℕ)) (bytes : List ℕ) → Appends (Some []) holding bytes → holding ≡ Some bytes
held_all None bytes is = absurd is
held_all (Some written) bytes is = ap Some is

-- a file was copied whole, and was kept
pub half_kept : (done new : Option (List BackupStep)) (number : ℕ) (which : StoreFile) (bytes : List ℕ) (left held holding : Option (List ℕ))
    → (IsSome done → left ≡ Some bytes) → (IsSome done → held ≡ Some []) → IfSome left (λ bytes. Appends held holding bytes)
    → ((written : List ℕ) → holding ≡ Some written → Adds done new (kept number which written ∷ [])) → Adds done new (kept number which bytes ∷ [])
half_kept None new number which bytes left held holding known empty copied keeps = tt
half_kept (Some steps) new number which bytes left held holding known empty copied keeps =
    keeps bytes (held_all holding bytes (subst (λ (o : Option (List ℕ)). Appends o holding bytes) (empty refl)
    (subst (λ (o : Option (List ℕ)). IfSome o (λ b. Appends held holding b)) (known refl) copied)))

-- ---- the steps of a backup

module _ (holds there : StoreFile → List ℕ) (same : there ≡ holds) (number : ℕ) where
  pub filled : (a b c d : Option (List BackupStep)) → Adds a b (kept number Store (holds Store) ∷ []) → Adds b c (kept number Log (there Log) ∷ []) → Adds c d (finished number ∷ [])
      → Adds a d (kept number Store (holds Store) ∷ kept number Log (holds Log) ∷ finished number ∷ [])
  filled a b c d p q r =
      let log : Adds b c (kept number Log (holds Log) ∷ []) = subst (λ (h : StoreFile → List ℕ). Adds b c (kept number Log (h Log) ∷ [])) same q in
      adds-more a c d _ _ (adds-more a b c _ _ p log) r

  pub none_filled : (a b : Option (List BackupStep)) → b ≡ a → (part : List BackupStep) × IsPart holds number part × Adds a b part
  none_filled a b is = ([], inl refl, adds-same a a b [] is (adds-none a))

  pub store_filled : (a b c : Option (List BackupStep)) → Adds a b (kept number Store (holds Store) ∷ []) → c ≡ b → (part : List BackupStep) × IsPart holds number part × Adds a c part
  store_filled a b c p is = (kept number Store (holds Store) ∷ [], inr (inl refl), adds-same a b c _ is p)

  pub both_filled : (a b c d : Option (List BackupStep)) → Adds a b (kept number Store (holds Store) ∷ []) → Adds b c (kept number Log (there Log) ∷ []) → d ≡ c
      → (part : List BackupStep) × IsPart holds number part × Adds a d part
  both_filled a b c d p q is =
      let log : Adds b c (kept number Log (holds Log) ∷ []) = subst (λ (h : StoreFile → List ℕ). Adds b c (kept number Log (h Log) ∷ [])) same q in
      (kept number Store (holds Store) ∷ kept number Log (holds Log) ∷ [], inr (inr refl), adds-same a c d _ is (adds-more a b c _ _ p log))

-- ---- the number of a backup

swapped : (m n old new : ℕ) → new ≡ max n old → max m new ≡ max n (max m old)
swapped m n old new is = omega (arith, is)

turned : (n old new : ℕ) → new ≡ max old n → new ≡ max n old
turned n old new is = omega (arith, is)

-- the greatest of some numbers, and one more behind them
greatest_end : (numbers : List ℕ) (n : ℕ) → greatest (numbers ++ n ∷ []) ≡ max n (greatest numbers)
greatest_end [] n = refl
greatest_end (m ∷ numbers) n = swapped m n (greatest numbers) (greatest (numbers ++ n ∷ [])) (greatest_end numbers n)

-- a loop came over one number more
pub greatest_next : (numbers : List ℕ) (i d old new : ℕ) → i < length numbers → new ≡ max old (get_or numbers i d) → old ≡ greatest (take i numbers) → new ≡ greatest (take (i + 1) numbers)
greatest_next numbers i d old new lt more so_far =
    let n = get_or numbers i d in
    turned n old new more ∙ ap (max n) so_far ∙ sym (greatest_end (take i numbers) n) ∙ ap greatest (sym (take_more numbers i d lt))

-- ---- which backups are old

left_out : (newest count n m l : ℕ) → l ≡ n - count → count ≡ n - newest → n ≡ m → l ≡ min newest m
left_out newest count n m l is from same = omega (arith, is, from, same)

-- the first ones of these numbers in their order
pub all_but_newest : (newest count : ℕ) (numbers sorted : List ℕ) → IsPermutation numbers sorted → IsNonDecreasing sorted → count ≡ length sorted - newest → IsAllBut newest numbers (take count sorted)
all_but_newest newest count numbers sorted same rise is =
    let together = sym (take-append-drop count sorted) in (
      drop count sorted,
      subst (IsPermutation numbers) together same,
      subst IsNonDecreasing together rise,
      left_out newest count (length sorted) (length numbers) (length (drop count sorted)) (length-drop count sorted) is (length_permutation numbers sorted same),
    )

some_after : {X : Type 0} (a b : Option (List X)) (xs : List X) → Adds a b xs → IsSome a → IsSome b
some_after {X = X} None b xs p is = absurd (false≢true is)
some_after (Some x) None xs p is = absurd p
some_after (Some x) (Some y) xs p is = refl

all_front : (P : ℕ → Type 0) (xs ys : List ℕ) → All P (xs ++ ys) → All P xs
all_front P xs ys all = λ k d l. subst P (get_or_append_left xs ys d k l) (all k d (let n = length-append xs ys in omega (arith, n, l)))

below_next : (n g : ℕ) → n ≤ g → n < suc g
below_next n g le = omega (arith, le)

all_before : (g : ℕ) (numbers : List ℕ) → All (λ n. n ≤ g) numbers → All (λ n. n < suc g) numbers
all_before g numbers all = λ k d l. below_next (get_or numbers k d) g (all k d l)

-- none of the old ones has a number behind those that were there
pub old_before : (keep : Option ℕ) (wholes gone : List ℕ) (g : ℕ) → IsOld keep wholes gone → All (λ n. n ≤ g) wholes → All (λ n. n < suc g) gone
old_before None wholes gone g is all = subst (All (λ n. n < suc g)) (sym is) (λ k d l. absurd (omega (arith, l)))
old_before (Some keep) wholes gone g (newest, same, rise, many) all =
    all_before g gone (all_front (λ n. n ≤ g) gone newest (All-permutation (λ n. n ≤ g) wholes (gone ++ newest) same all))

-- ---- what is done with them

passed_end : (numbers : List ℕ) (steps : List BackupStep) (n : ℕ) (step : BackupStep) → ArePassed numbers steps → IsPassing n step → ArePassed (numbers ++ n ∷ []) (steps ++ step ∷ [])
passed_end [] steps n step is one = (step, ([], one, ap (λ s. s ++ step ∷ []) is, refl))
passed_end (m ∷ numbers) steps n step (first, (rest, which, is, more)) one =
    (first, (rest ++ step ∷ [], which, ap (λ s. s ++ step ∷ []) is, passed_end numbers rest n step more one))

-- none of them was passed yet
pub none_passed : (a : Option (List BackupStep)) → (steps : List BackupStep) × ArePassed [] steps × Adds a a steps
none_passed a = ([], refl, adds-none a)

-- a loop passed one more
pub passed_next : (numbers : List ℕ) (i d : ℕ) (a b c : Option (List BackupStep)) → i < length numbers → (steps : List BackupStep) × ArePassed (take i numbers) steps × Adds a b steps
    → (step : BackupStep) × IsPassing (get_or numbers i d) step × Adds b c (step ∷ []) → (steps : List BackupStep) × ArePassed (take (i + 1) numbers) steps × Adds a c steps
passed_next numbers i d a b c lt (steps, so_far, first) (step, one, second) = (
  steps ++ step ∷ [],
  subst (λ (ns : List ℕ). ArePassed ns (steps ++ step ∷ [])) (sym (take_more numbers i d lt)) (passed_end (take i numbers) steps (get_or numbers i d) step so_far one),
  adds-more a b c _ _ first second,
)

-- one was taken away, or stayed
pub one_taken : (n : ℕ) (a b : Option (List BackupStep)) → Adds a b (taken n ∷ []) → (step : BackupStep) × IsPassing n step × Adds a b (step ∷ [])
one_taken n a b p = (taken n, inl refl, p)

pub one_stayed : (n : ℕ) (a b c : Option (List BackupStep)) → b ≡ a → Adds b c (stayed n ∷ []) → (step : BackupStep) × IsPassing n step × Adds a c (step ∷ [])
one_stayed n a b c same p = (stayed n, inr refl, subst (λ (o : Option (List BackupStep)). Adds o c (stayed n ∷ [])) same p)

-- ---- what a backup comes to

-- so far none was begun
pub unbegun : (a b : Option (List BackupStep)) → b ≡ a → (steps : List BackupStep) × IsUnbegun steps × Adds a b steps
unbegun a b is = ([], inl refl, adds-same a a b [] is (adds-none a))

pub unlisted : (a b c : Option (List BackupStep)) → Adds a b (looked ∷ []) → c ≡ b → (steps : List BackupStep) × IsUnbegun steps × Adds a c steps
unlisted a b c p is = (looked ∷ [], inr (inl refl), adds-same a b c _ is p)

module _ (there wholes : List ℕ) (a b c d : Option (List BackupStep)) (first : Adds a b (looked ∷ [])) (second : Adds b c (listed there wholes ∷ [])) where
  pub unmade : d ≡ c → (steps : List BackupStep) × IsUnbegun steps × Adds a d steps
  unmade is = (begins there wholes, inr (inr (there, (wholes, refl))), adds-same a c d _ is (adds-more a b c _ _ first second))

  pub begun : (keep : Option ℕ) (gone : List ℕ) (number : ℕ) → IsOld keep wholes gone → (IsSome b → All (λ n. n ≤ greatest there) wholes) → number ≡ next_number there → Adds c d (made number ∷ [])
      → IsBegun keep a d number gone
  begun keep gone number old within is third = record {
    there = there;
    wholes = wholes;
    numbered = is;
    are_old = old;
    are_before = λ some. subst (λ (m : ℕ). All (λ n. n < m) gone) (sym is) (old_before keep wholes gone (greatest there) old (within (some_after a b _ first some)));
    adds = adds-more a c d _ _ (adds-more a b c _ _ first second) third;
  }

module _ (holds known : StoreFile → List ℕ) (same : known ≡ holds) (keep : Option ℕ) (gone : List ℕ) (number : ℕ) (a b : Option (List BackupStep)) (first : IsBegun keep a b number gone) where
  begun-here : Adds a b (begins first.there first.wholes ++ made (next_number first.there) ∷ [])
  begun-here = subst (λ (k : ℕ). Adds a b (begins first.there first.wholes ++ made k ∷ [])) first.numbered first.adds

  pub made-whole : (c d : Option (List BackupStep)) → Adds b c (kept number Store (known Store) ∷ kept number Log (known Log) ∷ finished number ∷ []) → (steps : List BackupStep) × ArePassed gone steps × Adds c d steps
      → IsBackupMade keep holds a d number
  made-whole c d rest (steps, passed, last) =
      let next = next_number first.there in
      let here : Adds b c (kept next Store (holds Store) ∷ kept next Log (holds Log) ∷ finished next ∷ []) =
      subst (λ (k : ℕ). Adds b c (kept k Store (holds Store) ∷ kept k Log (holds Log) ∷ finished k ∷ [])) first.numbered
      (subst (λ (h : StoreFile → List ℕ). Adds b c (kept number Store (h Store) ∷ kept number Log (h Log) ∷ finished number ∷ [])) same rest) in
      record {
        there = first.there;
        wholes = first.wholes;
        gone = gone;
        passed = steps;
        numbered = first.numbered;
        are_old = first.are_old;
        are_before = first.are_before;
        are_passed = passed;
        adds = adds-more a c d (whole holds first.there first.wholes) steps (adds-more a b c _ _ begun-here here) last;
      }

  pub made-none : (c d : Option (List BackupStep)) → (part : List BackupStep) × IsPart known number part × Adds b c part → Adds c d (cleared number ∷ []) → IsNoBackupMade holds a d
  made-none c d (part, some, rest) last =
      let next = next_number first.there in
      let here : IsPart holds next part = subst (λ (k : ℕ). IsPart holds k part) first.numbered (subst (λ (h : StoreFile → List ℕ). IsPart h number part) same some) in
      let end : Adds c d (cleared next ∷ []) = subst (λ (k : ℕ). Adds c d (cleared k ∷ [])) first.numbered last in
      let all = adds-more a b d _ _ begun-here (adds-more b c d part _ rest end) in
      (begins first.there first.wholes ++ (made next ∷ (part ++ cleared next ∷ [])), inr (first.there, (first.wholes, (part, here, refl))), all)

-- none was begun
pub begun-none : (holds : StoreFile → List ℕ) (a b : Option (List BackupStep)) → (steps : List BackupStep) × IsUnbegun steps × Adds a b steps → IsNoBackupMade holds a b
begun-none holds a b (steps, is, p) = (steps, inl is, p)
