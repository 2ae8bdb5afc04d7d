-- A line while it is read.
use Rattle.std.proofs.Common.{◌≡◌, ℕ, zero, suc, lit<, ◌+◌, ◌-◌, ◌<◌, ◌≤◌, List, [], ◌∷◌, ◌++◌, length, take, Bool, true, false, Option, Some, None, inl, inr, ◌⊎◌, refl, sym, ap, subst, ◌∙◌, arith, append_assoc, append-nil, length-append, nat_eq, ne_eqb, Result, Ok}
use Rattle.std.proofs.lemmas.List.{length-take}
use Rattle.std.proofs.lemmas.Bool.Decides.{nat_tests}
use Rattle.std.specs.Prelude.{not, nat_lt, if◌then◌else◌}
use Rattle.std.specs.Io.KnownBytes.{Consumes, IsAtEnd, prepend_known}
use Rattle.std.proofs.KnownBytes.{Consumes-trans, Consumes-nil}
use Rattle.shop_wire.specs.Lines.{lines_of, HasNoFeed, GivesLine, kept_of, longest_line}
use Rattle.shop_streams.specs.Streams.{most_counted, one_more}
use Rattle.shop_wire.specs.declared.limits.TheConstants.{BUFFER_SIZE}
use Rattle.shop_wire.specs.Streams.{AreReads, CountTogether, TookBytes, IsLong, most_reads, work}
use Rattle.shop_wire.proofs.LineLemmas.{first_line, last_line, HasNoFeed-append, kept_of-append}

-- so much of a line was taken of what was left before
pub record IsReading (before now : Option (List ℕ)) (line got : List ℕ) : Type 0 where
  pub free : HasNoFeed got
  pub kept : line ≡ kept_of got
  pub taken : Consumes before now got

pub nothing_yet : (before : Option (List ℕ)) → IsReading before before [] []
nothing_yet before = record { free = tt; kept = refl; taken = Consumes-nil before }

pub taking : (p prefix more : List ℕ) (left : Option (List ℕ)) → p ≡ prefix ++ more → Consumes (prepend_known p left) (prepend_known more left) prefix
taking p prefix more None is = tt
taking p prefix more (Some xs) is = ap (λ l. l ++ xs) is ∙ append_assoc prefix more xs

kept_more : (line got part line' : List ℕ) → line ≡ kept_of got → line' ≡ line ++ take (longest_line + 1 - length line) part → line' ≡ kept_of (got ++ part)
kept_more line got part line' kept is = is ∙ ap (λ l. l ++ take (longest_line + 1 - length l) part) kept ∙ sym (kept_of-append got part)

pub open_part : (before left : Option (List ℕ)) (p line line' got : List ℕ) → IsReading before (prepend_known p left) line got → HasNoFeed p
    → line' ≡ line ++ take (longest_line + 1 - length line) p → IsReading before (prepend_known [] left) line' (got ++ p)
open_part before left p line line' got so_far free is =
    record {
      free = HasNoFeed-append got p so_far.free free;
      kept = kept_more line got p line' so_far.kept is;
      taken = Consumes-trans before (prepend_known p left) (prepend_known [] left) got p so_far.taken (taking p p [] left (sym (append-nil p)));
    }

pub refilled : (before left left' : Option (List ℕ)) (p line got : List ℕ) → IsReading before (prepend_known [] left) line got → Consumes left left' p → IsReading before (prepend_known p left') line got
refilled before left left' p line got so_far is =
    record { free = so_far.free; kept = so_far.kept; taken = subst (Consumes before (prepend_known p left')) (append-nil got) (Consumes-trans before (prepend_known [] left) (prepend_known p left') got [] so_far.taken (received left left' is)) }
  where
    received : (a b : Option (List ℕ)) → Consumes a b p → Consumes (prepend_known [] a) (prepend_known p b) []
    received None b h = tt
    received (Some x) None h = absurd h
    received (Some x) (Some y) h = h

pub at_the_end : (before left left' : Option (List ℕ)) (p line got : List ℕ) → IsReading before (prepend_known [] left) line got → Consumes left left' [] → p ≡ [] → IsReading before (prepend_known p left') line got
at_the_end before left left' p line got so_far is none = refilled before left left' p line got so_far (subst (Consumes left left') (sym none) is)

gives_first : (before after : Option (List ℕ)) (whole : List ℕ) → HasNoFeed whole → Consumes before after (whole ++ 10 ∷ []) → GivesLine before after whole
gives_first None after whole free h = tt
gives_first (Some xs) None whole free h = absurd h
gives_first (Some xs) (Some ys) whole free h = ap lines_of (h ∙ append_assoc whole (10 ∷ []) ys) ∙ first_line whole ys free

pub fed_part : (before left : Option (List ℕ)) (p part p' line line' got : List ℕ) → IsReading before (prepend_known p left) line got → HasNoFeed part → p ≡ part ++ 10 ∷ p'
    → line' ≡ line ++ take (longest_line + 1 - length line) part → (line' ≡ kept_of (got ++ part)) × GivesLine before (prepend_known p' left) (got ++ part)
fed_part before left p part p' line line' got so_far free splits is =
    let ends : Consumes before (prepend_known p' left) (got ++ (part ++ 10 ∷ [])) =
    Consumes-trans before (prepend_known p left) (prepend_known p' left) got (part ++ 10 ∷ []) so_far.taken (taking p (part ++ 10 ∷ []) p' left (splits ∙ sym (append_assoc part (10 ∷ []) p'))) in (
      kept_more line got part line' so_far.kept is,
      gives_first before (prepend_known p' left) (got ++ part) (HasNoFeed-append got part so_far.free free) (subst (Consumes before (prepend_known p' left)) (sym (append_assoc got part (10 ∷ []))) ends),
    )

pub last_part : (before left : Option (List ℕ)) (p line got : List ℕ) → IsReading before (prepend_known p left) line got → p ≡ [] → IsAtEnd left → 0 < length got → GivesLine before (prepend_known p left) got
last_part None left p line got so_far none end some = tt
last_part (Some xs) None p line got so_far none end some = absurd so_far.taken
last_part (Some xs) (Some ys) p line got so_far none end some =
    let nothing : p ++ ys ≡ [] = ap (λ l. l ++ ys) none ∙ end in
    ap lines_of (so_far.taken ∙ ap (λ l. got ++ l) nothing ∙ append-nil got) ∙ last_line got some so_far.free ∙ ap (λ l. got ∷ lines_of l) (sym nothing)

pub nothing_left : (before left : Option (List ℕ)) (p line got : List ℕ) → IsReading before (prepend_known p left) line got → p ≡ [] → IsAtEnd left → got ≡ [] → IsAtEnd before
nothing_left None left p line got so_far none end empty = tt
nothing_left (Some xs) None p line got so_far none end empty = absurd so_far.taken
nothing_left (Some xs) (Some ys) p line got so_far none end empty = so_far.taken ∙ ap (λ l. l ++ (p ++ ys)) empty ∙ ap (λ l. l ++ ys) none ∙ end

-- ---- reads

pub took_more : (a b c : ℕ) (x y z : Option (List ℕ)) → TookBytes a x b y → TookBytes b y c z → TookBytes a x c z
took_more a b c None y z p q = tt
took_more a b c (Some x) None z p q = absurd p
took_more a b c (Some x) (Some y) None p q = absurd q
took_more a b c (Some x) (Some y) (Some z) p q = omega arith

pub took_none : (a : ℕ) (x : Option (List ℕ)) → TookBytes a x a x
took_none a None = tt
took_none a (Some x) = omega arith

pub long_before : (a b : ℕ) (x y : Option (List ℕ)) → TookBytes a x b y → IsLong b y → IsLong a x
long_before a b None y p q = tt
long_before a b (Some x) None p q = absurd p
long_before a b (Some x) (Some y) p q = omega arith

pub together_more : (a b c x y z : ℕ) → CountTogether a x b y → CountTogether b y c z → CountTogether a x c z
together_more a b c x y z p q = (omega (arith, p.0, q.0), omega (arith, p.1, q.1), by p.2 q.2)
  where
    by : (x + b ≤ y + a) ⊎ (most_counted ≤ y) → (y + c ≤ z + b) ⊎ (most_counted ≤ z) → (x + c ≤ z + a) ⊎ (most_counted ≤ z)
    by (inl i) (inl j) = inl (omega (arith, i, j))
    by (inl i) (inr j) = inr j
    by (inr i) (inl j) = inr (omega (arith, i, j, q.0))
    by (inr i) (inr j) = inr j

pub together_none : (a x : ℕ) → CountTogether a x a x
together_none a x = (omega arith, omega arith, inl (omega arith))

-- one more read is counted by both
pub together_one : (a x : ℕ) → CountTogether a x (a + 1) (one_more x)
together_one a x = by (nat_lt x most_counted) refl
  where
    by : (t : Bool) → nat_lt x most_counted ≡ t → CountTogether a x (a + 1) (if t then x + 1 else x)
    by true e = (omega arith, omega arith, inl (omega arith))
    by false e = (omega arith, omega arith, inr (grind (arith, nat_tests)))

-- all reads of a reader from its start on
pub all_reads : (n x y : ℕ) → CountTogether 0 x n y → n ≤ most_reads → y ≤ x + most_reads
all_reads n x y p few = omega (arith, p.1, few)

pub the_most_reads : (n x y : ℕ) → CountTogether 0 x n y → n ≡ most_reads → AreReads x most_reads y
the_most_reads n x y p is = (omega (arith, p.1, is), by p.2)
  where
    by : (x + n ≤ y + 0) ⊎ (most_counted ≤ y) → (x + most_reads ≤ y) ⊎ (most_counted ≤ y)
    by (inl i) = inl (omega (arith, i, is))
    by (inr i) = inr i

-- ---- what is kept of a line is empty where the line is

take_none : (n : ℕ) (got : List ℕ) → 0 < n → length (take n got) ≡ 0 → got ≡ []
take_none n [] some none = refl
take_none zero (b ∷ got) some none = absurd (omega arith)
take_none (suc n) (b ∷ got) some none = absurd (omega (arith, none))

pub kept_none : (line got : List ℕ) → line ≡ kept_of got → length line ≡ 0 → got ≡ []
kept_none line got is none = take_none (longest_line + 1) got (lit< tt) (sym (ap length is) ∙ none)

pub some_got : (line got : List ℕ) (empty : Bool) → line ≡ kept_of got → empty ≡ nat_eq (length line) 0 → not empty ≡ true → 0 < length got
some_got line [] empty is tests e = absurd (cc (sym (ap (λ l. not (nat_eq (length l) 0)) is) ∙ sym (ap not tests) ∙ e))
some_got line (b ∷ got) empty is tests e = omega arith

pub none_got : (line : List ℕ) (empty : Bool) → empty ≡ nat_eq (length line) 0 → not empty ≡ false → length line ≡ 0
none_got [] empty tests e = refl
none_got (b ∷ line) empty tests e =
    let is : empty ≡ false = tests ∙ ne_eqb (length (b ∷ line)) 0 (λ z. omega arith) in
    let other : true ≡ false = sym (ap not is) ∙ e in
    cc other

pub same_ok : {E : Type 0} (a b : Bool) → ◌≡◌ {A = Result Bool E} (Ok a) (Ok b) → a ≡ b
same_ok a b e = cc

pub kept_short : (line got : List ℕ) → line ≡ kept_of got → length line ≤ 131073
kept_short line got is = omega (arith, ap length is, length-take (longest_line + 1) got)

pub work_on : (r r' w : ℕ) (p p' got : List ℕ) → r' ≡ r + 1 → r' ≤ most_reads → length p' ≤ BUFFER_SIZE → work r p + length got ≤ w → work r' p' + length (got ++ p) ≤ w
work_on r r' w p p' got is most few so_far = omega (arith, is, length-append got p)
