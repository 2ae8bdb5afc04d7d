-- What the first bytes of an input say of its head.
use Rattle.std.proofs.Common.{◌≡◌, ◌≢◌, Bool, false, nat_eq, ℕ, zero, suc, ◌-◌, ◌<◌, ◌≤◌, List, [], ◌∷◌, ◌++◌, length, take, Option, Some, None, Err, inl, inr, sym, ap, subst, ◌∙◌, arith, append_assoc, append-nil, length-append}
use Rattle.std.specs.Prelude.{IfSome}
use Rattle.std.proofs.lemmas.List.{take_all}
use Rattle.std.specs.Io.KnownBytes.{Consumes, IsAtEnd}
use Rattle.std.proofs.KnownBytes.{Consumes-trans}
use Rattle.httparse.specs.Grammar.{RequestHead, ReadsRequest, HasNoRequest, NeverHasRequest, MayBecomeRequest, print_request}
use Rattle.httparse.specs.Spans.{RequestOverflows, RequestExceeds}
use Rattle.shop_request.specs.declared.faults.RequestFault.TheVariants.{BadRequest, LargeHead}
use Rattle.httparse.specs.declared.Error.{Error}
use Rattle.httparse.specs.declared.Error.TheVariants.{TooManyHeaders}
use Rattle.shop_request.specs.declared.faults.RequestFault.{RequestFault}
use Rattle.shop_request.specs.Reading.{IsFaultOf, IsRefused}
use Rattle.shop_request.specs.Heads.{prefix, HasHead, BeginsWith}

take-append : (n : ℕ) (p m : List ℕ) → take n (p ++ m) ≡ take n p ++ take (n - length p) m
take-append zero p m = let none : 0 - length p ≡ 0 = omega arith in sym (ap (λ k. take k m) none)
take-append (suc n) [] m = let same : suc n ≡ suc n - 0 = omega arith in ap (λ k. take k m) same
take-append (suc n) (b ∷ p) m = let same : suc n - length (b ∷ p) ≡ n - length p = omega arith in ap (λ l. b ∷ l) (take-append n p m) ∙ ap (λ k. b ∷ (take n p ++ take k m)) (sym same)

-- what may follow in the prefix
abbrev later : List ℕ → List ℕ → List ℕ
later p m = take (8192 - length p) m

-- the prefix of an input is that of a first part of it, and what may follow
prefix-append : (p m : List ℕ) → prefix (p ++ m) ≡ prefix p ++ later p m
prefix-append p m = take-append 8192 p m

prefix_full : (p m : List ℕ) → 8192 ≤ length p → prefix (p ++ m) ≡ prefix p
prefix_full p m long =
    let none : 8192 - length p ≡ 0 = omega arith in
    prefix-append p m ∙ ap (λ k. prefix p ++ take k m) none ∙ append-nil (prefix p)

never-append : (p m : List ℕ) → NeverHasRequest p → NeverHasRequest (p ++ m)
never-append p m never more = subst HasNoRequest (sym (append_assoc p m more)) (never (m ++ more))

overflows-append : (p m : List ℕ) → RequestOverflows 64 p → RequestOverflows 64 (p ++ m)
overflows-append p m over more h rest reads = over (m ++ more) h rest (subst (λ l. ReadsRequest l h rest) (append_assoc p m more) reads)

exceeds-append : (p m : List ℕ) → RequestExceeds 64 p → RequestExceeds 64 (p ++ m)
exceeds-append p m x = (x.0, x.1 ++ m, ap (λ l. l ++ m) x.2 ∙ append_assoc x.0 x.1 m, x.3, x.4, x.5)

-- a claim on what there was before, from one on the bytes that came and on what is left
abbrev OfInput : Option (List ℕ) → (List ℕ → Type 0) → Type 0
OfInput old claim = IfSome old (λ input. (0 < length input) × claim input)

received : (claim : List ℕ → Type 0) (old new : Option (List ℕ)) (p : List ℕ) → 0 < length p → Consumes old new p → ((m : List ℕ) → claim (p ++ m)) → OfInput old claim
received claim None new p some is reports = tt
received claim (Some xs) None p some is reports = absurd is
received claim (Some xs) (Some ys) p some is reports = (omega (arith, ap length is, length-append p ys, some), subst claim (sym is) (reports ys))

pub never_a_head : (old new : Option (List ℕ)) (p : List ℕ) → 0 < length p → Consumes old new p → NeverHasRequest (prefix p) → OfInput old (λ input. HasHead input (Err BadRequest))
never_a_head old new p some is never =
    received (λ input. HasHead input (Err BadRequest)) old new p some is (λ m. inl (subst NeverHasRequest (sym (prefix-append p m)) (never-append (prefix p) (later p m) never)))

pub too_many_fields : (old new : Option (List ℕ)) (p : List ℕ) → 0 < length p → Consumes old new p → RequestExceeds 64 (prefix p) → RequestOverflows 64 (prefix p) → OfInput old (λ input. HasHead input (Err LargeHead))
too_many_fields old new p some is exceeds overflows =
    received (λ input. HasHead input (Err LargeHead)) old new p some is (λ m. inl (
      subst (RequestExceeds 64) (sym (prefix-append p m)) (exceeds-append (prefix p) (later p m) exceeds),
      subst (RequestOverflows 64) (sym (prefix-append p m)) (overflows-append (prefix p) (later p m) overflows),
    ))

pub prefix_is_full : (old new : Option (List ℕ)) (p : List ℕ) → 8192 ≤ length p → Consumes old new p → HasNoRequest (prefix p) → MayBecomeRequest (prefix p) → OfInput old (λ input. HasHead input (Err LargeHead))
prefix_is_full old new p long taken none may =
    received (λ input. HasHead input (Err LargeHead)) old new p (omega (arith, long)) taken (λ m. inr (
      omega (arith, length-append p m, long),
      subst HasNoRequest (sym (prefix_full p m long)) none,
      subst MayBecomeRequest (sym (prefix_full p m long)) may,
    ))

pub ends_early : (old new : Option (List ℕ)) (p : List ℕ) → length p < 8192 → 0 < length p → Consumes old new p → IsAtEnd new → HasNoRequest (prefix p) → OfInput old (λ input. HasHead input (Err BadRequest))
ends_early None new p short some is end none = tt
ends_early (Some xs) None p short some is end none = absurd is
ends_early (Some xs) (Some ys) p short some is end none =
    let whole : xs ≡ p = is ∙ ap (λ l. p ++ l) end ∙ append-nil p in
    (omega (arith, ap length whole, some), subst (λ l. HasHead l (Err BadRequest)) (sym whole) (inr (short, subst HasNoRequest (take_all 8192 p (omega (arith, short))) none)))

pub nothing_received : (old new : Option (List ℕ)) (p : List ℕ) → length p ≡ 0 → Consumes old new p → IsAtEnd new → IsAtEnd old
nothing_received None new p empty is end = tt
nothing_received (Some xs) None p empty is end = absurd is
nothing_received (Some xs) (Some ys) [] empty is end = is ∙ end
nothing_received (Some xs) (Some ys) (b ∷ p) empty is end = absurd (omega (arith, empty))

pub more_taken : (old mid new : Option (List ℕ)) (p p' piece : List ℕ) → Consumes old mid p → p' ≡ p ++ piece → Consumes mid new piece → Consumes old new p'
more_taken old mid new p p' piece first is second = subst (Consumes old new) (sym is) (Consumes-trans old mid new p piece first second)

pub none_taken : (old mid new : Option (List ℕ)) (p : List ℕ) → Consumes old mid p → Consumes mid new [] → Consumes old new p
none_taken old mid new p first second = subst (Consumes old new) (append-nil p) (Consumes-trans old mid new p [] first second)

pub some_more : (p p' piece : List ℕ) → p' ≡ p ++ piece → 0 < length piece → 0 < length p'
some_more p p' piece is some = omega (arith, ap length is, length-append p piece, some)

pub some_of : (b : Bool) (n : ℕ) → b ≡ nat_eq n 0 → b ≡ false → 0 < n
some_of b zero is e = absurd (cc (sym is ∙ e))
some_of b (suc n) is e = omega arith

pub refused : (old new : Option (List ℕ)) (p : List ℕ) → 0 < length p → Consumes old new p → (fault : RequestFault) → IsRefused (prefix p) fault → OfInput old (λ input. HasHead input (Err fault))
refused old new p some taken fault (inl large) =
    subst (λ f. OfInput old (λ input. HasHead input (Err f))) (sym large.0) (too_many_fields old new p some taken large.1 large.2)
refused old new p some taken fault (inr bad) = subst (λ f. OfInput old (λ input. HasHead input (Err f))) (sym bad.0) (never_a_head old new p some taken bad.1)

-- what `httparse` says of an error, with room for so many fields
pub refused_prefix : (p : List ℕ) (slots : ℕ) → slots ≡ 64 → (error : Error) (fault : RequestFault) → IsFaultOf error fault → (error ≢ TooManyHeaders → NeverHasRequest p) → (error ≡ TooManyHeaders → RequestExceeds slots p) → RequestOverflows slots p → IsRefused p fault
refused_prefix p slots is error fault (inl large) never exceeds overflows =
    inl (large.1, subst (λ n. RequestExceeds n p) is (exceeds large.0), subst (λ n. RequestOverflows n p) is overflows)
refused_prefix p slots is error fault (inr bad) never exceeds overflows = inr (bad.1, never bad.0)

-- ---- after a whole head

pub begins : (p m : List ℕ) (h : RequestHead) (rest : List ℕ) → length h.fields ≤ 64 → ReadsRequest (prefix p) h rest → BeginsWith (p ++ m) h
begins p m h rest few reads =
    record {
      rest = rest ++ later p m;
      reads = subst (λ l. ReadsRequest l h (rest ++ later p m)) (sym (prefix-append p m)) (reads.0, ap (λ l. l ++ later p m) reads.1 ∙ append_assoc (print_request h) rest (later p m));
      few = few;
    }
