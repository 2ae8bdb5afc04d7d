-- An input has one head, or none.
use Rattle.std.proofs.Common.{◌≡◌, ℕ, ◌<◌, List, [], length, Result, Ok, Err, inl, inr, refl, sym, ap, subst, ◌∙◌, arith, append-nil}
use Rattle.std.specs.Prelude.{◌⊎◌}
use Rattle.std.proofs.lemmas.List.{take_all}
use Rattle.httparse.specs.Grammar.{RequestHead, ReadsRequest}
use Rattle.httparse.proofs.GrammarLemmas.{request_unique}
use Rattle.shop_request.specs.declared.faults.RequestFault.{RequestFault}
use Rattle.shop_request.specs.declared.faults.RequestFault.TheVariants.{BadRequest, NotFound, OnlyGet, OnlyPost, NoLength, LargeBody, LargeHead}
use Rattle.shop_request.specs.Heads.{prefix, BeginsWith, HasBadHead, HasLargeHead, HasHead}
use Rattle.shop_request.specs.Requests.{ParseResult, ParsesTo, on_head}
use Rattle.shop_request.specs.Parses.{IsHeadFault, MayBeEither}

pub not_bad : (input : List ℕ) (h : RequestHead) → BeginsWith input h → HasBadHead input → ⊥
not_bad input h begins (inl never) = never [] h begins.rest (subst (λ l. ReadsRequest l h begins.rest) (sym (append-nil (prefix input))) begins.reads)
not_bad input h begins (inr early) =
    early.1 h begins.rest (subst (λ l. ReadsRequest l h begins.rest) (take_all 8192 input (omega (arith, early.0))) begins.reads)

pub not_large : (input : List ℕ) (h : RequestHead) → BeginsWith input h → HasLargeHead input → ⊥
not_large input h begins (inl over) =
    let more : 64 < length h.fields = over.1 [] h begins.rest (subst (λ l. ReadsRequest l h begins.rest) (sym (append-nil (prefix input))) begins.reads) in
    absurd (omega (arith, more, begins.few))
not_large input h begins (inr full) = full.1 h begins.rest begins.reads

-- a head that is bad and large
both_faults : (input : List ℕ) → HasBadHead input → HasLargeHead input → MayBeEither input
both_faults input bad (inl over) = inl over.0
both_faults input (inl never) (inr (long, none, inl may)) = absurd (never may.0 may.1 [] may.2)
both_faults input (inl never) (inr (long, none, inr ends)) = inr ends
both_faults input (inr early) (inr full) = absurd (omega (arith, early.0, full.0))

-- the head of an input is one, or it is a bad one and a large one
abbrev AreOne : List ℕ → Result RequestHead RequestFault → Result RequestHead RequestFault → Type 0
AreOne input a b = (a ≡ b) ⊎ (IsHeadFault (on_head a input) × IsHeadFault (on_head b input) × MayBeEither input)

one_head : (input : List ℕ) (a b : Result RequestHead RequestFault) → HasHead input a → HasHead input b → AreOne input a b
one_head input (Ok h) (Ok k) x y = inl (ap Ok (request_unique (prefix input) h k x.rest y.rest x.reads y.reads).0)
one_head input (Ok h) (Err BadRequest) x y = absurd (not_bad input h x y)
one_head input (Ok h) (Err LargeHead) x y = absurd (not_large input h x y)
one_head input (Err BadRequest) (Ok k) x y = absurd (not_bad input k y x)
one_head input (Err LargeHead) (Ok k) x y = absurd (not_large input k y x)
one_head input (Err BadRequest) (Err BadRequest) x y = inl refl
one_head input (Err LargeHead) (Err LargeHead) x y = inl refl
one_head input (Err BadRequest) (Err LargeHead) x y = inr (inl refl, inr refl, both_faults input x y)
one_head input (Err LargeHead) (Err BadRequest) x y = inr (inr refl, inl refl, both_faults input y x)
one_head input (Err NotFound) b x y = absurd x
one_head input (Err OnlyGet) b x y = absurd x
one_head input (Err OnlyPost) b x y = absurd x
one_head input (Err NoLength) b x y = absurd x
one_head input (Err LargeBody) b x y = absurd x
one_head input a (Err NotFound) x y = absurd y
one_head input a (Err OnlyGet) x y = absurd y
one_head input a (Err OnlyPost) x y = absurd y
one_head input a (Err NoLength) x y = absurd y
one_head input a (Err LargeBody) x y = absurd y

by_heads : (input : List ℕ) (s t : ParseResult) (a b : Result RequestHead RequestFault) → s ≡ on_head a input → t ≡ on_head b input → AreOne input a b
    → (s ≡ t) ⊎ (IsHeadFault s × IsHeadFault t × MayBeEither input)
by_heads input s t a b p q (inl same) = inl (p ∙ ap (λ r. on_head r input) same ∙ sym q)
by_heads input s t a b p q (inr either) = inr (subst IsHeadFault (sym p) either.0, subst IsHeadFault (sym q) either.1, either.2)

pub one_parse : (input : List ℕ) (s t : ParseResult) → ParsesTo input s → ParsesTo input t → (s ≡ t) ⊎ (IsHeadFault s × IsHeadFault t × MayBeEither input)
one_parse input s t (inl x) (inl y) = inl (x.1 ∙ sym y.1)
one_parse input s t (inl x) (inr y) = absurd (omega (arith, ap length x.0, y.0))
one_parse input s t (inr x) (inl y) = absurd (omega (arith, ap length y.0, x.0))
one_parse input s t (inr x) (inr y) = by_heads input s t x.1 y.1 x.3 y.3 (one_head input x.1 y.1 x.2 y.2)
