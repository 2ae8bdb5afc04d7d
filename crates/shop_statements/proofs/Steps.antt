-- Steps inside a transaction, one after another.
use Rattle.std.proofs.Common.{◌≡◌, ◌<◌, List, [], ◌∷◌, length, Result, Ok, Err, OnOk, OnErr, refl, inl, arith}
use Rattle.sqlite.specs.State.{State, HasCleanDisk}
use Rattle.sqlite.proofs.StateLemmas.{survives_then}
use Rattle.sqlite.proofs.InsideLemmas.{keeps_then}
use Rattle.shop_statements.specs.Shown.{Books, Makes, Ran, Went, Within}

pub on_ok_then : {X E A B : Type 0} (r : Result X E) → (A → B) → OnOk r A → OnOk r B
on_ok_then (Ok x) f h = f h
on_ok_then (Err e) f h = tt

pub on_ok_both : {X E A B C : Type 0} (r : Result X E) → OnOk r A → OnOk r B → (A → B → C) → OnOk r C
on_ok_both (Ok x) a b f = f a b
on_ok_both (Err e) a b f = tt

pub on_err : {X E A : Type 0} (r : Result X E) → A → OnErr r A
on_err (Ok x) h = tt
on_err (Err e) h = h

-- ---- one step

pub went_as : (a b : State) → Ran a b → Went a b
went_as a b ran = record {
  earlier = ran.earlier;
  mode = λ clean inside. (ran.on clean inside).2;
  stays_open = λ clean inside up. (ran.on clean inside).1;
}

-- ---- no step

pub went_nowhere : (a : State) → Went a a
went_nowhere a = record { earlier = λ clean. clean; mode = λ clean inside. inside; stays_open = λ clean inside up. up }

pub within_itself : (a : State) → Within a a
within_itself a = record {
  kept = λ clean. record { was_open = λ up. up; committed = λ up. refl };
  survives = record {
    clean = omega arith;
    shield = λ h. h;
    counts = omega arith;
    limit = refl;
    closes = λ clean up. inl up;
    crash = λ clean db left. inl left;
  };
}

pub none_below : {X : Type 0} (xs : List X) → length xs < 1 → xs ≡ []
none_below [] few = refl
none_below (x ∷ xs) few = absurd (omega arith)

-- ---- two steps

pub went_then : (a b c : State) → Went a b → Went b c → Went a c
went_then a b c one two = record {
  earlier = λ clean. one.earlier (two.earlier clean);
  mode = λ clean inside. two.mode clean (one.mode (two.earlier clean) inside);
  stays_open = λ clean inside up. let early = two.earlier clean in two.stays_open clean (one.mode early inside) (one.stays_open early inside up);
}

pub ran_then : (a b c : State) → Ran a b → Went b c → Ran a c
ran_then a b c one two = record {
  earlier = λ clean. one.earlier (two.earlier clean);
  on = λ clean inside. let first = one.on (two.earlier clean) inside in (first.0, two.stays_open clean first.2 first.1, two.mode clean first.2);
}

pub makes_then : (a b c : State) (x y z : Books) → Went a b → Went b c → Makes a b x y → Makes b c y z → Makes a c x z
makes_then a b c x y z went more one two clean inside has =
    let early = more.earlier clean in two clean (went.mode early inside) (one early inside has)

pub within_then : (a b c : State) → Within a b → Within b c → Within a c
within_then a b c one two = record {
  kept = λ clean. let s = two.survives.clean in let early : HasCleanDisk b = omega (arith, s) in keeps_then a b c (one.kept early) (two.kept clean);
  survives = survives_then a b c (λ _. ⊥) (λ _. ⊥) (λ _. ⊥) (λ _ db none. none) (λ _ db none. none) one.survives two.survives;
}

-- the second of two statements may fail
pub ran_over : {X E : Type 0} (r : Result X E) (a b c : State) → Ran a b → OnOk r (Ran b c) → OnOk r (Ran a c)
ran_over r a b c one = on_ok_then r (λ two. ran_then a b c one (went_as b c two))

pub makes_over : {X E : Type 0} (r : Result X E) (a b c : State) (x y z : Books) → Ran a b → OnOk r (Ran b c) → Makes a b x y → OnOk r (Makes b c y z) → OnOk r (Makes a c x z)
makes_over r a b c x y z one more first two = on_ok_both r more two (λ ran makes. makes_then a b c x y z (went_as a b one) (went_as b c ran) first makes)
