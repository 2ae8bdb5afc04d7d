-- What is known of books that are held in version 3, in version 2 or in version 1.
use Rattle.std.proofs.Common.{◌⊎◌, inl, inr, IfOk, IsTrue, Ok, Err, Result}
use Rattle.sqlite.specs.State.{State, HasCleanDisk}
use Rattle.shop_statements.specs.Earlier.{HoldsEither}
use Rattle.shop_statements.specs.Rows.{IsKeyed}
use Rattle.shop_statements.specs.Shown.{Books, Leaves}
use Rattle.shop_tables.proofs.EarlierRows.{stays_earlier, stays_second}

pub either : {A B C P : Type 0} → A ⊎ (B ⊎ C) → (A → P) → (B → P) → (C → P) → P
either (inl a) f g h = f a
either (inr (inl b)) f g h = g b
either (inr (inr c)) f g h = h c

pub stays_either : (old new : State) (b : Books) → Leaves old new → HoldsEither old b → HoldsEither new b
stays_either old new b leaves (inl was) = inl (leaves.stays b was)
stays_either old new b leaves (inr (inl was)) = inr (inl (stays_second old new b leaves was))
stays_either old new b leaves (inr (inr was)) = inr (inr (stays_earlier old new b leaves was))

pub keyed_either : (s : State) (b : Books) → HasCleanDisk s → IsTrue s.is_open → HoldsEither s b → IsKeyed b.content
keyed_either s b clean up (inl was) = (was clean up).shows.keyed
keyed_either s b clean up (inr (inl was)) = (was clean up).shows.keyed
keyed_either s b clean up (inr (inr was)) = (was clean up).shows.keyed

-- ---- answers

pub ok_so : {X E A : Type 0} (r : Result X E) → A → IfOk r (λ _. A)
ok_so (Ok x) h = h
ok_so (Err e) h = tt

pub ok_both : {X E : Type 0} {P Q R : X → Type 0} (r : Result X E) → IfOk r P → IfOk r Q → ((x : X) → P x → Q x → R x) → IfOk r R
ok_both (Ok x) p q f = f x p q
ok_both (Err e) p q f = tt
