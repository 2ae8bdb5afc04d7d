-- What a storage makes of the tables' answers.
use Rattle.std.proofs.Common.{◌≡◌, Result, Ok, Err, OnOk, OnErr, IfOk, inl, inr, subst, sym, arith}
use Rattle.sqlite_trees.specs.Tree.{Trees}
use Rattle.sqlite_trees.specs.declared.store.Store.{Ghosts}
use Rattle.sqlite.specs.State.{HasCleanDisk}
use Rattle.sqlite.specs.Held.{Held, state}
use Rattle.shop_records.specs.Content.{Content}
use Rattle.shop_statements.specs.Shown.{Books, Leaves, OnBooks}
use Rattle.shop_tables.specs.Held.{books, HoldsContent}
use Rattle.shop_statements.specs.declared.faults.TableFault.{TableFault}
use Rattle.shop_book.specs.Storages.{IsRead}
use Rattle.shop_book.specs.declared.storage.StorageFault.{StorageFault}
use Rattle.shop_store.specs.Storing.{HoldsTables, IsRemembered, read_by_tables}
use Rattle.shop_store.specs.declared.remembered.Remembered.{Remembered}

if_lift : {T : Type 0} (P : T → Type 0) (r : Result T TableFault) → IfOk r P → IfOk (read_by_tables r) P
if_lift P (Ok x) h = h
if_lift P (Err e) h = tt

pub if_ok : {T : Type 0} (P : T → Type 0) (r : Result T TableFault) (answer : Result T StorageFault) → answer ≡ read_by_tables r → IfOk r P → IfOk answer P
if_ok P r answer same h = subst (λ a. IfOk a P) (sym same) (if_lift P r h)

ok_lift : {T A B : Type 0} (r : Result T TableFault) → (A → B) → OnOk r A → OnOk (read_by_tables r) B
ok_lift (Ok x) f h = f h
ok_lift (Err e) f h = tt

err_lift : {T : Type 0} (A : Type 0) (r : Result T TableFault) → OnErr r A → OnErr (read_by_tables r) A
err_lift A (Ok x) h = tt
err_lift A (Err e) h = h

pub on_ok : {T A B : Type 0} (r : Result T TableFault) (answer : Result T StorageFault) → answer ≡ read_by_tables r → (A → B) → OnOk r A → OnOk answer B
on_ok {B = B} r answer same f h = subst (λ a. OnOk a B) (sym same) (ok_lift r f h)

pub on_err : {T : Type 0} (A : Type 0) (r : Result T TableFault) (answer : Result T StorageFault) → answer ≡ read_by_tables r → OnErr r A → OnErr answer A
on_err A r answer same h = subst (λ a. OnErr a A) (sym same) (err_lift A r h)

-- what holds anyway holds behind an error
pub behind_err : {X E A : Type 0} (result : Result X E) → A → OnErr result A
behind_err (Ok x) holds = tt
behind_err (Err e) holds = holds

module _ {S : Type 0} (g : Ghosts S) where
  -- what is said of the books is said of a held content
  pub says_of : (What : Books → Type 0) (old new : Held S) → OnBooks (state g old) (state g new) What → HasCleanDisk (state g new) → (m : Content) (was : HoldsContent (state g old) m) → What (books m was.totals was.uses)
  says_of What old new says clean m was = says clean (books m was.totals was.uses) was.holds

  -- a reading leaves the content
  pub leaves_content : (old new : Held S) → Leaves (state g old) (state g new) → (m : Content) → HoldsContent (state g old) m → HoldsContent (state g new) m
  leaves_content old new l m was = record { lines = was.lines; totals = was.totals; uses = was.uses; sums = was.sums; trail = was.trail; holds = l.stays (books m was.totals was.uses) was.holds }

  -- and the storage as it was, which remembers what it did
  pub reads : {J : Type 0} (conn : J → Held S) (it : J → Remembered) (old new : J) → it new ≡ it old → Leaves (state g (conn old)) (state g (conn new))
      → IsRead (λ j. HasCleanDisk (state g (conn j))) (λ j m. HoldsTables (state g (conn j)) (it j) m) (λ j (db : Trees). (state g (conn j)).may_leave db) old new
  reads conn it old new same l = record {
    clean_disk = λ clean. let s = l.survives.clean in omega (arith, s, clean);
    stays = λ clean m was. (
      leaves_content (conn old) (conn new) l m was.0,
      λ clean. subst (IsRemembered m) (sym same) (was.1 (let s = l.survives.clean in omega (arith, s, clean))),
    );
    crash = λ clean m was left may. elim (l.survives.crash clean left may) [ inl before ↦ before | inr none ↦ absurd none ];
  }
