-- What is known while rows are visited.
use Rattle.std.proofs.Common.{◌≡◌, inl, inr, ℕ, Bool, true, false, true≢false, List, [], ◌∷◌, ◌++◌, Some, None, Ok, Err, Result, IsTrue, IfOk, refl, sym, arith}
use Rattle.std.proofs.lemmas.Fn.{FoldsTo-push}
use Rattle.std.specs.Result.{IsErr}
use Rattle.sqlite_value.specs.Order.{Row}
use Rattle.sqlite_trees.specs.declared.store.Store.{Ghosts}
use Rattle.sqlite_resolve.specs.declared.compiled.Compiled.{Compiled}
use Rattle.sqlite_resolve.specs.declared.error.CompileError.{CompileError}
use Rattle.sqlite.specs.Listing.{understood}
use Rattle.sqlite.specs.State.{State, HasCleanDisk, IsUnchanged, Survives, CommitsShowing}
use Rattle.sqlite.specs.Held.{Held, state}
use Rattle.sqlite.specs.Given.{HasGiven, HasBegun, Returns, Advances}
use Rattle.sqlite.proofs.Callers.{given_begin, unchanged_then}
use Rattle.shop_records.specs.declared.records.Part.{Part}
use Rattle.shop_records.specs.Visits.{GoesOn}
use Rattle.shop_tables.specs.Visiting.{AreReadOf, IsReadOf, IsHeldAt, IsBorrowed, Starts, Answers}
use Rattle.shop_statements.specs.declared.faults.TableFault.{TableFault}
use Rattle.shop_tables.specs.declared.visiting.VisitEnd.{VisitEnd}
use Rattle.shop_tables.specs.declared.visiting.VisitEnd.TheVariants as borrowed
use Rattle.shop_statements.specs.Selecting.{is_select}
use Rattle.shop_statements.specs.Shown.{Leaves}
use Rattle.shop_tables.specs.Invalid.{IsNoPart}
use Rattle.shop_statements.proofs.Kept.{Stays, stays_open, stays_as_was, settled_stays, query_survives}
use Rattle.shop_statements.proofs.Queries.{query_returns}
use Rattle.shop_statements.proofs.Reading.{leaves_then}

returns_not : (r : Result Compiled CompileError) → ((c : Compiled) → r ≡ Ok c → c.returning ≡ None) → Returns r → ⊥
returns_not (Ok c) none some = absurd (let n = rw (none c refl) at some in cc)
returns_not (Err e) none some = some

-- what a step leaves that undoes at most a transaction
pub leaves_stays : (old new : State) → Survives old new (λ _. ⊥) → (HasCleanDisk new → Stays old new) → Leaves old new
leaves_stays old new survives stays = record {
  stays = λ b was clean up. let s = stays clean in settled_stays old new b s up (was (omega (arith, survives.clean)) (stays_open old new b s up));
  as_was = λ clean up. stays_as_was old new (stays clean) up;
  survives = survives;
}

pub read_push : (rows : List Row) (parts : List Part) (row : Row) (part : Part) → AreReadOf rows parts → IsReadOf row part → AreReadOf (rows ++ row ∷ []) (parts ++ part ∷ [])
read_push [] [] row part h one = (one, tt)
read_push [] (p ∷ parts) row part h one = absurd h
read_push (r ∷ rows) [] row part h one = absurd h
read_push (r ∷ rows) (p ∷ parts) row part h one = (h.0, read_push rows parts row part h.1 one)

pub no_answer : (r : Result VisitEnd TableFault) → IsErr r → IfOk r (λ how. ⊥)
no_answer (Ok how) is = absurd (true≢false (sym is))
no_answer (Err e) is = tt

failed : (P : VisitEnd → Type 0) (r : Result VisitEnd TableFault) → IfOk r (λ how. ⊥) → IfOk r P
failed P (Ok how) none = absurd none
failed P (Err e) none = tt

module _ {S : Type 0} (g : Ghosts S) where
  pub begun_select : (sql : List ℕ) (params : Row) (old new : Held S) → is_select sql ≡ true → HasBegun g sql params old new → HasGiven g sql params new [] × IsUnchanged (state g old) (state g new)
  begun_select sql params old new is (inl h) = h
  begun_select sql params old new is (inr h) = absurd (returns_not (understood old.schema sql) (λ c. query_returns old.schema sql is c) h.0)

  given_open : (sql : List ℕ) (params : Row) (h : Held S) (given : List Row) → HasGiven g sql params h given → IsTrue (state g h).is_open
  unfolding HasGiven
  given_open sql params h given it = it.0.is_open

  module _ {V : Type 0} (looks : V → Part → Bool → V → Type 0) (sql : List ℕ) (params : Row) (first : Held S) (before : V) where
    -- so many rows were visited, and their parts led the visitor to what it is
    pub record Going (now : Held S) (after : V) : Type 0 where
      pub given : List Row
      pub parts : List Part
      pub read : AreReadOf given parts
      pub visitor : GoesOn looks parts before after
      pub at : HasCleanDisk (state g now) → HasGiven g sql params now given × IsUnchanged (state g first) (state g now)
      pub leaves : Leaves (state g first) (state g now)

    -- a query began
    pub started : (now : Held S) → is_select sql ≡ true → (HasCleanDisk (state g now) → HasBegun g sql params first now) → Survives (state g first) (state g now) (CommitsShowing sql params (state g first)) → Going now before
    started now is begun survives = record {
      given = [];
      parts = [];
      read = tt;
      visitor = refl;
      at = λ clean. begun_select sql params first now is (begun clean);
      leaves = leaves_stays (state g first) (state g now) (query_survives sql params (state g first) (state g now) is survives) (λ clean. inl (begun_select sql params first now is (begun clean)).1);
    }

    held_at : (now : Held S) (after : V) → Going now after → HasCleanDisk (state g now) → IsHeldAt g sql params first now
    held_at now after it clean = record {
      clean = clean;
      is_open = given_open sql params now it.given (it.at clean).0;
      stays = it.leaves.stays;
      as_was = it.leaves.as_was clean (given_open sql params now it.given (it.at clean).0);
    }

    -- the rows so far are the first of the answer
    pub starts : (now : Held S) (after : V) (it : Going now after) → HasCleanDisk (state g now) → Starts g sql params first it.given
    starts now after it clean = inr (now, held_at now after it clean, given_begin g sql params now it.given (it.at clean).0)

    -- no row is left
    pub ended : (now next : Held S) (after : V) (it : Going now after) → HasCleanDisk (state g now) → Advances g now next None → Answers g sql params first it.given
    ended now next after it clean on = (now, next, held_at now after it clean, on sql params it.given (it.at clean).0)

    -- one row more
    pub went_to : (now next : Held S) (after last : V) (row : Row) (part : Part) → Going now after → Leaves (state g now) (state g next)
        → (HasCleanDisk (state g next) → Advances g now next (Some row)) → (HasCleanDisk (state g next) → IsUnchanged (state g now) (state g next)) → IsReadOf row part → looks after part true last → Going next last
    went_to now next after last row part it step on same read look =
        record {
          given = it.given ++ row ∷ [];
          parts = it.parts ++ part ∷ [];
          read = read_push it.given it.parts row part it.read read;
          visitor = FoldsTo-push (λ v p w. looks v p true w) before it.parts after part last it.visitor look;
          at = λ clean.
              let was = it.at (omega (arith, step.survives.clean)) in
              (on clean sql params it.given was.0, unchanged_then (state g first) (state g now) (state g next) was.1 (same clean));
          leaves = leaves_then (state g first) (state g now) (state g next) it.leaves step;
        }

    -- it sees what was held
    seen_at : (now new : Held S) (after : V) → Going now after → Leaves (state g now) (state g new) → HasCleanDisk (state g new) → IsTrue (state g new).is_open → IsHeldAt g sql params first new
    seen_at now new after it step clean up = record {
      clean = clean;
      is_open = up;
      stays = λ b was. step.stays b (it.leaves.stays b was);
      as_was = (leaves_then (state g first) (state g now) (state g new) it.leaves step).as_was clean up;
    }

    -- ---- the ways to an end

    -- no query began
    pub none_borrowed : (new : Held S) (r : Result VisitEnd TableFault) → IfOk r (λ how. ⊥) → IsBorrowed g sql params first looks new before r before
    none_borrowed new r none = record {
      given = [];
      parts = [];
      read = tt;
      on = true;
      visitor = refl;
      reported = failed _ r none;
      begins = λ _. inl refl;
      whole = λ _. failed _ r none;
      invalid = λ _. failed _ r none;
    }

    -- a fault
    pub broken_off : (now new : Held S) (after : V) (r : Result VisitEnd TableFault) → IfOk r (λ how. ⊥) → Going now after → (HasCleanDisk (state g new) → HasCleanDisk (state g now))
        → IsBorrowed g sql params first looks new before r after
    broken_off now new after r none it late = record {
      given = it.given;
      parts = it.parts;
      read = it.read;
      on = true;
      visitor = it.visitor;
      reported = failed _ r none;
      begins = λ clean. starts now after it (late clean);
      whole = λ _. failed _ r none;
      invalid = λ _. failed _ r none;
    }

    -- a row that is no part's
    pub invalid_at : (now new : Held S) (after : V) (row : Row) → Going now after → Leaves (state g now) (state g new) → (HasCleanDisk (state g new) → Advances g now new (Some row)) → IsNoPart row
        → IsBorrowed g sql params first looks new before (Ok borrowed.Invalid) after
    invalid_at now new after row it step on none = record {
      given = it.given;
      parts = it.parts;
      read = it.read;
      on = true;
      visitor = it.visitor;
      reported = refl;
      begins = λ clean. starts now after it (omega (arith, step.survives.clean));
      whole = λ _ other. absurd (cc);
      invalid = λ clean _.
          let more = on clean sql params it.given (it.at (omega (arith, step.survives.clean))).0 in (
            row,
            none,
            inr (new, seen_at now new after it step clean (given_open sql params new (it.given ++ row ∷ []) more), given_begin g sql params new (it.given ++ row ∷ []) more),
          );
    }

    -- the end of the rows
    pub all_borrowed : (now new : Held S) (after : V) → Going now after → Leaves (state g now) (state g new) → (HasCleanDisk (state g new) → Advances g now new None) → IsBorrowed g sql params first looks new before (Ok borrowed.All) after
    all_borrowed now new after it step on = record {
      given = it.given;
      parts = it.parts;
      read = it.read;
      on = true;
      visitor = it.visitor;
      reported = refl;
      begins = λ clean. starts now after it (omega (arith, step.survives.clean));
      whole = λ clean _. ended now new after it (omega (arith, step.survives.clean)) (on clean);
      invalid = λ _ other. absurd (cc);
    }

    -- the visitor stopped at a row
    pub stopped_at : (now new : Held S) (after last : V) (row : Row) (part : Part) → Going now after → Leaves (state g now) (state g new) → (HasCleanDisk (state g new) → Advances g now new (Some row))
        → IsReadOf row part → looks after part false last → IsBorrowed g sql params first looks new before (Ok borrowed.Stopped) last
    stopped_at now new after last row part it step on read look = record {
      given = it.given ++ row ∷ [];
      parts = it.parts ++ part ∷ [];
      read = read_push it.given it.parts row part it.read read;
      on = false;
      visitor = (it.parts, part, after, refl, it.visitor, look);
      reported = refl;
      begins = λ clean.
          let more = on clean sql params it.given (it.at (omega (arith, step.survives.clean))).0 in
          inr (new, seen_at now new after it step clean (given_open sql params new (it.given ++ row ∷ []) more), given_begin g sql params new (it.given ++ row ∷ []) more);
      whole = λ _ other. absurd (cc);
      invalid = λ _ other. absurd (cc);
    }
