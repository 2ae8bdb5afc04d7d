-- A SELECT commits nothing, whatever the schema is.
use Rattle.std.proofs.Common.{◌≡◌, ℕ, List, true, false, Bool, Option, None, Ok, Err, refl, sym, ap, ◌∙◌, if◌then◌else◌}
use Rattle.sqlite_ast.specs.declared.Statement.{Statement}
use Rattle.sqlite_ast.specs.declared.Statement.TheVariants as written
use Rattle.shop_statements.specs.Selecting.{is_query, statement_at}
use Rattle.sqlite_syntax.specs.declared.statement.Parsed.{Parsed}
use Rattle.sqlite_resolve.specs.Compile.{first, planned, meaning, command, compiled, returning, returning_by, with_command}
use Rattle.sqlite_resolve.specs.Lowering.{Checked, and_then}
use Rattle.sqlite_resolve.specs.declared.error.CompileError.{CompileError}
use Rattle.sqlite_resolve.specs.declared.compiled.Compiled.{Compiled}
use Rattle.sqlite.specs.Listing.{understood, reads_listing, if_select, is_select, listing_schema}
use Rattle.sqlite.specs.Command.{Command}
use Rattle.sqlite.specs.Schema.{Schema}
use Rattle.sqlite.specs.State.{CommitsShowing, State}
use Rattle.sqlite.specs.Order.{Row}
use Rattle.sqlite.specs.Tree.{Trees}
use Rattle.sqlite_schema.specs.declared.command.Returning.{Returning}

-- ---- a SELECT shows no RETURNING, whatever the schema is

shown_none : {X : Type 0} (r : Checked X) (f : X × Option Returning) → and_then r (λ c. Ok (c, None)) ≡ Ok f → f.1 ≡ None
shown_none (Ok c) f is = cc
shown_none (Err e) f is = absurd (cc)

meaning_none : (schema : Schema) (formats : List (List ℕ)) (base : ℕ) (s : Statement) → is_query s ≡ true → (f : Command × Option Returning)
    → and_then (returning_by schema base s) (λ shown. and_then (command schema formats base s) (λ c. Ok (c, shown))) ≡ Ok f → f.1 ≡ None
meaning_none schema formats base (written.Select q) is f h = shown_none (command schema formats base (written.Select q)) f h
meaning_none schema formats base _ is f h = absurd (cc)

planned_none : (formats : List (List ℕ)) (m : Checked (Command × Option Returning)) → ((f : Command × Option Returning) → m ≡ Ok f → f.1 ≡ None) → (plan : List (List ℕ) × (Command × Option Returning))
    → and_then m (λ found. Ok (formats, found)) ≡ Ok plan → plan.1.1 ≡ None
planned_none formats (Ok f) none plan is = let same : f ≡ plan.1 = cc in ap (λ (x : Command × Option Returning). x.1) (sym same) ∙ none f refl
planned_none formats (Err e) none plan is = absurd (cc)

compiled_none : (p : Checked Parsed) (plans : Parsed → Checked (List (List ℕ) × (Command × Option Returning)))
    → ((q : Parsed) (plan : List (List ℕ) × (Command × Option Returning)) → p ≡ Ok q → plans q ≡ Ok plan → plan.1.1 ≡ None)
    → (c : Compiled) → and_then p (λ q. and_then (plans q) (λ plan. Ok (with_command q plan))) ≡ Ok c → c.returning ≡ None
compiled_none (Err e) plans none c is = absurd (cc)
compiled_none (Ok q) plans none c is = go (plans q) (λ plan. none q plan refl) is
  where
    go : (r : Checked (List (List ℕ) × (Command × Option Returning))) → ((plan : List (List ℕ) × (Command × Option Returning)) → r ≡ Ok plan → plan.1.1 ≡ None) → and_then r (λ plan. Ok (with_command q plan)) ≡ Ok c → c.returning ≡ None
    go (Ok plan) none is = let same : with_command q plan ≡ c = cc in ap (λ (x : Compiled). x.returning) (sym same) ∙ none plan refl
    go (Err e) none is = absurd (cc)

pub select_returns : (schema : Schema) (text : List ℕ) → is_query (statement_at (first text)) ≡ true → (c : Compiled) → compiled schema text ≡ Ok c → c.returning ≡ None
unfolding compiled planned meaning returning
select_returns schema text is c h = compiled_none (first text) (planned schema) (λ q plan here. query q plan (rw here at is)) c h
  where
    query : (q : Parsed) (plan : List (List ℕ) × (Command × Option Returning)) → is_query q.statement ≡ true → planned schema q ≡ Ok plan → plan.1.1 ≡ None
    query q plan is h = planned_none _ _ (meaning_none schema q.formats _ q.statement is) plan h

if_selected : (r : Checked Compiled) → ((c : Compiled) → r ≡ Ok c → c.returning ≡ None) → (c : Compiled) → if_select r ≡ Ok c → c.returning ≡ None
if_selected (Ok x) none c is = go (is_select x.command) is
  where
    go : (b : Bool) → (if b then Ok x else Err Rattle.sqlite_resolve.specs.declared.error.CompileError.TheVariants.NoSuchTable) ≡ Ok c → c.returning ≡ None
    go true h = none c h
    go false h = absurd (cc)
if_selected (Err e) none c is = absurd (cc)

either_none : (b : Bool) (r t : Checked Compiled) → ((c : Compiled) → r ≡ Ok c → c.returning ≡ None) → ((c : Compiled) → t ≡ Ok c → c.returning ≡ None) → (c : Compiled) → (if b then r else t) ≡ Ok c → c.returning ≡ None
either_none true r t one two c is = one c is
either_none false r t one two c is = two c is

pub query_returns : (schema : Schema) (text : List ℕ) → is_query (statement_at (first text)) ≡ true → (c : Compiled) → understood schema text ≡ Ok c → c.returning ≡ None
unfolding understood
query_returns schema text is c h = either_none (reads_listing schema text) _ _ (if_selected (compiled listing_schema text) (select_returns listing_schema text is)) (select_returns schema text is) c h

-- so it commits nothing, also where the store was shut
pub query_commits : (text : List ℕ) → is_query (statement_at (first text)) ≡ true → (params : Row) (s : State) (db : Trees) → ¬ CommitsShowing text params s db
unfolding CommitsShowing
query_commits text is params s db h = let none = query_returns s.now.schema text is h.0 h.1.is in absurd (let some = rw none at h.2 in cc)
