-- What each statement that makes a table does, and what they make one after another.
use Rattle.std.proofs.Common.{◌≡◌, ◌⊎◌, inl, inr, ℕ, false, List, [], ◌∷◌, map, Ok, Err, Result, OnOk, IsTrue, refl, sym, ap, subst, ◌∙◌}
use Rattle.std.specs.List.{AllByRecursion}
use Rattle.sqlite_trees.specs.declared.store.Store.{Ghosts}
use Rattle.sqlite.specs.Table.{Table}
use Rattle.sqlite.specs.Schema.{Schema}
use Rattle.sqlite.specs.Command.TheVariants.{CreateTable}
use Rattle.sqlite_catalog.specs.Change.{is_used}
use Rattle.sqlite_resolve.specs.declared.compiled.Compiled.{Compiled}
use Rattle.sqlite_resolve.specs.Compile.{first, table_defined_by}
use Rattle.sqlite.specs.Change.{created, next_tree, KeepsRows}
use Rattle.sqlite.specs.Does.{Tally, lacks_sequence}
use Rattle.sqlite.specs.Effect.{Database}
use Rattle.sqlite.specs.Listing.{understood}
use Rattle.sqlite.specs.State.{State, Executes, ExecutesIn, HasCleanDisk}
use Rattle.sqlite.specs.Held.{Held, state}
use Rattle.sqlite.specs.declared.error.Error.{Error}
use Rattle.shop_statements.specs.Layout.{shop_schema, created_all}
use Rattle.shop_statements.specs.Earlier.{ShowsSecond}
use Rattle.shop_statements.specs.Shown.{Books, Ran, Shows}
use Rattle.shop_tables.specs.Adopting.{MakesSecond, MakesTables}
use Rattle.shop_tables.specs.Laying.{AreRun, IsAdded, IsRun}
use Rattle.sqlite.proofs.Callers.{IsPlain, command_of, runs_as, statement_of}
use Rattle.shop_tables.proofs.Behind.{Behind, goes_on, still_sequence}
use Rattle.shop_tables.proofs.Created.{ReadsAs, understood_fine}

went : {B E R : Type 0} {b : B} {Stops : E → Type 0} → ((stop : E) × Stops stop × (Ok b ≡ Err stop)) ⊎ R → R
went (inl stopped) = absurd (let e = stopped.2 in cc)
went (inr on) = on

same_value : {B E : Type 0} {a b : B} → ◌≡◌ {A = Result B E} (Ok a) (Ok b) → a ≡ b
same_value e = cc

abbrev pub unplaced : Table → Table
unplaced t = record t { tree = 0 }

-- what the check computes of a text, for any schema
pub record MakesAs (text : List ℕ) (table : Table) : Type 0 where
  pub reads : ReadsAs text (unplaced table) (first text)
  pub plain : table.is_counted ≡ false

-- a statement that ran was understood
understood_as : (text : List ℕ) (old new : State) (count : ℕ) → Executes text [] old new (Ok count) → (c : Compiled) × (understood old.now.schema text ≡ Ok c)
unfolding ExecutesIn
understood_as text old new count h = (h.0, h.1.is)

pub makes : (schema : Schema) (text : List ℕ) (table : Table) (old new : State) → MakesAs text table → lacks_sequence schema ≡ false → old.now.schema ≡ schema → IsRun text old new → IsAdded schema table old.now new.now
makes schema text table old new facts counts has ran =
    let u = understood_as text old new ran.count ran.executes in
    let is : understood schema text ≡ Ok u.0 = ap (λ s. understood s text) (sym has) ∙ u.1 in
    let c = understood_fine schema text (unplaced table) u.0 facts.reads is in
    let w = runs_as text [] old new schema has CreateTable (ap command_of is ∙ c.command) (subst IsPlain (sym is) (c.returning, c.formats)) ran.count ran.executes in
    let all = went w.changed in
    let first = went all.1 in
    let made = first.1 in
    let same : made.table ≡ unplaced table = same_value (sym made.defined ∙ (ap (λ r. table_defined_by (statement_of text r)) is ∙ c.defines)) in
    let after : first.0.schema ≡ created schema table = made.is ∙ (λ i. created (has i) (same i)) in
    let plain : lacks_sequence first.0.schema ≡ false = ap lacks_sequence after ∙ still_sequence schema table facts.plain counts in
    let now : new.now ≡ first.0 = ap (λ (p : Tally × Database). p.1) (same_value all.2) ∙ same_value (rw plain at first.2) in
    record {
      texts = w.frozen.texts;
      free = ap (λ (t : Table). is_used schema t.name) (sym same) ∙ (ap (λ s. is_used s made.table.name) (sym has) ∙ made.free);
      schema_is = ap (λ (d : Database). d.schema) now ∙ after;
      empty = ap (λ (d : Database). d.trees (next_tree schema)) now ∙ subst (λ s. first.0.trees (next_tree s) ≡ []) has made.empty;
      others = subst (λ (d : Database). KeepsRows schema.tables old.now.trees d.trees) (sym now) (subst (λ (s : Schema). KeepsRows s.tables old.now.trees first.0.trees) has made.others);
    }

-- ---- statements one after another

-- what the check computes of texts that each make a table
abbrev pub AreMade : List (List ℕ × Table) → Type 0
AreMade = AllByRecursion (λ x. MakesAs x.0 x.1)

abbrev pub table_of : List ℕ × Table → Table
table_of x = x.1

-- these texts, and others after them
abbrev pub texts_of : List (List ℕ × Table) → List (List ℕ) → List (List ℕ)
texts_of [] last = last
texts_of (x ∷ more) last = x.0 ∷ texts_of more last

module _ {S : Type 0} (g : Ghosts S) where
  -- the tables are made behind others, and other statements are left
  pub record Laid (front : Database) (first : Table) (schema : Schema) (texts : List (List ℕ)) (new : Held S) : Type 0 where
    pub mid : Held S
    pub schema_is : (state g mid).now.schema ≡ schema
    pub behind : Behind front first schema (state g mid).now.trees
    pub later : AreRun g texts mid new

  pub laid_in_turn : (steps : List (List ℕ × Table)) (last : List (List ℕ)) (front : Database) (first : Table) (schema : Schema) (old new : Held S) → AreMade steps → lacks_sequence schema ≡ false → (state g old).now.schema ≡ schema
      → Behind front first schema (state g old).now.trees → AreRun g (texts_of steps last) old new → Laid front first (created_all (map table_of steps) schema) last new
  laid_in_turn [] last front first schema old new made counts has behind ran = record { mid = old; schema_is = has; behind = behind; later = ran }
  laid_in_turn (x ∷ more) last front first schema old new made counts has behind ran =
      let mid = ran.0 in
      let it = makes schema x.0 x.1 (state g old) (state g mid) made.0 counts has ran.1 in
      laid_in_turn more last front first (created schema x.1) mid new made.1 (still_sequence schema x.1 made.0.plain counts) it.schema_is
      (goes_on front first schema (state g old).now.trees behind x.1 (state g old).now (state g mid).now refl it) ran.2

  -- statements that ran, one at least
  pub ran_on : (text : List ℕ) (more : List (List ℕ)) (old new : Held S) → AreRun g (text ∷ more) old new → IsTrue (state g old).is_open × IsTrue (state g new).is_open × IsTrue (state g new).in_transaction
  ran_on text [] old new ran = subst (λ (x : Held S). IsTrue (state g old).is_open × IsTrue (state g x).is_open × IsTrue (state g x).in_transaction) (sym ran.2) (ran.1.was_open, ran.1.is_open, ran.1.inside)
  ran_on text (t ∷ more) old new ran = let on = ran_on t more ran.0 new ran.2 in (ran.1.was_open, on.1, on.2)

  -- where they run to the end, the transaction goes on
  pub ran_when : (text : List ℕ) (more : List (List ℕ)) (old new : Held S) (r : Result (Unit {0}) Error) → (HasCleanDisk (state g new) → HasCleanDisk (state g old)) → (HasCleanDisk (state g new) → OnOk r (AreRun g (text ∷ more) old new))
      → OnOk r (Ran (state g old) (state g new))
  ran_when text more old new (Ok x) earlier ran = record { earlier = earlier; on = λ clean inside. ran_on text more old new (ran clean) }
  ran_when text more old new (Err e) earlier ran = tt

  -- what statements make that leave the tables of a shop
  pub record IsMade (old new : Held S) (b : Books) : Type 0 where
    pub was_open : IsTrue (state g old).is_open
    pub is_open : IsTrue (state g new).is_open
    pub inside : IsTrue new.in_transaction
    pub shows : Shows (state g new) b
    pub schema : (state g new).now.schema ≡ shop_schema

  pub made_when : (texts : List (List ℕ)) (old new : Held S) (b : Books) (r : Result (Unit {0}) Error) → (HasCleanDisk (state g new) → HasCleanDisk (state g old)) → (HasCleanDisk (state g new) → OnOk r (AreRun g texts old new))
      → (HasCleanDisk (state g new) → AreRun g texts old new → IsMade old new b) → OnOk r (MakesTables (state g old) (state g new) b)
  made_when texts old new b (Ok x) earlier ran made = record {
    earlier = earlier;
    on = λ clean. let l = made clean (ran clean) in (l.was_open, l.is_open, l.inside);
    shows = λ clean. (made clean (ran clean)).shows;
    schema = λ clean. (made clean (ran clean)).schema;
  }
  made_when texts old new b (Err e) earlier ran made = tt

  -- what statements make that leave the tables of version 2
  pub record IsMadeSecond (old new : Held S) (b : Books) : Type 0 where
    pub was_open : IsTrue (state g old).is_open
    pub is_open : IsTrue (state g new).is_open
    pub inside : IsTrue new.in_transaction
    pub shows : ShowsSecond (state g new) b

  pub made_second_when : (texts : List (List ℕ)) (old new : Held S) (b : Books) (r : Result (Unit {0}) Error) → (HasCleanDisk (state g new) → HasCleanDisk (state g old)) → (HasCleanDisk (state g new) → OnOk r (AreRun g texts old new))
      → (HasCleanDisk (state g new) → AreRun g texts old new → IsMadeSecond old new b) → OnOk r (MakesSecond (state g old) (state g new) b)
  made_second_when texts old new b (Ok x) earlier ran made = record {
    earlier = earlier;
    on = λ clean. let l = made clean (ran clean) in (l.was_open, l.is_open, l.inside);
    shows = λ clean. (made clean (ran clean)).shows;
  }
  made_second_when texts old new b (Err e) earlier ran made = tt

  -- one statement and those after it
  pub first_run : {X : Type 0} (text_of : X → List ℕ) (texts : List X) (first : X) (rest : List X) (old mid new : Held S) (r : Result (Unit {0}) Error) → texts ≡ first ∷ rest → IsRun (text_of first) (state g old) (state g mid)
      → OnOk r (AreRun g (map text_of rest) mid new) → OnOk r (AreRun g (map text_of texts) old new)
  first_run text_of texts first rest old mid new (Ok done) is one more = subst (λ all. AreRun g (map text_of all) old new) (sym is) (mid, one, more)
  first_run text_of texts first rest old mid new (Err e) is one more = tt

-- through version 2
pub made_second : (old mid new : State) (b : Books) (r : Result (Unit {0}) Error) → MakesSecond old mid b → OnOk r (MakesTables mid new b) → OnOk r (MakesTables old new b)
made_second old mid new b (Ok x) one two = record {
  earlier = λ clean. one.earlier (two.earlier clean);
  on = λ clean. let first = one.on (two.earlier clean) in let last = two.on clean in (first.0, last.1, last.2);
  shows = two.shows;
  schema = two.schema;
}
made_second old mid new b (Err e) one two = tt
