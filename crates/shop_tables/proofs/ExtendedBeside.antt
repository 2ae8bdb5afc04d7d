-- Tables of version 2 with others among them and behind them, brought to version 3, and those of version 1 through version 2.
use Rattle.std.proofs.Common.{◌≡◌, ◌≢◌, inl, ℕ, ◌<◌, false, List, [], ◌∷◌, ◌++◌, take, drop, length, Ok, Err, Result, OnOk, IsTrue, refl, sym, ap, subst, ◌∙◌, arith, append_assoc}
use Rattle.std.specs.List.{AllByRecursion}
use Rattle.sqlite_trees.proofs.ListLemmas.{all-append}
use Rattle.sqlite_trees.specs.declared.store.Store.{Ghosts}
use Rattle.sqlite_rules.specs.Lists.{Has}
use Rattle.sqlite_rules.proofs.ListLemmas.{all_has, all_from}
use Rattle.sqlite_catalog.proofs.StepLemmas.{table_below}
use Rattle.sqlite.specs.Table.{Table}
use Rattle.sqlite.specs.Schema.{Schema}
use Rattle.sqlite.specs.Change.{created}
use Rattle.sqlite.specs.Does.{lacks_sequence}
use Rattle.sqlite.specs.Effect.{Database}
use Rattle.sqlite.specs.State.{State, HasCleanDisk}
use Rattle.sqlite.specs.Held.{Held, state}
use Rattle.sqlite.specs.declared.error.Error.{Error}
use Rattle.shop_statements.specs.Beside.{IsNone}
use Rattle.shop_statements.specs.Layout.{created_all, journal_table, meta_table, our_tables, totals2_table}
use Rattle.shop_statements.specs.Rows.{AreRows}
use Rattle.shop_tables.specs.Laying.{AreRun}
use Rattle.shop_tables.specs.Renewing.{HasEarlierTables, IsBroughtOn, IsExtended, IsRenewed, SeesEarlier, with_last}
use Rattle.shop_tables.specs.declared.renewing.TheConstants.{SET_LAST_VERSION}
use Rattle.shop_tables.proofs.Behind.{Behind, all_left, all_right, begins, placed, still_sequence}
use Rattle.shop_tables.proofs.Extended.{last_texts}
use Rattle.shop_tables.proofs.Lays.{journal_added, later_made, later_steps}
use Rattle.shop_tables.proofs.Making.{laid_in_turn, table_of}
use Rattle.shop_tables.proofs.Renewed.{IsPut, Rest, last_numbers, led, led_rests}
use Rattle.std.specs.Prelude.{map}

-- the references rest of tables that are made behind such ones
all_rest : (tables : List Table) (schema : Schema) → Rest tables → Rest schema.tables → Rest (created_all tables schema).tables
all_rest [] schema rests before = before
all_rest (t ∷ more) schema rests before = all_rest more (created schema t) rests.1 (all-append _ schema.tables (placed schema t ∷ []) before (rests.0, tt))

last_rest : Rest (drop 10 our_tables)
last_rest = (tt, (tt, (((refl, refl), tt), (((refl, refl), tt), (((refl, refl), tt), tt)))))

drop_behind : {X : Type 0} (xs ys : List X) → drop (length xs) (xs ++ ys) ≡ ys
drop_behind [] ys = refl
drop_behind (x ∷ xs) ys = drop_behind xs ys

abbrev laid_behind : Schema → Schema
laid_behind front = created_all (map table_of later_steps) (created front journal_table)

is_last : (front : Schema) → with_last front ≡ laid_behind front
unfolding with_last
is_last front = refl

module _ (front mid new : Database) (is : HasEarlierTables front.schema) (b : Behind front (placed front.schema journal_table) (laid_behind front.schema) mid.trees) where
  abbrev first : Table
  first = placed front.schema journal_table

  abbrev base : Schema
  base = laid_behind front.schema

  abbrev behind : List Table
  behind = is.others ++ first ∷ b.made

  in_front : base.tables ≡ take 9 our_tables ++ behind
  in_front = b.tables ∙ ap (λ l. l ++ first ∷ b.made) is.tables ∙ append_assoc (take 9 our_tables) is.others (first ∷ b.made)

  pub same : base ≡ led base behind
  same = λ i. record { tables = in_front i; indexes = base.indexes; views = base.views }

  all_rests : Rest (front.schema.tables ++ first ∷ b.made)
  all_rests = subst Rest b.tables (all_rest (drop 10 our_tables) front.schema last_rest (subst Rest (sym is.tables) (led_rests front.schema is.others is.rests)))

  pub rests : Rest behind
  rests = all-append _ is.others (first ∷ b.made) is.rests (all_right _ front.schema.tables (first ∷ b.made) all_rests)

  has_meta : Has front.schema.tables meta_table
  has_meta = subst (λ l. Has l meta_table) (sym is.tables) (inl refl)

  first_above : 0 < first.tree
  first_above = table_below front.schema meta_table has_meta

  pub old_meta : mid.trees 0 ≡ front.trees 0
  old_meta = all_has _ front.schema.tables meta_table b.others has_meta

  module _ (put : IsPut (led base behind) 0 mid new) where
    split : AllByRecursion (λ t. t.tree ≢ 0 → new.trees t.tree ≡ mid.trees t.tree) (front.schema.tables ++ first ∷ b.made)
    split = subst (AllByRecursion (λ t. t.tree ≢ 0 → new.trees t.tree ≡ mid.trees t.tree)) (sym in_front ∙ b.tables) put.tables

    pub others_kept : AllByRecursion (λ t. IsNone (0 ∷ []) t.tree → new.trees t.tree ≡ front.trees t.tree) front.schema.tables
    others_kept = all_from _ front.schema.tables (λ t known far.
        all_has _ front.schema.tables t (all_left _ front.schema.tables (first ∷ b.made) split) known (λ e. far.0 (sym e)) ∙ all_has _ front.schema.tables t b.others known)

    not_meta : (n : ℕ) → first.tree < n → n ≢ 0
    not_meta n above e = absurd (omega (arith, e, above))

    made_empty : (made : List Table) → AllByRecursion (λ t. t.tree ≢ 0 → new.trees t.tree ≡ mid.trees t.tree) made → AllByRecursion (λ t. mid.trees t.tree ≡ []) made → AllByRecursion (λ t. first.tree < t.tree) made → AllByRecursion (λ t. new.trees t.tree ≡ []) made
    made_empty [] kept none after = tt
    made_empty (t ∷ made) kept none after = (kept.0 (not_meta t.tree after.0) ∙ none.0, made_empty made kept.1 none.1 after.1)

    own : AllByRecursion (λ t. t.tree ≢ 0 → new.trees t.tree ≡ mid.trees t.tree) (first ∷ b.made)
    own = all_right _ front.schema.tables (first ∷ b.made) split

    all_empty : AllByRecursion (λ t. new.trees t.tree ≡ []) (first ∷ b.made)
    all_empty = (own.0 (λ e. absurd (omega (arith, e, first_above))) ∙ b.blank, made_empty b.made own.1 b.none b.after)

    pub last_empty : AllByRecursion (λ t. new.trees t.tree ≡ []) (drop (length front.schema.tables) new.schema.tables)
    last_empty = subst (AllByRecursion (λ t. new.trees t.tree ≡ [])) (sym (ap (λ (s : Schema). drop (length front.schema.tables) s.tables) put.schema_is ∙ ap (drop (length front.schema.tables)) (sym in_front ∙ b.tables) ∙ drop_behind front.schema.tables (first ∷ b.made))) all_empty

module _ {S : Type 0} (g : Ghosts S) where
  extends : (old new : Held S) → HasEarlierTables old.schema → lacks_sequence old.schema ≡ false → AreRun g last_texts old new → IsExtended (state g old).now (state g new).now
  extends old new is counts ran =
      let front = (state g old).now in
      let one = ran.0 in
      let journal = journal_added g old.schema counts old one refl ran.1 in
      let first = placed front.schema journal_table in
      let laid = laid_in_turn g later_steps (SET_LAST_VERSION.now ∷ []) front first (created front.schema journal_table) one new later_made (still_sequence front.schema journal_table refl counts) journal.schema_is (begins front journal_table (state g one).now journal) ran.2 in
      let mid = (state g laid.mid).now in
      let b = laid.behind in
      let last = laid.later in
      let now_base = laid_behind front.schema in
      let now_behind = behind front mid (state g last.0).now is b in
      let now_same = same front mid (state g last.0).now is b in
      let put = last_numbers now_base now_behind (rests front mid (state g last.0).now is b) (state g laid.mid) (state g last.0) (laid.schema_is ∙ now_same) last.1 in
      let extended : IsExtended front (state g last.0).now = record {
        schema = put.0.schema_is ∙ sym now_same ∙ sym (is_last front.schema);
        sound = put.0.sound;
        others = others_kept front mid (state g last.0).now is b put.0;
        texts = λ row has known. put.0.texts row (b.texts row has known) known;
        numbers = λ m are. put.1 m (subst (AreRows 1 _) (sym (old_meta front mid (state g last.0).now is b)) are);
        empty = last_empty front mid (state g last.0).now is b put.0;
      } in
      subst (λ (x : Held S). IsExtended front (state g x).now) (sym last.2) extended

  pub extends_beside : (old new : Held S) (r : Result (Unit {0}) Error) → SeesEarlier (state g old) → (HasCleanDisk (state g new) → HasCleanDisk (state g old)) → (HasCleanDisk (state g new) → OnOk r (AreRun g last_texts old new)) → HasCleanDisk (state g new)
      → OnOk r (IsExtended (state g old).now (state g new).now)
  extends_beside old new (Ok x) sees earlier ran clean = let a1 = ran clean in let is = sees (earlier clean) a1.1.was_open in extends old new is.0 is.1 a1
  extends_beside old new (Err e) sees earlier ran clean = tt

-- ---- from version 1 through version 2

totals2_rests : (schema : Schema) → Rest (placed schema totals2_table ∷ [])
totals2_rests schema = (((refl, refl), tt), tt)

-- version 2's totals stand among the others
still_earlier : (schema : Schema) → HasEarlierTables schema → HasEarlierTables (created schema totals2_table)
still_earlier schema is = record {
  others = is.others ++ placed schema totals2_table ∷ [];
  tables = ap (λ l. l ++ placed schema totals2_table ∷ []) is.tables ∙ append_assoc (take 9 our_tables) is.others (placed schema totals2_table ∷ []);
  rests = all-append _ is.others (placed schema totals2_table ∷ []) is.rests (totals2_rests schema);
}

pub sees_second : (old mid : State) → SeesEarlier old → HasCleanDisk old → IsTrue old.is_open → IsRenewed old.now mid.now → HasEarlierTables mid.now.schema × (lacks_sequence mid.now.schema ≡ false)
sees_second old mid sees clean up renewed =
    let is = sees clean up in
    subst (λ s. HasEarlierTables s × (lacks_sequence s ≡ false)) (sym renewed.schema) (still_earlier old.now.schema is.0, still_sequence old.now.schema totals2_table refl is.1)

pub brought_on : (old mid new : Database) (r : Result (Unit {0}) Error) → IsRenewed old mid → OnOk r (IsExtended mid new) → OnOk r (IsBroughtOn old new)
brought_on old mid new (Ok x) renewed extended = record { second = mid; renewed = renewed; extended = extended }
brought_on old mid new (Err e) renewed extended = tt
