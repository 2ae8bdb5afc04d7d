-- Tables of version 1 with others behind them, brought to version 2.
use Rattle.std.proofs.Common.{◌≡◌, ◌≢◌, inl, inr, ℕ, false, true, List, [], ◌∷◌, ◌++◌, length, codes, Ok, Err, Result, OnOk, IsTrue, refl, sym, ap, subst, ◌∙◌, arith}
use Rattle.std.specs.List.{AllByRecursion}
use Rattle.std.specs.FinMap.{entries}
use Rattle.sqlite_trees.proofs.ListLemmas.{all-append}
use Rattle.sqlite_trees.specs.Tree.{rowid}
use Rattle.sqlite_trees.specs.View.{is_int}
use Rattle.sqlite_trees.specs.declared.store.Store.{Ghosts}
use Rattle.sqlite_rules.specs.Lists.{Has}
use Rattle.sqlite_rules.proofs.ListLemmas.{all_has, all_from}
use Rattle.sqlite_catalog.proofs.StepLemmas.{table_below}
use Rattle.sqlite_schema.specs.Names.{same_name}
use Rattle.sqlite.specs.Table.{Table}
use Rattle.sqlite.specs.Schema.{Schema}
use Rattle.sqlite.specs.Change.{created, next_tree}
use Rattle.sqlite.specs.Does.{lacks_sequence}
use Rattle.sqlite.specs.Effect.{Database}
use Rattle.sqlite.specs.State.{HasCleanDisk}
use Rattle.sqlite.specs.Held.{Held, state}
use Rattle.sqlite.specs.declared.error.Error.{Error}
use Rattle.sqlite_tied.specs.Compute.{everything}
use Rattle.shop_statements.specs.Beside.{IsNone}
use Rattle.shop_statements.specs.Layout.{meta_table, totals_table, totals2_table}
use Rattle.shop_statements.specs.Rows.{AreRows}
use Rattle.shop_tables.specs.Laying.{AreRun, IsAdded}
use Rattle.shop_tables.specs.Renewing.{HasEarlierTables, IsRenewed, SeesEarlier}
use Rattle.shop_tables.specs.declared.renewing.TheConstants.{CLEAR_TOTALS, COPY_TOTALS, SET_VERSION}
use Rattle.shop_statements.specs.Shown.{Ran}
use Rattle.shop_statements.proofs.Works.{unlike}
use Rattle.shop_tables.proofs.Behind.{all_left, all_right, first_named, first_placed}
use Rattle.shop_tables.proofs.Lays.{totals2_added}
use Rattle.shop_tables.proofs.Making.{ran_when}
use Rattle.shop_tables.proofs.Renewed.{IsPut, Rest, clears, copies, led, numbers, texts, totals2_in}

named_so : same_name (codes "totals2") (codes "totals2") ≡ true
unfolding everything
named_so = refl

module _ (front : Schema) (is : HasEarlierTables front) where
  abbrev n : ℕ
  n = next_tree front

  -- once version 2's totals are made
  abbrev base : Schema
  base = created front totals2_table

  abbrev behind : List Table
  behind = is.others ++ totals2_in n ∷ []

  same : base ≡ led base behind
  same = λ i. record { tables = is.tables i ++ totals2_in n ∷ []; indexes = base.indexes; views = base.views }

  tables : (led base behind).tables ≡ front.tables ++ totals2_in n ∷ []
  tables = sym (ap (λ (s : Schema). s.tables) same)

  rests : Rest behind
  rests = all-append _ is.others (totals2_in n ∷ []) is.rests (((refl, refl), tt), tt)

  has_meta : Has front.tables meta_table
  has_meta = subst (λ l. Has l meta_table) (sym is.tables) (inl refl)

  has_totals : Has front.tables totals_table
  has_totals = subst (λ l. Has l totals_table) (sym is.tables) (inr (inr (inr (inr (inr (inr (inr (inr (inl refl)))))))))

  past : (t : Table) → Has front.tables t → t.tree ≢ n
  past t known e = let below = table_below front t known in absurd (omega (arith, e, below))

  -- a writing of one table keeps each other's rows
  module _ (tree : ℕ) (old new : Database) (put : IsPut (led base behind) tree old new) where
    split : AllByRecursion (λ t. t.tree ≢ tree → new.trees t.tree ≡ old.trees t.tree) (front.tables ++ totals2_in n ∷ [])
    split = subst (AllByRecursion (λ t. t.tree ≢ tree → new.trees t.tree ≡ old.trees t.tree)) tables put.tables

    along : (t : Table) → Has front.tables t → t.tree ≢ tree → new.trees t.tree ≡ old.trees t.tree
    along t known = all_has _ front.tables t (all_left _ front.tables (totals2_in n ∷ []) split) known

    last_along : n ≢ tree → new.trees n ≡ old.trees n
    last_along = (all_right _ front.tables (totals2_in n ∷ []) split).0

module _ (d0 d1 d2 d3 d4 : Database) (is : HasEarlierTables d0.schema) (made : IsAdded d0.schema totals2_table d0 d1) where
  abbrev at : ℕ
  at = next_tree d0.schema

  abbrev now_is : Schema
  now_is = led (base d0.schema is) (behind d0.schema is)

  added_along : (t : Table) → Has d0.schema.tables t → d1.trees t.tree ≡ d0.trees t.tree
  added_along t known = all_has _ d0.schema.tables t made.others known

  module _ (two : IsPut now_is at d1 d2) (three : IsPut now_is 15 d2 d3) (four : IsPut now_is 0 d3 d4) where
    to_two : (t : Table) → Has d0.schema.tables t → d2.trees t.tree ≡ d0.trees t.tree
    to_two t known = along d0.schema is at d1 d2 two t known (past d0.schema is t known) ∙ added_along t known

    to_three : (t : Table) → Has d0.schema.tables t → t.tree ≢ 15 → d3.trees t.tree ≡ d0.trees t.tree
    to_three t known far = along d0.schema is 15 d2 d3 three t known far ∙ to_two t known

    pub old_meta : d3.trees 0 ≡ d0.trees 0
    old_meta = to_three meta_table (has_meta d0.schema is) (unlike 0 15 refl)

    pub old_totals : d2.trees 15 ≡ d0.trees 15
    old_totals = to_two totals_table (has_totals d0.schema is)

    pub new_totals : d4.trees 15 ≡ d3.trees 15
    new_totals = along d0.schema is 0 d3 d4 four totals_table (has_totals d0.schema is) (unlike 15 0 refl)

    pub new_totals2 : d4.trees at ≡ d2.trees at
    new_totals2 =
        last_along d0.schema is 0 d3 d4 four (λ e. past d0.schema is meta_table (has_meta d0.schema is) (sym e))
        ∙ last_along d0.schema is 15 d2 d3 three (λ e. past d0.schema is totals_table (has_totals d0.schema is) (sym e))

    pub others_kept : AllByRecursion (λ t. IsNone (0 ∷ 15 ∷ []) t.tree → d4.trees t.tree ≡ d0.trees t.tree) d0.schema.tables
    others_kept = all_from _ d0.schema.tables (λ t known far. along d0.schema is 0 d3 d4 four t known (λ e. far.0 (sym e)) ∙ to_three t known (λ e. far.1.0 (sym e)))

module _ {S : Type 0} (g : Ghosts S) where
  renews : (old new : Held S) → HasEarlierTables old.schema → lacks_sequence old.schema ≡ false → AreRun g texts old new → IsRenewed (state g old).now (state g new).now
  renews old new is counts a1 =
      let front = old.schema in
      let d0 = (state g old).now in
      let d1 = (state g a1.0).now in
      let made = totals2_added g front counts old a1.0 refl a1.1 in
      let a2 = a1.2 in
      let d2 = (state g a2.0).now in
      let now_base = base front is in
      let now_behind = behind front is in
      let now_is = led now_base now_behind in
      let place = tables front is in
      let two = copies now_base now_behind (rests front is) (state g a1.0) (state g a2.0) (made.schema_is ∙ same front is) (length front.tables) (next_tree front)
      (first_named front now_is (totals2_in (next_tree front)) [] place (codes "totals2") made.free named_so) (first_placed front now_is (totals2_in (next_tree front)) [] place) a2.1 in
      let a3 = a2.2 in
      let d3 = (state g a3.0).now in
      let three = clears now_base now_behind (rests front is) (state g a2.0) (state g a3.0) two.0.schema_is a3.1 in
      let a4 = a3.2 in
      let d4 = (state g a4.0).now in
      let four = numbers now_base now_behind (rests front is) (state g a3.0) (state g a4.0) three.0.schema_is a4.1 in
      let renewed : IsRenewed d0 d4 = record {
        schema = four.0.schema_is ∙ sym (same front is);
        sound = four.0.sound;
        others = others_kept d0 d1 d2 d3 d4 is made two.0 three.0 four.0;
        texts = λ row has known. four.0.texts row (three.0.texts row (two.0.texts row (made.texts row has known) known) known) known;
        numbers = λ m are. four.1 m (subst (AreRows 1 _) (sym (old_meta d0 d1 d2 d3 d4 is made two.0 three.0 four.0)) are);
        totals = λ sums none are. (
          new_totals d0 d1 d2 d3 d4 is made two.0 three.0 four.0 ∙ three.1 (subst (AllByRecursion (λ r. IsTrue (is_int (rowid r)))) (sym (old_totals d0 d1 d2 d3 d4 is made two.0 three.0 four.0)) are.keyed),
          subst (AreRows 1 _) (sym (new_totals2 d0 d1 d2 d3 d4 is made two.0 three.0 four.0)) (two.1 (entries sums) none (subst (AreRows 1 _) (sym (added_along d0 d1 d2 d3 d4 is made totals_table (has_totals front is))) are) made.empty),
        );
      } in
      subst (λ (x : Held S). IsRenewed d0 (state g x).now) (sym a4.2) renewed

  pub renews_beside : (old new : Held S) (r : Result (Unit {0}) Error) → SeesEarlier (state g old) → (HasCleanDisk (state g new) → HasCleanDisk (state g old)) → (HasCleanDisk (state g new) → OnOk r (AreRun g texts old new)) → HasCleanDisk (state g new)
      → OnOk r (IsRenewed (state g old).now (state g new).now)
  renews_beside old new (Ok x) sees earlier ran clean = let a1 = ran clean in let is = sees (earlier clean) a1.1.was_open in renews old new is.0 is.1 a1
  renews_beside old new (Err e) sees earlier ran clean = tt

  pub renews_on : (old new : Held S) (r : Result (Unit {0}) Error) → (HasCleanDisk (state g new) → HasCleanDisk (state g old)) → (HasCleanDisk (state g new) → OnOk r (AreRun g texts old new)) → OnOk r (Ran (state g old) (state g new))
  renews_on = ran_when g Rattle.shop_tables.specs.declared.laying.TheConstants.TOTALS2.now (COPY_TOTALS.now ∷ CLEAR_TOTALS.now ∷ SET_VERSION.now ∷ [])

  pub renews_open : (old new : Held S) (r : Result (Unit {0}) Error) → OnOk r (AreRun g texts old new) → OnOk r (IsTrue (state g old).is_open)
  renews_open old new (Ok x) ran = ran.1.was_open
  renews_open old new (Err e) ran = tt
