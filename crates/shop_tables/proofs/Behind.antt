-- Tables that are made behind others, one after another.
use Rattle.std.proofs.Common.{◌≡◌, ◌≢◌, ℕ, ◌+◌, ◌<◌, Bool, true, false, not, ◌&&◌, ◌||◌, List, [], ◌∷◌, ◌++◌, length, drop, slice_get, codes, Option, Some, None, is_some, refl, sym, ap, subst, ◌∙◌, inl, inr, arith, append_assoc, length-append}
use Rattle.std.specs.List.{AllByRecursion, list_any, position_from}
use Rattle.std.specs.Prelude.{option_and_then}
use Rattle.std.proofs.lemmas.Bool.{cases_Bool}
use Rattle.std.proofs.lemmas.List.Folds.{list_any-append}
use Rattle.std.proofs.Math.Seq.{drop-append-add}
use Rattle.sqlite_trees.proofs.ListLemmas.{all-append}
use Rattle.sqlite_trees.specs.Objects.{catalog_tree}
use Rattle.sqlite_trees.specs.Tree.{Trees}
use Rattle.sqlite_rules.specs.Lists.{Has}
use Rattle.sqlite_rules.proofs.ListLemmas.{all_has, all_from, has_right}
use Rattle.sqlite_catalog.proofs.StepLemmas.{table_below}
use Rattle.sqlite_schema.specs.Names.{same_name, table_named}
use Rattle.sqlite.specs.Table.{Table}
use Rattle.sqlite.specs.Schema.{Schema}
use Rattle.sqlite.specs.Change.{created, next_tree, KeepsRows}
use Rattle.sqlite_catalog.specs.Calls.{KeepsForeign}
use Rattle.sqlite_catalog.specs.Change.{is_used}
use Rattle.sqlite.specs.Does.{lacks_sequence}
use Rattle.sqlite.specs.Effect.{Database}
use Rattle.shop_tables.specs.Laying.{IsAdded}

pub all_left : {X : Type 0} (P : X → Type 0) (xs ys : List X) → AllByRecursion P (xs ++ ys) → AllByRecursion P xs
all_left P [] ys h = tt
all_left P (x ∷ xs) ys h = (h.0, all_left P xs ys h.1)

pub all_right : {X : Type 0} (P : X → Type 0) (xs ys : List X) → AllByRecursion P (xs ++ ys) → AllByRecursion P ys
all_right P [] ys h = h
all_right P (x ∷ xs) ys h = all_right P xs ys h.1

all_both : {X : Type 0} (P Q R : X → Type 0) → ((x : X) → P x → Q x → R x) → (xs : List X) → AllByRecursion P xs → AllByRecursion Q xs → AllByRecursion R xs
all_both P Q R h [] p q = tt
all_both P Q R h (x ∷ xs) p q = (h x p.0 q.0, all_both P Q R h xs p.1 q.1)

abbrev pub placed : Schema → Table → Table
placed schema t = record t { tree = next_tree schema }

-- Behind the tables that were there stands this one, and those that were made since; none of them has a row.
pub record Behind (front : Database) (first : Table) (schema : Schema) (db : Trees) : Type 0 where
  pub made : List Table
  pub tables : schema.tables ≡ front.schema.tables ++ first ∷ made
  pub others : KeepsRows front.schema.tables front.trees db
  pub texts : KeepsForeign (front.trees catalog_tree) (db catalog_tree)
  pub blank : db first.tree ≡ []
  pub none : AllByRecursion (λ t. db t.tree ≡ []) made
  pub after : AllByRecursion (λ t. first.tree < t.tree) made

-- the first of them
pub begins : (front : Database) (t : Table) (new : Database) → IsAdded front.schema t front new → Behind front (placed front.schema t) (created front.schema t) new.trees
begins front t new it = record { made = []; tables = refl; others = it.others; texts = it.texts; blank = it.empty; none = tt; after = tt }

module _ (front : Database) (first : Table) (schema : Schema) (db : Trees) (b : Behind front first schema db) where
  stands : Has schema.tables first
  stands = subst (λ l. Has l first) (sym b.tables) (has_right front.schema.tables (first ∷ b.made) first (inl refl))

  pub goes_on : (t : Table) (old new : Database) → old.trees ≡ db → IsAdded schema t old new → Behind front first (created schema t) new.trees
  goes_on t old new is it =
      let last = placed schema t in
      let keep : KeepsRows (front.schema.tables ++ first ∷ b.made) db new.trees = subst (λ (u : Trees). KeepsRows (front.schema.tables ++ first ∷ b.made) u new.trees) is (subst (λ l. KeepsRows l old.trees new.trees) b.tables it.others) in
      let own = all_right (λ u. new.trees u.tree ≡ db u.tree) front.schema.tables (first ∷ b.made) keep in
      record {
        made = b.made ++ last ∷ [];
        tables = ap (λ l. l ++ last ∷ []) b.tables ∙ append_assoc front.schema.tables (first ∷ b.made) (last ∷ []);
        others = all_both (λ u. new.trees u.tree ≡ db u.tree) (λ u. db u.tree ≡ front.trees u.tree) _ (λ u p q. p ∙ q) front.schema.tables (all_left _ front.schema.tables (first ∷ b.made) keep) b.others;
        texts = λ row has known. subst (λ (u : Trees). KeepsForeign (u catalog_tree) (new.trees catalog_tree)) is it.texts row (b.texts row has known) known;
        blank = own.0 ∙ b.blank;
        none = all-append (λ u. new.trees u.tree ≡ []) b.made (last ∷ []) (all_both (λ u. new.trees u.tree ≡ db u.tree) (λ u. db u.tree ≡ []) _ (λ u p q. p ∙ q) b.made own.1 b.none) (it.empty, tt);
        after = all-append (λ u. first.tree < u.tree) b.made (last ∷ []) b.after (table_below schema first stands, tt);
      }

  -- ---- and the first of them is written

  module _ (next : Trees) (at_end : first.tree ≡ next_tree front.schema) (same : AllByRecursion (λ t. t.tree ≢ first.tree → next t.tree ≡ db t.tree) schema.tables) where
    split : AllByRecursion (λ t. t.tree ≢ first.tree → next t.tree ≡ db t.tree) (front.schema.tables ++ first ∷ b.made)
    split = subst (AllByRecursion (λ t. t.tree ≢ first.tree → next t.tree ≡ db t.tree)) b.tables same

    pub others_kept : KeepsRows front.schema.tables front.trees next
    others_kept = all_from _ front.schema.tables (λ t known.
        let below = table_below front.schema t known in
        let far : t.tree ≢ first.tree = λ e. absurd (omega (arith, e, at_end, below)) in
        all_has _ front.schema.tables t (all_left _ front.schema.tables (first ∷ b.made) split) known far ∙ all_has _ front.schema.tables t b.others known)

    pub made_blank : AllByRecursion (λ t. next t.tree ≡ []) b.made
    made_blank = all_both (λ t. (t.tree ≢ first.tree → next t.tree ≡ db t.tree) × (db t.tree ≡ [])) (λ t. first.tree < t.tree) _ (λ t p above. let far : t.tree ≢ first.tree = λ e. absurd (omega (arith, e, above)) in p.0 far ∙ p.1) b.made
        (all_both _ _ _ (λ t p q. (p, q)) b.made (all_right _ front.schema.tables (first ∷ b.made) split).1 b.none) b.after

-- ---- which table has a name

named_behind : {X : Type 0} (p : X → Bool) (xs ys : List X) (y : X) (i : ℕ) → position_from p i xs ≡ None → p y ≡ true → position_from p i (xs ++ y ∷ ys) ≡ Some (i + length xs)
named_behind p [] ys y i none here = rw here (ap Some (omega arith))
named_behind p (x ∷ xs) ys y i none here = elim (cases_Bool (p x)) [
  | inl a ↦ absurd (let e = rw a at none in cc)
  | inr a ↦ rw a (named_behind p xs ys y (i + 1) (rw a at none) here ∙ ap Some (omega arith))
]

slice_behind : {X : Type 0} (xs ys : List X) (y : X) → slice_get (xs ++ y ∷ ys) (length xs) ≡ Some y
slice_behind [] ys y = refl
slice_behind (x ∷ xs) ys y = slice_behind xs ys y

no_one : (a b c : Option ℕ) → (is_some a || is_some b || is_some c) ≡ false → a ≡ None
no_one None b c h = refl
no_one (Some x) b c h = absurd cc

module _ (front schema : Schema) (first : Table) (made : List Table) (tables : schema.tables ≡ front.tables ++ first ∷ made) where
  pub first_named : (name : List ℕ) → is_used front name ≡ false → same_name first.name name ≡ true → table_named schema name ≡ Some (length front.tables)
  first_named name free here = rw tables (named_behind (λ t. same_name t.name name) front.tables made first 0 (no_one _ _ _ free) here ∙ ap Some (omega arith))

  pub first_placed : slice_get schema.tables (length front.tables) ≡ Some first
  first_placed = rw tables (slice_behind front.tables made first)

  pub others_behind : drop (length front.tables + 1) schema.tables ≡ made
  others_behind = rw tables (drop-append-add front.tables (first ∷ made) 1)

-- ---- AUTOINCREMENT

has_one : {X : Type 0} (p : X → Bool) (done xs : List X) (i : ℕ) → i ≡ length done → is_some (option_and_then (slice_get (done ++ xs)) (position_from p i xs)) ≡ list_any p xs
has_one p done [] i is = refl
has_one p done (x ∷ xs) i is = elim (cases_Bool (p x)) [
  | inl a ↦ rw (a, is, slice_behind done xs x) refl
  | inr a ↦ rw a (subst (λ l. is_some (option_and_then (slice_get l) (position_from p (i + 1) xs)) ≡ list_any p xs) (append_assoc done (x ∷ []) xs) (has_one p (done ++ x ∷ []) xs (i + 1) (omega (arith, is, length-append done (x ∷ [])))))
]

abbrev counts : Table → Bool
counts t = t.is_counted

abbrev is_sequence : Table → Bool
is_sequence t = same_name t.name (codes "sqlite_sequence")

one_more : (a b c : Bool) → (a && not b) ≡ false → ((a || false) && not (b || c)) ≡ false
one_more false b c h = refl
one_more true true c h = refl
one_more true false c h = absurd cc

pub still_sequence : (schema : Schema) (t : Table) → t.is_counted ≡ false → lacks_sequence schema ≡ false → lacks_sequence (created schema t) ≡ false
still_sequence schema t plain has =
    let last = placed schema t in
    let more = schema.tables ++ last ∷ [] in
    let here : (list_any counts schema.tables && not (list_any is_sequence schema.tables)) ≡ false = subst (λ b. (list_any counts schema.tables && not b) ≡ false) (has_one is_sequence [] schema.tables 0 refl) has in
    let counted : list_any counts more ≡ (list_any counts schema.tables || false) = list_any-append counts schema.tables (last ∷ []) ∙ ap (λ b. list_any counts schema.tables || b) (rw plain refl) in
    let named : list_any is_sequence more ≡ (list_any is_sequence schema.tables || list_any is_sequence (last ∷ [])) = list_any-append is_sequence schema.tables (last ∷ []) in
    let then : (list_any counts more && not (list_any is_sequence more)) ≡ false = rw (counted, named) (one_more (list_any counts schema.tables) (list_any is_sequence schema.tables) (list_any is_sequence (last ∷ [])) here) in
    subst (λ b. (list_any counts more && not b) ≡ false) (sym (has_one is_sequence [] more 0 refl)) then
