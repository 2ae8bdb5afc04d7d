-- The steps that bring tables of version 2 to version 3.
use Rattle.std.proofs.Common.{◌≡◌, ◌==◌, ℕ, false, List, [], ◌∷◌, drop, Result, OnOk, IsTrue, refl, sym, ap, subst, ◌∙◌}
use Rattle.std.specs.FinMap.{entries}
use Rattle.std.specs.Ordering.{nat_cmp}
use Rattle.cut_measure.specs.Codes.{code_cmp}
use Rattle.sqlite_trees.specs.declared.store.Store.{Ghosts}
use Rattle.sqlite.specs.Edit.{IsNoIndex}
use Rattle.sqlite.specs.State.{HasCleanDisk}
use Rattle.sqlite.specs.Held.{Held, state}
use Rattle.sqlite.specs.declared.error.Error.{Error}
use Rattle.shop_records.specs.declared.records.JobHalt.{JobHalt}
use Rattle.shop_records.specs.declared.records.JobBegin.{JobBegin}
use Rattle.shop_records.specs.declared.notes.OrderNote.{OrderNote}
use Rattle.shop_records.specs.declared.journal.Entry.{Entry}
use Rattle.shop_statements.specs.Earlier.{second_schema, ShowsSecond}
use Rattle.shop_statements.specs.Layout.{HasShopTables, laid, our_tables, shop_schema}
use Rattle.shop_statements.specs.Rows.{AreOrders, AreRows, begun_row, halt_row, journal_row, note_row, use_cmp, use_row}
use Rattle.shop_statements.specs.Shown.{Books, Shows}
use Rattle.shop_tables.specs.Adopting.{MakesTables}
use Rattle.shop_tables.specs.Laying.{AreRun, Does, SetsLastVersion}
use Rattle.shop_tables.specs.declared.laying.TheConstants.{JOURNAL, USES, NOTES, BEGUN, HALTS}
use Rattle.shop_tables.specs.declared.renewing.TheConstants.{SET_LAST_VERSION}
use Rattle.shop_tables.proofs.Lays.{begun_added, halts_added, journal_added, no_entries, none, notes_added, shop_is_shop, uses_added}
use Rattle.shop_tables.proofs.Making.{IsMade, made_when}
use Rattle.shop_tables.proofs.Renewed.{Rest, last_numbers, written}

abbrev pub later_texts : List (List ℕ)
later_texts = USES.now ∷ NOTES.now ∷ BEGUN.now ∷ HALTS.now ∷ SET_LAST_VERSION.now ∷ []

abbrev pub last_texts : List (List ℕ)
last_texts = JOURNAL.now ∷ later_texts

behind_rests : Rest (drop 9 our_tables)
behind_rests = (((refl, refl), tt), (tt, (tt, (((refl, refl), tt), (((refl, refl), tt), (((refl, refl), tt), tt))))))

module _ {S : Type 0} (g : Ghosts S) where
  pub last_version_set : Does g SET_LAST_VERSION.now shop_schema SetsLastVersion
  last_version_set old new has ran m are =
      let it = last_numbers shop_schema (drop 9 our_tables) behind_rests (state g old) (state g new) has ran in (written shop_schema 0 _ _ it.0, it.1 m are)

  extends : (old new : Held S) (b : Books) → ShowsSecond (state g old) b → AreRun g last_texts old new → IsMade g old new b
  extends old new b has a1 =
      let s0 = state g old in
      let m1 = journal_added g second_schema refl old a1.0 has.schema a1.1 in
      let a2 = a1.2 in
      let m2 = uses_added g (laid 11) refl a1.0 a2.0 m1.schema_is a2.1 in
      let a3 = a2.2 in
      let m3 = notes_added g (laid 12) refl a2.0 a3.0 m2.schema_is a3.1 in
      let a4 = a3.2 in
      let m4 = begun_added g (laid 13) refl a3.0 a4.0 m3.schema_is a4.1 in
      let a5 = a4.2 in
      let m5 = halts_added g (laid 14) refl a4.0 a5.0 m4.schema_is a5.1 in
      let a6 = a5.2 in
      let s5 = state g a5.0 in
      let six = last_version_set a5.0 a6.0 m5.schema_is a6.1 b.content (subst (AreRows 1 _) (sym (m5.others.0 ∙ m4.others.0 ∙ m3.others.0 ∙ m2.others.0 ∙ m1.others.0)) has.stands.meta) in
      let s6 = state g a6.0 in
      let bare = shop_is_shop.bare in
      let along : (t : ℕ) → (t == 0) ≡ false → IsNoIndex shop_schema t → s5.now.trees t ≡ s0.now.trees t → s6.now.trees t ≡ s0.now.trees t =
      λ t no_meta apart was. six.0.others t no_meta apart ∙ was in
      let shows : Shows s6 b = record {
        schema = subst HasShopTables (sym six.0.schema_is) shop_is_shop;
        sound = six.0.sound;
        stands = record {
          meta = six.1;
          materials = subst (AreRows 1 _) (sym (along 2 refl bare.1.0 (m5.others.1.0 ∙ m4.others.1.0 ∙ m3.others.1.0 ∙ m2.others.1.0 ∙ m1.others.1.0))) has.stands.materials;
          parts = subst (AreRows 1 _) (sym (along 4 refl bare.1.1.0 (m5.others.1.1.0 ∙ m4.others.1.1.0 ∙ m3.others.1.1.0 ∙ m2.others.1.1.0 ∙ m1.others.1.1.0))) has.stands.parts;
          jobs = subst (AreRows 0 _) (sym (along 6 refl bare.1.1.1.0 (m5.others.1.1.1.0 ∙ m4.others.1.1.1.0 ∙ m3.others.1.1.1.0 ∙ m2.others.1.1.1.0 ∙ m1.others.1.1.1.0))) has.stands.jobs;
          orders = subst (AreOrders b.content.orders) (sym (along 7 refl bare.1.1.1.1.0 (m5.others.1.1.1.1.0 ∙ m4.others.1.1.1.1.0 ∙ m3.others.1.1.1.1.0 ∙ m2.others.1.1.1.1.0 ∙ m1.others.1.1.1.1.0))) has.stands.orders;
          demands = subst (AreRows 0 _) (sym (along 9 refl bare.1.1.1.1.1.0 (m5.others.1.1.1.1.1.0 ∙ m4.others.1.1.1.1.1.0 ∙ m3.others.1.1.1.1.1.0 ∙ m2.others.1.1.1.1.1.0 ∙ m1.others.1.1.1.1.1.0))) has.stands.demands;
          kept = subst (AreRows 1 _) (sym (along 11 refl bare.1.1.1.1.1.1.0 (m5.others.1.1.1.1.1.1.0 ∙ m4.others.1.1.1.1.1.1.0 ∙ m3.others.1.1.1.1.1.1.0 ∙ m2.others.1.1.1.1.1.1.0 ∙ m1.others.1.1.1.1.1.1.0))) has.stands.kept;
          imports = subst (AreRows 1 _) (sym (along 13 refl bare.1.1.1.1.1.1.1.0 (m5.others.1.1.1.1.1.1.1.0 ∙ m4.others.1.1.1.1.1.1.1.0 ∙ m3.others.1.1.1.1.1.1.1.0 ∙ m2.others.1.1.1.1.1.1.1.0 ∙ m1.others.1.1.1.1.1.1.1.0))) has.stands.imports;
          totals = along 15 refl bare.1.1.1.1.1.1.1.1.0 (m5.others.1.1.1.1.1.1.1.1.0 ∙ m4.others.1.1.1.1.1.1.1.1.0 ∙ m3.others.1.1.1.1.1.1.1.1.0 ∙ m2.others.1.1.1.1.1.1.1.1.0 ∙ m1.others.1.1.1.1.1.1.1.1.0) ∙ has.stands.totals;
          totals2 = subst (AreRows 1 _) (sym (along 17 refl bare.1.1.1.1.1.1.1.1.1.0 (m5.others.1.1.1.1.1.1.1.1.1.0 ∙ m4.others.1.1.1.1.1.1.1.1.1.0 ∙ m3.others.1.1.1.1.1.1.1.1.1.0 ∙ m2.others.1.1.1.1.1.1.1.1.1.0 ∙ m1.others.1.1.1.1.1.1.1.1.1.0))) has.stands.totals2;
          journal = none 0 journal_row (entries b.content.entries) (s6.now.trees 19) (ap entries has.stands.none ∙ no_entries nat_cmp Entry) (six.0.others 19 refl bare.1.1.1.1.1.1.1.1.1.1.0 ∙ m5.others.1.1.1.1.1.1.1.1.1.1.0 ∙ m4.others.1.1.1.1.1.1.1.1.1.1.0 ∙ m3.others.1.1.1.1.1.1.1.1.1.1.0 ∙ m2.others.1.1.1.1.1.1.1.1.1.1.0 ∙ m1.empty);
          uses = none 1 use_row (entries b.uses) (s6.now.trees 20) (ap entries has.uses ∙ no_entries use_cmp (Unit {0})) (six.0.others 20 refl bare.1.1.1.1.1.1.1.1.1.1.1.0 ∙ m5.others.1.1.1.1.1.1.1.1.1.1.1.0 ∙ m4.others.1.1.1.1.1.1.1.1.1.1.1.0 ∙ m3.others.1.1.1.1.1.1.1.1.1.1.1.0 ∙ m2.empty);
          notes = none 1 note_row (entries b.content.notes) (s6.now.trees 22) (ap entries has.stands.later.notes ∙ no_entries code_cmp OrderNote) (six.0.others 22 refl bare.1.1.1.1.1.1.1.1.1.1.1.1.0 ∙ m5.others.1.1.1.1.1.1.1.1.1.1.1.1.0 ∙ m4.others.1.1.1.1.1.1.1.1.1.1.1.1.0 ∙ m3.empty);
          begun = none 0 begun_row (entries b.content.begun) (s6.now.trees 24) (ap entries has.stands.later.begun ∙ no_entries nat_cmp JobBegin) (six.0.others 24 refl bare.1.1.1.1.1.1.1.1.1.1.1.1.1.0 ∙ m5.others.1.1.1.1.1.1.1.1.1.1.1.1.1.0 ∙ m4.empty);
          halts = none 0 halt_row (entries b.content.halts) (s6.now.trees 25) (ap entries has.stands.later.halts ∙ no_entries nat_cmp JobHalt) (six.0.others 25 refl bare.1.1.1.1.1.1.1.1.1.1.1.1.1.1.0 ∙ m5.empty);
        };
        keyed = has.keyed;
      } in
      subst (λ (x : Held S). IsMade g old x b) (sym a6.2) (record { was_open = a1.1.was_open; is_open = a6.1.is_open; inside = a6.1.inside; shows = shows; schema = six.0.schema_is })

  pub extends_when : (old new : Held S) (b : Books) (r : Result (Unit {0}) Error) → (HasCleanDisk (state g old) → IsTrue (state g old).is_open → ShowsSecond (state g old) b) → (HasCleanDisk (state g new) → HasCleanDisk (state g old)) → (HasCleanDisk (state g new) → OnOk r (AreRun g last_texts old new))
      → OnOk r (MakesTables (state g old) (state g new) b)
  extends_when old new b r has earlier ran = made_when g last_texts old new b r earlier ran (λ clean a1. extends old new b (has (earlier clean) a1.1.was_open) a1)
