-- The books that are shown after one table has changed.
use Rattle.std.proofs.Common.{◌≡◌, ◌==◌, ℕ, List, map, if◌then◌else◌, inl, inr, refl, sym, subst, ◌∙◌}
use Rattle.std.proofs.lemmas.Bool.{cases_Bool}
use Rattle.std.specs.FinMap.{FinMap, entries}
use Rattle.std.specs.FinSet as set
use Rattle.std.specs.Ordering.{nat_cmp}
use Rattle.sqlite_value.specs.Order.{Row}
use Rattle.sqlite.specs.Edit.{IsNoIndex}
use Rattle.sqlite.specs.State.{State}
use Rattle.sqlite_trees.specs.Tree.{Trees}
use Rattle.cut_measure.specs.Codes.{code_cmp}
use Rattle.cut_measure.specs.Names.{name_cmp}
use Rattle.shop_records.specs.Content.{Content, message_id_cmp}
use Rattle.shop_records.specs.declared.records.Material.{Material}
use Rattle.shop_records.specs.declared.records.Part.{Part}
use Rattle.shop_records.specs.declared.records.Job.{Job}
use Rattle.shop_records.specs.declared.records.JobHalt.{JobHalt}
use Rattle.shop_records.specs.declared.records.JobBegin.{JobBegin}
use Rattle.shop_records.specs.declared.notes.OrderNote.{OrderNote}
use Rattle.shop_records.specs.declared.records.Demand.{Demand}
use Rattle.shop_records.specs.declared.records.Totals.{Totals}
use Rattle.shop_records.specs.declared.imports.ImportRow.{ImportRow}
use Rattle.shop_records.specs.declared.texts.Kept.{Kept}
use Rattle.shop_records.specs.declared.journal.Entry.{Entry}
use Rattle.shop_statements.specs.Layout.{HasShopTables}
use Rattle.shop_statements.specs.Rows.{AreRows, AreOrders, IsKeyed, Stands, meta_row, meta_entries, material_row, part_row, job_row, demand_row, kept_row, import_row, totals_row, journal_row, use_row, use_cmp, note_row, begun_row, halt_row}
use Rattle.shop_statements.specs.Shown.{Books, Shows}
use Rattle.shop_statements.proofs.Writing.{IsAlone, IsPut, alone}

-- what has no key may change
keyed_still : (m : Content) (last_act last_demand : ℕ) (orders : set.FinSet code_cmp) (kept : FinMap message_id_cmp Kept) → IsKeyed m → IsKeyed (record m { last_act = last_act; last_demand = last_demand; orders = orders; kept = kept })
keyed_still m last_act last_demand orders kept h = record {
  materials = h.materials;
  parts = h.parts;
  jobs = λ number job there. let j = h.jobs number job there in record { numbered = j.numbered; kerf = j.kerf; plan = j.plan; on = record { row = j.on.row; found = j.on.found; material = j.on.material; known = j.on.known; width = j.on.width; height = j.on.height; kerf = j.on.kerf } };
  halts = h.halts;
  begun = h.begun;
  notes = h.notes;
  demands = h.demands;
  imports = h.imports;
  entries = h.entries;
  codes = h.codes;
  values = h.values;
  noted = h.noted;
  halted = h.halted;
}

module _ (old new : State) (b : Books) (has : Shows old b) where
  -- the trees, but for one as it was
  abbrev but : ℕ → Trees
  but tree t = if t == tree then old.now.trees t else new.now.trees t

  stays : (tree : ℕ) → IsAlone old new tree → (t : ℕ) → IsNoIndex old.now.schema t → but tree t ≡ old.now.trees t
  stays tree put t free = elim (cases_Bool (t == tree)) [
    | inl same ↦ rw same refl
    | inr other ↦ rw other (put.others t other free)
  ]

  -- they stand for the books that were shown
  stand : (tree : ℕ) → IsAlone old new tree → Stands (but tree) b.content b.totals b.uses
  stand tree put = record {
    meta = subst (AreRows 1 _) (sym (stays tree put 0 has.schema.bare.0)) has.stands.meta;
    materials = subst (AreRows 1 _) (sym (stays tree put 2 has.schema.bare.1.0)) has.stands.materials;
    parts = subst (AreRows 1 _) (sym (stays tree put 4 has.schema.bare.1.1.0)) has.stands.parts;
    jobs = subst (AreRows 0 _) (sym (stays tree put 6 has.schema.bare.1.1.1.0)) has.stands.jobs;
    orders = subst (AreOrders b.content.orders) (sym (stays tree put 7 has.schema.bare.1.1.1.1.0)) has.stands.orders;
    demands = subst (AreRows 0 _) (sym (stays tree put 9 has.schema.bare.1.1.1.1.1.0)) has.stands.demands;
    kept = subst (AreRows 1 _) (sym (stays tree put 11 has.schema.bare.1.1.1.1.1.1.0)) has.stands.kept;
    imports = subst (AreRows 1 _) (sym (stays tree put 13 has.schema.bare.1.1.1.1.1.1.1.0)) has.stands.imports;
    totals = stays tree put 15 has.schema.bare.1.1.1.1.1.1.1.1.0 ∙ has.stands.totals;
    totals2 = subst (AreRows 1 _) (sym (stays tree put 17 has.schema.bare.1.1.1.1.1.1.1.1.1.0)) has.stands.totals2;
    journal = subst (AreRows 0 _) (sym (stays tree put 19 has.schema.bare.1.1.1.1.1.1.1.1.1.1.0)) has.stands.journal;
    uses = subst (AreRows 1 _) (sym (stays tree put 20 has.schema.bare.1.1.1.1.1.1.1.1.1.1.1.0)) has.stands.uses;
    notes = subst (AreRows 1 _) (sym (stays tree put 22 has.schema.bare.1.1.1.1.1.1.1.1.1.1.1.1.0)) has.stands.notes;
    begun = subst (AreRows 0 _) (sym (stays tree put 24 has.schema.bare.1.1.1.1.1.1.1.1.1.1.1.1.1.0)) has.stands.begun;
    halts = subst (AreRows 0 _) (sym (stays tree put 25 has.schema.bare.1.1.1.1.1.1.1.1.1.1.1.1.1.1.0)) has.stands.halts;
  }

  -- so the new ones do for books that differ in that table
  shows : (tree : ℕ) → IsAlone old new tree → (c : Books) → Stands new.now.trees c.content c.totals c.uses → IsKeyed c.content → Shows new c
  shows tree put c stands keyed = record { schema = subst HasShopTables (sym put.schema_is) has.schema; sound = put.sound; stands = stands; keyed = keyed }

  pub notes_shown : (m : FinMap code_cmp OrderNote) → IsAlone old new 22 → AreRows 1 (map note_row (entries m)) (new.now.trees 22) → IsKeyed (record b.content { notes = m }) → Shows new (record b { content = record b.content { notes = m } })
  notes_shown m put rows keyed =
      let s = stand 22 put in shows 22 put _ (record { meta = s.meta; materials = s.materials; parts = s.parts; jobs = s.jobs; orders = s.orders; demands = s.demands; kept = s.kept; imports = s.imports; totals = s.totals; totals2 = s.totals2; journal = s.journal; uses = s.uses; notes = rows; begun = s.begun; halts = s.halts }) keyed

  pub begun_shown : (m : FinMap nat_cmp JobBegin) → IsAlone old new 24 → AreRows 0 (map begun_row (entries m)) (new.now.trees 24) → IsKeyed (record b.content { begun = m }) → Shows new (record b { content = record b.content { begun = m } })
  begun_shown m put rows keyed =
      let s = stand 24 put in shows 24 put _ (record { meta = s.meta; materials = s.materials; parts = s.parts; jobs = s.jobs; orders = s.orders; demands = s.demands; kept = s.kept; imports = s.imports; totals = s.totals; totals2 = s.totals2; journal = s.journal; uses = s.uses; notes = s.notes; begun = rows; halts = s.halts }) keyed

  pub halts_shown : (m : FinMap nat_cmp JobHalt) → IsAlone old new 25 → AreRows 0 (map halt_row (entries m)) (new.now.trees 25) → IsKeyed (record b.content { halts = m }) → Shows new (record b { content = record b.content { halts = m } })
  halts_shown m put rows keyed =
      let s = stand 25 put in shows 25 put _ (record { meta = s.meta; materials = s.materials; parts = s.parts; jobs = s.jobs; orders = s.orders; demands = s.demands; kept = s.kept; imports = s.imports; totals = s.totals; totals2 = s.totals2; journal = s.journal; uses = s.uses; notes = s.notes; begun = s.begun; halts = rows }) keyed

-- and where it is one row that is new or in another's place
module _ (old new : State) (b : Books) (has : Shows old b) (left : List Row) (row : Row) where
  pub meta_shown : (last_act last_demand : ℕ) → IsPut old new 0 left row → AreRows 1 (map meta_row (meta_entries (record b.content { last_act = last_act; last_demand = last_demand }))) (new.now.trees 0) → Shows new (record b { content = record b.content { last_act = last_act; last_demand = last_demand } })
  meta_shown last_act last_demand put rows =
      let s = stand old new b has 0 (alone put) in shows old new b has 0 (alone put) _ (record { meta = rows; materials = s.materials; parts = s.parts; jobs = s.jobs; orders = s.orders; demands = s.demands; kept = s.kept; imports = s.imports; totals = s.totals; totals2 = s.totals2; journal = s.journal; uses = s.uses; notes = s.notes; begun = s.begun; halts = s.halts }) (keyed_still b.content last_act last_demand b.content.orders b.content.kept has.keyed)

  pub materials_shown : (m : FinMap code_cmp Material) → IsPut old new 2 left row → AreRows 1 (map material_row (entries m)) (new.now.trees 2) → IsKeyed (record b.content { materials = m }) → Shows new (record b { content = record b.content { materials = m } })
  materials_shown m put rows keyed =
      let s = stand old new b has 2 (alone put) in shows old new b has 2 (alone put) _ (record { meta = s.meta; materials = rows; parts = s.parts; jobs = s.jobs; orders = s.orders; demands = s.demands; kept = s.kept; imports = s.imports; totals = s.totals; totals2 = s.totals2; journal = s.journal; uses = s.uses; notes = s.notes; begun = s.begun; halts = s.halts }) keyed

  pub parts_shown : (m : FinMap name_cmp Part) → IsPut old new 4 left row → AreRows 1 (map part_row (entries m)) (new.now.trees 4) → IsKeyed (record b.content { parts = m }) → Shows new (record b { content = record b.content { parts = m } })
  parts_shown m put rows keyed =
      let s = stand old new b has 4 (alone put) in shows old new b has 4 (alone put) _ (record { meta = s.meta; materials = s.materials; parts = rows; jobs = s.jobs; orders = s.orders; demands = s.demands; kept = s.kept; imports = s.imports; totals = s.totals; totals2 = s.totals2; journal = s.journal; uses = s.uses; notes = s.notes; begun = s.begun; halts = s.halts }) keyed

  pub jobs_shown : (m : FinMap nat_cmp Job) → IsPut old new 6 left row → AreRows 0 (map job_row (entries m)) (new.now.trees 6) → IsKeyed (record b.content { jobs = m }) → Shows new (record b { content = record b.content { jobs = m } })
  jobs_shown m put rows keyed =
      let s = stand old new b has 6 (alone put) in shows old new b has 6 (alone put) _ (record { meta = s.meta; materials = s.materials; parts = s.parts; jobs = rows; orders = s.orders; demands = s.demands; kept = s.kept; imports = s.imports; totals = s.totals; totals2 = s.totals2; journal = s.journal; uses = s.uses; notes = s.notes; begun = s.begun; halts = s.halts }) keyed

  pub orders_shown : (m : set.FinSet code_cmp) → IsPut old new 7 left row → AreOrders m (new.now.trees 7) → Shows new (record b { content = record b.content { orders = m } })
  orders_shown m put rows =
      let s = stand old new b has 7 (alone put) in shows old new b has 7 (alone put) _ (record { meta = s.meta; materials = s.materials; parts = s.parts; jobs = s.jobs; orders = rows; demands = s.demands; kept = s.kept; imports = s.imports; totals = s.totals; totals2 = s.totals2; journal = s.journal; uses = s.uses; notes = s.notes; begun = s.begun; halts = s.halts }) (keyed_still b.content b.content.last_act b.content.last_demand m b.content.kept has.keyed)

  pub demands_shown : (m : FinMap nat_cmp Demand) → IsPut old new 9 left row → AreRows 0 (map demand_row (entries m)) (new.now.trees 9) → IsKeyed (record b.content { demands = m }) → Shows new (record b { content = record b.content { demands = m } })
  demands_shown m put rows keyed =
      let s = stand old new b has 9 (alone put) in shows old new b has 9 (alone put) _ (record { meta = s.meta; materials = s.materials; parts = s.parts; jobs = s.jobs; orders = s.orders; demands = rows; kept = s.kept; imports = s.imports; totals = s.totals; totals2 = s.totals2; journal = s.journal; uses = s.uses; notes = s.notes; begun = s.begun; halts = s.halts }) keyed

  pub kept_shown : (m : FinMap message_id_cmp Kept) → IsPut old new 11 left row → AreRows 1 (map kept_row (entries m)) (new.now.trees 11) → Shows new (record b { content = record b.content { kept = m } })
  kept_shown m put rows =
      let s = stand old new b has 11 (alone put) in shows old new b has 11 (alone put) _ (record { meta = s.meta; materials = s.materials; parts = s.parts; jobs = s.jobs; orders = s.orders; demands = s.demands; kept = rows; imports = s.imports; totals = s.totals; totals2 = s.totals2; journal = s.journal; uses = s.uses; notes = s.notes; begun = s.begun; halts = s.halts }) (keyed_still b.content b.content.last_act b.content.last_demand b.content.orders m has.keyed)

  pub imports_shown : (m : FinMap code_cmp ImportRow) → IsPut old new 13 left row → AreRows 1 (map import_row (entries m)) (new.now.trees 13) → IsKeyed (record b.content { imports = m }) → Shows new (record b { content = record b.content { imports = m } })
  imports_shown m put rows keyed =
      let s = stand old new b has 13 (alone put) in shows old new b has 13 (alone put) _ (record { meta = s.meta; materials = s.materials; parts = s.parts; jobs = s.jobs; orders = s.orders; demands = s.demands; kept = s.kept; imports = rows; totals = s.totals; totals2 = s.totals2; journal = s.journal; uses = s.uses; notes = s.notes; begun = s.begun; halts = s.halts }) keyed

  pub totals2_shown : (m : FinMap code_cmp Totals) → IsPut old new 17 left row → AreRows 1 (map totals_row (entries m)) (new.now.trees 17) → Shows new (record b { totals = m })
  totals2_shown m put rows =
      let s = stand old new b has 17 (alone put) in shows old new b has 17 (alone put) _ (record { meta = s.meta; materials = s.materials; parts = s.parts; jobs = s.jobs; orders = s.orders; demands = s.demands; kept = s.kept; imports = s.imports; totals = s.totals; totals2 = rows; journal = s.journal; uses = s.uses; notes = s.notes; begun = s.begun; halts = s.halts }) has.keyed

  pub journal_shown : (m : FinMap nat_cmp Entry) → IsPut old new 19 left row → AreRows 0 (map journal_row (entries m)) (new.now.trees 19) → IsKeyed (record b.content { entries = m }) → Shows new (record b { content = record b.content { entries = m } })
  journal_shown m put rows keyed =
      let s = stand old new b has 19 (alone put) in shows old new b has 19 (alone put) _ (record { meta = s.meta; materials = s.materials; parts = s.parts; jobs = s.jobs; orders = s.orders; demands = s.demands; kept = s.kept; imports = s.imports; totals = s.totals; totals2 = s.totals2; journal = rows; uses = s.uses; notes = s.notes; begun = s.begun; halts = s.halts }) keyed

  pub uses_shown : (m : FinMap use_cmp (Unit {0})) → IsPut old new 20 left row → AreRows 1 (map use_row (entries m)) (new.now.trees 20) → Shows new (record b { uses = m })
  uses_shown m put rows =
      let s = stand old new b has 20 (alone put) in shows old new b has 20 (alone put) _ (record { meta = s.meta; materials = s.materials; parts = s.parts; jobs = s.jobs; orders = s.orders; demands = s.demands; kept = s.kept; imports = s.imports; totals = s.totals; totals2 = s.totals2; journal = s.journal; uses = rows; notes = s.notes; begun = s.begun; halts = s.halts }) has.keyed
