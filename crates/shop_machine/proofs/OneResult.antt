-- A command that is read as one thing has one result: what two changes of it make of a content is the same, and so are their
-- replies.
use Rattle.std.proofs.Common.{◌≡◌, ℕ, ◌+◌, ◌≤◌, List, refl, sym, ap, subst, ◌∙◌, inl, inr}
use Rattle.std.specs.Prelude.{Option, Some, None}
use Rattle.std.specs.Cmp.{nat_cmp_total}
use Rattle.std.specs.Ordering.{nat_cmp}
use Rattle.std.specs.FinMap.{FinMap, get, same_map, nat_cmp-IsAntisymmetric}
use Rattle.cut_measure.specs.Names.{Name}
use Rattle.cut_measure.specs.Measures.{CutParams}
use Rattle.cut_tree.specs.declared.lay.Row.{Row}
use Rattle.cut_tree.specs.declared.halts.Stop.{Stop}
use Rattle.cut_tree.specs.declared.halts.Stop.TheVariants as stop
use Rattle.cut_tree.specs.Tree.{Tree, count_of}
use Rattle.cut_tree.specs.Patterns.{Pattern}
use Rattle.cut_tree.specs.Stops.{halted, outcome_of}
use Rattle.cut_tree.proofs.OneLaidList.{one_laid}
use Rattle.shop_records.specs.declared.records.Material.{Material}
use Rattle.shop_records.specs.declared.records.Part.{Part}
use Rattle.shop_records.specs.declared.records.State.TheVariants as state
use Rattle.shop_records.specs.declared.records.Job.{Job}
use Rattle.shop_records.specs.declared.records.JobHalt.{JobHalt}
use Rattle.shop_records.specs.declared.records.JobState.{JobState}
use Rattle.shop_records.specs.declared.records.JobState.TheVariants as job
use Rattle.shop_records.specs.declared.records.Demand.{Demand}
use Rattle.shop_records.specs.declared.records.Totals.{Totals}
use Rattle.shop_records.specs.declared.imports.Form.{Form}
use Rattle.shop_records.specs.declared.imports.Form.TheVariants.{Csv, Cgcut}
use Rattle.shop_records.specs.declared.journal.Entry.{Entry as EntryRow}
use Rattle.shop_records.specs.declared.changes.Change.{Change}
use Rattle.shop_records.specs.declared.messages.Command.{Command}
use Rattle.shop_records.specs.declared.messages.Command.TheVariants.{Reserve, Done, Break, Release, Scrap, GiveBack, Import, Amend, Undo}
use Rattle.shop_records.specs.declared.messages.Reply.TheVariants as reply
use Rattle.shop_records.specs.Readings.{Reading, unread, Plan, Lines, Problem, Again}
use Rattle.shop_records.specs.Content.{Content, part_at, halt_at, demand_at, totals_of, with_demands}
use Rattle.shop_records.specs.Elements.{IsIn}
use Rattle.shop_machine.specs.Recounts.{AreRecounted, with_reserved, with_freed, with_laid, with_unmade}
use Rattle.shop_machine.specs.Reserving.{IsReservation, reserve_change}
use Rattle.shop_machine.specs.Ending.{IsWork, IsEnd, IsRelease, end_change, release_change}
use Rattle.shop_machine.specs.Retiring.{state_change}
use Rattle.shop_machine.specs.Importing.{ImportMakes}
use Rattle.shop_machine.specs.Amending.{amend_change}
use Rattle.shop_machine.specs.Undoing.{IsUndo, laid_by, stop_of, undo_change}
use Rattle.shop_machine.specs.Machine.{Makes, entry_order}
use Rattle.shop_records.proofs.Basics.{all_in, any_in, demand_cases, none_some, same_some}
use Rattle.shop_machine.proofs.Entered.{with_rest}

-- ---- rows of demands, in any order

module _ (at : ℕ → Option Demand) (recount : ℕ → Demand → Demand) (tree : Tree) (rows more : List Demand) (one : AreRecounted at recount tree rows) (other : AreRecounted at recount tree more) where
  row_of : (r : Demand) → IsIn r rows → (before : Demand) × (at r.number ≡ Some before) × (1 ≤ count_of tree r.number) × (r ≡ recount (count_of tree r.number) before)
  row_of r i = all_in (λ (row : Demand). (before : Demand) × (at row.number ≡ Some before) × (1 ≤ count_of tree row.number) × (row ≡ recount (count_of tree row.number) before)) rows one.only r i

  more_of : (r : Demand) → IsIn r more → (before : Demand) × (at r.number ≡ Some before) × (1 ≤ count_of tree r.number) × (r ≡ recount (count_of tree r.number) before)
  more_of r i = all_in (λ (row : Demand). (before : Demand) × (at row.number ≡ Some before) × (1 ≤ count_of tree row.number) × (row ≡ recount (count_of tree row.number) before)) more other.only r i

  row_is : (r s : Demand) → IsIn r rows → IsIn s more → r.number ≡ s.number → r ≡ s
  row_is r s i j same =
      let p = row_of r i in
      let q = more_of s j in
      let before : p.0 ≡ q.0 = same_some p.0 q.0 (sym p.1 ∙ ap at same ∙ q.1) in
      p.3 ∙ ap (λ n. recount (count_of tree n) p.0) same ∙ ap (recount (count_of tree s.number)) before ∙ sym q.3

  found_in_both : (m : FinMap nat_cmp Demand) (n : ℕ) → get (with_demands rows m) n ≡ get (with_demands more m) n
  found_in_both m n =
      elim (demand_cases rows m n) [
        | inl p ↦ elim (demand_cases more m n) [
          | inl q ↦ p.3 ∙ ap Some (row_is p.0 q.0 p.1 q.1 (p.2 ∙ sym q.2)) ∙ sym q.3
          | inr q ↦ absurd (
              let there = any_in (λ (row : Demand). row.number ≡ p.0.number) more (other.each p.0.number (row_of p.0 p.1).2) in
              q.0 there.0 there.1 (there.2 ∙ p.2))
        ]
        | inr p ↦ elim (demand_cases more m n) [
          | inl q ↦ absurd (
              let there = any_in (λ (row : Demand). row.number ≡ q.0.number) rows (one.each q.0.number (more_of q.0 q.1).2) in
              p.0 there.0 there.1 (there.2 ∙ q.2))
          | inr q ↦ p.1 ∙ sym q.1
        ]
      ]

  pub rows_same : (m : FinMap nat_cmp Demand) → with_demands rows m ≡ with_demands more m
  rows_same m = same_map nat_cmp_total nat_cmp-IsAntisymmetric (with_demands rows m) (with_demands more m) (found_in_both m)

-- ---- changes that make the same of a content

pub record IsSame (command : Command) (one other : Change) : Type 0 where
  pub material : one.material ≡ other.material
  pub parts : one.parts ≡ other.parts
  pub moved : one.moved ≡ other.moved
  pub undone : one.undone ≡ other.undone
  pub job : one.job ≡ other.job
  pub halt : one.halt ≡ other.halt
  pub begun : one.begun ≡ other.begun
  pub order : one.order ≡ other.order
  pub note : one.note ≡ other.note
  pub demands : (m : FinMap nat_cmp Demand) → with_demands one.demands m ≡ with_demands other.demands m
  pub entered : entry_order command one.demands ≡ entry_order command other.demands
  pub act : one.act ≡ other.act
  pub demand : one.demand ≡ other.demand
  pub import : one.import ≡ other.import
  pub answer : one.reply ≡ other.reply

itself : (command : Command) (change : Change) → IsSame command change change
itself command change = record {
  material = refl;
  parts = refl;
  moved = refl;
  undone = refl;
  job = refl;
  halt = refl;
  begun = refl;
  order = refl;
  note = refl;
  demands = λ m. refl;
  entered = refl;
  act = refl;
  demand = refl;
  import = refl;
  answer = refl;
}

equal_same : (command : Command) (one other : Change) → one ≡ other → IsSame command one other
equal_same command one other e = subst (IsSame command one) e (itself command one)

-- from what two changes are
both_are : (command : Command) (one other as_one as_other : Change) → one ≡ as_one → other ≡ as_other → IsSame command as_one as_other → IsSame command one other
both_are command one other as_one as_other p q same =
    subst (λ (c : Change). IsSame command c other) (sym p) (subst (λ (c : Change). IsSame command as_one c) (sym q) same)

same_plan : (p q : Pattern) → Plan p ≡ Plan q → p ≡ q
same_plan p q e = cc

module _ (at : ℕ → Option Demand) where
  reserved_same : (name : Name) (text : List ℕ) (part : Part) (plan : Pattern) (act : ℕ) (one other : Change)
      → IsReservation part plan at act one → IsReservation part plan at act other → IsSame (Reserve name text) one other
  reserved_same name text part plan act one other p q =
      both_are (Reserve name text) one other (reserve_change part plan act p.rows) (reserve_change part plan act q.rows) p.is q.is
      (record {
        material = refl;
        parts = refl;
        moved = refl;
        undone = refl;
        job = refl;
        halt = refl;
        begun = refl;
        order = refl;
        note = refl;
        demands = rows_same at with_reserved plan.tree p.rows q.rows p.recounted q.recounted;
        entered = refl;
        act = refl;
        demand = refl;
        import = refl;
        answer = refl;
      })

  ended_same : (command : Command) → ((demands : List Demand) → entry_order command demands ≡ None) → (s : Stop) (j : Job) (part : Part) (params : CutParams) (totals : Totals) (one other : Change)
      → IsEnd s j part params totals at one → IsEnd s j part params totals at other → IsSame command one other
  ended_same command none s j part params totals one other p q =
      let laid : q.laid ≡ p.laid = one_laid j.plan.tree j.plan.w j.plan.h j.plan.kerf (outcome_of s) q.laid p.laid q.is_laid p.is_laid in
      both_are command one other (end_change s j part params totals p.laid p.rows) (end_change s j part params totals p.laid q.rows)
      p.is (q.is ∙ ap (λ (l : List Row). end_change s j part params totals l q.rows) laid)
      (record {
        material = refl;
        parts = refl;
        moved = refl;
        undone = refl;
        job = refl;
        halt = refl;
        begun = refl;
        order = refl;
        note = refl;
        demands = rows_same at (with_laid p.laid) j.plan.tree p.rows q.rows p.recounted (subst (λ (l : List Row). AreRecounted at (with_laid l) j.plan.tree q.rows) laid q.recounted);
        entered = none p.rows ∙ sym (none q.rows);
        act = refl;
        demand = refl;
        import = refl;
        answer = refl;
      })

  released_same : (number : ℕ) (j : Job) (part : Part) (one other : Change) → IsRelease j part at one → IsRelease j part at other → IsSame (Release number) one other
  released_same number j part one other p q =
      both_are (Release number) one other (release_change j part p.rows) (release_change j part q.rows) p.is q.is
      (record {
        material = refl;
        parts = refl;
        moved = refl;
        undone = refl;
        job = refl;
        halt = refl;
        begun = refl;
        order = refl;
        note = refl;
        demands = rows_same at with_freed j.plan.tree p.rows q.rows p.recounted q.recounted;
        entered = refl;
        act = refl;
        demand = refl;
        import = refl;
        answer = refl;
      })

  undone_same : (number : ℕ) (j : Job) (kept also_kept : Option JobHalt) (part : Part) (params : CutParams) (totals : Totals) (one other : Change)
      → (p : IsUndo j kept part params totals at one) (q : IsUndo j also_kept part params totals at other) → q.end ≡ p.end → IsSame (Undo number) one other
  undone_same number j kept also_kept part params totals one other p q same =
      both_are (Undo number) one other (undo_change p.end j part params totals p.rows) (undo_change p.end j part params totals q.rows)
      p.is (q.is ∙ ap (λ (s : Stop). undo_change s j part params totals q.rows) same)
      (record {
        material = refl;
        parts = refl;
        moved = refl;
        undone = refl;
        job = refl;
        halt = refl;
        begun = refl;
        order = refl;
        note = refl;
        demands = rows_same at (with_unmade (laid_by p.end j)) j.plan.tree p.rows q.rows p.recounted
            (subst (λ (s : Stop). AreRecounted at (with_unmade (laid_by s j)) j.plan.tree q.rows) same q.recounted);
        entered = refl;
        act = refl;
        demand = refl;
        import = refl;
        answer = refl;
      })

-- the work on a job ended so, where what is kept of it in two contents agrees
one_end : (j : Job) (state : JobState) (kept also_kept : Option JobHalt) (one other : Stop) → ((r s : JobHalt) → kept ≡ Some r → also_kept ≡ Some s → r ≡ s)
    → stop_of j state kept ≡ Some one → stop_of j state also_kept ≡ Some other → other ≡ one
one_end j job.Waiting kept also_kept one other agree p q = absurd (none_some one p)
one_end j job.Done kept also_kept one other agree p q = same_some other one (sym q ∙ p)
one_end j job.Broken None also_kept one other agree p q = absurd (none_some one p)
one_end j job.Broken (Some r) None one other agree p q = absurd (none_some other q)
one_end j job.Broken (Some r) (Some s) one other agree p q =
    same_some other one (sym q ∙ ap (λ (row : JobHalt). stop_of j job.Broken (Some row)) (sym (agree r s refl refl)) ∙ p)
one_end j job.Released kept also_kept one other agree p q = absurd (none_some one p)
one_end j job.Undone kept also_kept one other agree p q = absurd (none_some one p)

import_same : (order : List ℕ) (form : Form) (text : List ℕ) (totals : List ℕ → Totals) (act first : ℕ) (read : Reading) (one other : Change)
    → ImportMakes order form text totals act first read one → ImportMakes order form text totals act first read other → one ≡ other
import_same order Csv text totals act first unread one other p q = absurd p
import_same order Csv text totals act first (Plan plan) one other p q = absurd p
import_same order Csv text totals act first (Lines lines) one other p q = p ∙ sym q
import_same order Csv text totals act first (Problem size pieces) one other p q = absurd p
import_same order Csv text totals act first (Again None) one other p q = absurd p
import_same order Csv text totals act first (Again (Some answer)) one other p q = p ∙ sym q
import_same order (Cgcut material) text totals act first unread one other p q = absurd p
import_same order (Cgcut material) text totals act first (Plan plan) one other p q = absurd p
import_same order (Cgcut material) text totals act first (Lines lines) one other p q = absurd p
import_same order (Cgcut material) text totals act first (Problem size pieces) one other p q = p ∙ sym q
import_same order (Cgcut material) text totals act first (Again None) one other p q = absurd p
import_same order (Cgcut material) text totals act first (Again (Some answer)) one other p q = p ∙ sym q

-- ---- by cases on the command, over two contents that differ in their entries alone, and in of which jobs it is kept where the work
-- on them halted

module _ (a : Content) (halts : FinMap nat_cmp JobHalt) (entries : FinMap nat_cmp EntryRow)
    (agree : (n : ℕ) (r s : JobHalt) → halt_at a n ≡ Some r → get halts n ≡ Some s → r ≡ s) where
  abbrev b : Content
  b = with_rest halts entries a

  -- the same job, part and material
  module _ (number : ℕ) (j k : Job) (p q : Part) (m n : Material) (work : IsWork a number j p m) (other : IsWork b number k q n) where
    same_job : k ≡ j
    same_job = same_some k j (sym other.found ∙ work.found)

    same_part : q ≡ p
    same_part = same_some q p (sym other.on ∙ ap (λ (x : Job). part_at a x.part) same_job ∙ work.on)

    same_material : n ≡ m
    same_material = same_some n m (sym other.of ∙ ap (λ (x : Part). material_at_of x) same_part ∙ work.of)
      where
        material_at_of : Part → Option Material
        material_at_of x = get a.materials x.material

    ends_alike : (s : Stop) (change : Change) → IsEnd s k q n.limits (totals_of a q.material) (demand_at a) change → IsEnd s j p m.limits (totals_of a p.material) (demand_at a) change
    ends_alike s change end =
        subst (λ (x : Material). IsEnd s j p x.limits (totals_of a p.material) (demand_at a) change) same_material
        (subst (λ (x : Part). IsEnd s j x n.limits (totals_of a x.material) (demand_at a) change) same_part
        (subst (λ (x : Job). IsEnd s x q n.limits (totals_of a q.material) (demand_at a) change) same_job end))

    release_alike : (change : Change) → IsRelease k q (demand_at a) change → IsRelease j p (demand_at a) change
    release_alike change release =
        subst (λ (x : Part). IsRelease j x (demand_at a) change) same_part
        (subst (λ (x : Job). IsRelease x q (demand_at a) change) same_job release)

    undo_alike : (change : Change) → IsUndo k (halt_at b k.act) q n.limits (totals_of a q.material) (demand_at a) change
        → IsUndo j (halt_at b j.act) p m.limits (totals_of a p.material) (demand_at a) change
    undo_alike change undo =
        subst (λ (x : Material). IsUndo j (halt_at b j.act) p x.limits (totals_of a p.material) (demand_at a) change) same_material
        (subst (λ (x : Part). IsUndo j (halt_at b j.act) x n.limits (totals_of a x.material) (demand_at a) change) same_part
        (subst (λ (x : Job). IsUndo x (halt_at b x.act) q n.limits (totals_of a q.material) (demand_at a) change) same_job undo))

  pub one_change : (command : Command) (read : Reading) (one other : Change) → Makes a command read one → Makes b command read other → IsSame command one other
  one_change (Reserve part text) read one other p q =
      let row : q.0 ≡ p.0 = same_some q.0 p.0 (sym q.2 ∙ p.2) in
      let plan : q.1 ≡ p.1 = same_plan q.1 p.1 (sym q.3 ∙ p.3) in
      reserved_same (demand_at a) part text p.0 p.1 (a.last_act + 1) one other p.4
      (subst (λ (x : Pattern). IsReservation p.0 x (demand_at a) (a.last_act + 1) other) plan
      (subst (λ (x : Part). IsReservation x q.1 (demand_at a) (a.last_act + 1) other) row q.4))
  one_change (Done number) read one other p q =
      ended_same (demand_at a) (Done number) (λ demands. refl) stop.All p.0 p.1 p.2.limits (totals_of a p.1.material) one other p.4
      (ends_alike number p.0 q.0 p.1 q.1 p.2 q.2 p.3 q.3 stop.All other q.4)
  one_change (Break number halt rest) read one other p q =
      ended_same (demand_at a) (Break number halt rest) (λ demands. refl) (halted halt rest) p.0 p.1 p.2.limits (totals_of a p.1.material) one other p.4
      (ends_alike number p.0 q.0 p.1 q.1 p.2 q.2 p.3 q.3 (halted halt rest) other q.4)
  one_change (Release number) read one other p q =
      released_same (demand_at a) number p.0 p.1 one other p.4 (release_alike number p.0 q.0 p.1 q.1 p.2 q.2 p.3 q.3 other q.4)
  one_change (Scrap part) read one other p q =
      let row : p.0 ≡ q.0 = same_some p.0 q.0 (sym p.1 ∙ q.1) in
      equal_same (Scrap part) one other (p.2 ∙ ap (λ (r : Part). state_change state.Scrap r (totals_of a r.material) (reply.Scrap r.name)) row ∙ sym q.2)
  one_change (GiveBack part) read one other p q =
      let row : p.0 ≡ q.0 = same_some p.0 q.0 (sym p.1 ∙ q.1) in
      equal_same (GiveBack part) one other (p.2 ∙ ap (λ (r : Part). state_change state.Returned r (totals_of a r.material) (reply.GiveBack r.name)) row ∙ sym q.2)
  one_change (Import order form text) read one other p q =
      equal_same (Import order form text) one other (import_same order form text (totals_of a) (a.last_act + 1) (a.last_demand + 1) read one other p q)
  one_change (Amend demand wanted) read one other p q =
      let row : p.0 ≡ q.0 = same_some p.0 q.0 (sym p.1 ∙ q.1) in
      equal_same (Amend demand wanted) one other (p.2 ∙ ap (λ (r : Demand). amend_change r wanted) row ∙ sym q.2)
  one_change (Undo number) read one other p q =
      let also = undo_alike number p.0 q.0 p.1 q.1 p.2 q.2 p.3 q.3 other q.4 in
      undone_same (demand_at a) number p.0 (halt_at a p.0.act) (halt_at b p.0.act) p.1 p.2.limits (totals_of a p.1.material) one other p.4 also
      (one_end p.0 p.0.state (halt_at a p.0.act) (halt_at b p.0.act) p.4.end also.end (agree p.0.act) p.4.ended also.ended)
  one_change command read one other p q = equal_same command one other (p ∙ sym q)
