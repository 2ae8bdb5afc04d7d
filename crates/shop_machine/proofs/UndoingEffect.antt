-- What undoing a job does to what a content follows.
use Rattle.std.proofs.Common.{◌≡◌, ℕ, ◌≤◌, List, ◌∷◌, map, true≢false, refl, sym, ap, subst, ◌∙◌, arith, inl, inr}
use Rattle.std.specs.Prelude.{Some, None}
use Rattle.std.specs.FinMap.{FinMap, get, insert}
use Rattle.std.specs.Ordering.{nat_cmp}
use Rattle.cut_measure.specs.Names.{Name, name_cmp}
use Rattle.cut_tree.specs.declared.lay.Row.{Row}
use Rattle.cut_tree.specs.Tree.{Tree, count_of}
use Rattle.cut_tree.specs.Cells.{Outcome}
use Rattle.cut_tree.specs.Stops.{outcome_of}
use Rattle.shop_records.specs.declared.records.Material.{Material}
use Rattle.shop_records.specs.declared.records.Part.{Part}
use Rattle.shop_records.specs.declared.records.State.TheVariants.{Standing, Cut, Undone}
use Rattle.shop_records.specs.declared.records.Job.{Job}
use Rattle.shop_records.specs.declared.records.JobState.TheVariants as job_state
use Rattle.shop_records.specs.declared.records.Demand.{Demand}
use Rattle.shop_records.specs.declared.changes.Change.{Change}
use Rattle.shop_records.specs.declared.messages.Message.{Message}
use Rattle.shop_records.specs.declared.messages.Command.TheVariants.{Undo}
use Rattle.shop_records.specs.Messages.{Texts}
use Rattle.shop_records.specs.Readings.{Reading}
use Rattle.shop_records.specs.Content.{Content, part_at, job_at, halt_at, demand_at, in_state, with_parts, with_demands, totals_of, changed}
use Rattle.shop_records.specs.Elements.{IsIn}
use Rattle.shop_records.specs.WellFormed.{IsWellFormed}
use Rattle.shop_machine.specs.Ending.{row_part, IsWork}
use Rattle.shop_machine.specs.Machine.{Effect, Undoes, effects, keeping}
use Rattle.shop_machine.specs.Recounts.{AreRecounted, pieces_in, with_unmade}
use Rattle.shop_machine.specs.Undoing.{undo_refusal, laid_by, undo_change, IsUndo}
use Rattle.shop_machine.specs.History.{ReceivedUnit, acts_of, ordered_lines, owner_before, undone_owner, owner_of, is_gone, HasOwner, OneOwner}
use Rattle.shop_machine.proofs.Accounts.{IsRow, IsWhole, IsOver, Follows, if_yes, if_no, row_later, row_restated, row_undone, undone_cut}
use Rattle.shop_machine.proofs.Grown.{stock_of}
use Rattle.shop_machine.proofs.Moved.{LeavesOthers, same_demand}
use Rattle.shop_machine.proofs.OrderedLines.{lines_recounted}
use Rattle.shop_machine.proofs.PutBack.{back_cases, back_still, stood_again}
use Rattle.shop_machine.proofs.Steps.{AfterAll, named, job_restated, still_over}
use Rattle.shop_machine.proofs.Undoable.{IsUndoable, there, all, undoable}

-- where each demand stands under its own number, and no more was laid than the tree's pieces
pub no_unmade : (old : FinMap nat_cmp Demand) (tree : Tree) (laid : List Row) → ((d : ℕ) → pieces_in d laid ≤ count_of tree d)
    → ((number : ℕ) (d : Demand) → get old number ≡ Some d → d.number ≡ number) → LeavesOthers old (with_unmade laid) tree
no_unmade old tree laid few numbered number d is outgoing =
    let less = few d.number in
    let own : count_of tree d.number ≡ count_of tree number = ap (count_of tree) (numbered number d is) in
    same_demand (with_unmade laid 0 d) d refl refl refl refl refl refl refl refl refl (omega (arith, less, own, outgoing))

module _ (texts : Texts) (message : Message) (earlier : List Effect) (old : Content) (well_formed : IsWellFormed texts old) (f : Follows earlier old)
    (j : Job) (row : Part) (material : Material) (outcome : ℕ → Outcome) (laid : List Row) (u : IsUndoable old j row material outcome laid) where
  abbrev done : Effect
  done = Undoes j.act

  all_named : (n : Name) (p : Part) → get old.parts n ≡ Some p → p.name ≡ n
  all_named = named texts message earlier old well_formed f

  here : (r : Row) → IsIn r laid → part_at old (record { act = j.act; node = r.node }) ≡ Some (row_part row material.limits j.act r)
  here = there old all_named j row material outcome laid u

  theirs : (n : Name) (q : Part) → get old.parts n ≡ Some q → n.act ≡ j.act → (r : Row) × IsIn r laid × (q ≡ row_part row material.limits j.act r)
  theirs = all old all_named j row material outcome laid u

  abbrev new_parts : FinMap name_cmp Part
  new_parts = with_parts (map (in_state (Undone j.act)) (map (row_part row material.limits j.act) laid)) (insert old.parts row.name (in_state Standing row))

  rows_after : (n : Name) (q : Part) → get new_parts n ≡ Some q → IsRow (done ∷ earlier) q
  rows_after n q k =
      elim (back_cases old.parts all_named row.name row u.on j.act u.cut material.limits j.plan.tree outcome laid u.is_laid here theirs n q k) [
        | inl c ↦ (
            let r : Row = c.1.0 in
            let part : Part = row_part row material.limits j.act r in
            subst (IsRow (done ∷ earlier)) (sym c.1.2)
            (row_later done earlier (in_state (Undone j.act) part) (λ job x y is. refl)
            (row_undone earlier part j.act (f.rows (record { act = j.act; node = r.node }) part (here r c.1.1)))))
        | inr c ↦ elim c [
          | inl d ↦ subst (IsRow (done ∷ earlier)) (sym d.1) (row_later done earlier (in_state Standing row) (λ job x y is. refl) (row_restated earlier row Standing refl (f.rows row.name row u.on)))
          | inr d ↦ row_later done earlier q (λ job x y is. refl) (f.rows n q d.1.1)
        ]
      ]

  over_after : (n : Name) (q : Part) (job : ℕ) → get new_parts n ≡ Some q → q.state ≡ Cut job → IsOver (insert old.jobs j.act (record j { state = job_state.Undone })) job
  over_after n q job k cut =
      elim (back_cases old.parts all_named row.name row u.on j.act u.cut material.limits j.plan.tree outcome laid u.is_laid here theirs n q k) [
        | inl c ↦ absurd (undone_cut j.act job (sym (ap (λ (p : Part). p.state) c.1.2) ∙ cut))
        | inr c ↦ elim c [
          | inl d ↦ absurd (true≢false (ap is_gone (sym cut ∙ ap (λ (p : Part). p.state) d.1)))
          | inr d ↦ still_over texts message earlier old well_formed f j job_state.Undone refl job (f.over n q job d.1.1 cut)
        ]
      ]

  whole_after : (unit : ReceivedUnit) → IsWhole old.parts unit → IsWhole new_parts unit
  whole_after unit whole =
      let still = back_still old.parts all_named row.name row u.on j.act u.cut material.limits j.plan.tree outcome laid u.is_laid here theirs unit.name whole.row whole.kept in
      record { row = in_state still.0 whole.row; kept = still.1; root = whole.root; x = whole.x; y = whole.y; size = whole.size }

  -- each cell has one owner again: those of the part the one that it had before the job's end
  cell_after : (unit : Name) (x y : ℕ) → OneOwner earlier old unit x y → HasOwner new_parts (owner_of (done ∷ earlier) unit x y) unit x y
  cell_after unit x y o =
      stood_again old.parts all_named row.name row u.on j.act u.cut material.limits j.plan.tree outcome laid u.is_laid here theirs
      (owner_of earlier unit x y) (owner_of (done ∷ earlier) unit x y) unit x y
      (λ w e act has.
      let was = (f.rows row.name row u.on).cut j.act x y u.cut has.right has.left has.below has.above in (
        was.owner,
        (
          ap (undone_owner j.act (owner_before earlier j.act unit x y)) e
              ∙ if_yes w.name.act j.act (owner_before earlier j.act unit x y) (Some w) act
              ∙ ap (λ n. owner_before earlier j.act n x y) (sym has.root) ∙ was.found,
          was.same,
        ),
      ))
      (λ w e other.
      ap (undone_owner j.act (owner_before earlier j.act unit x y)) e ∙ if_no w.name.act j.act (owner_before earlier j.act unit x y) (Some w) other)
      o

  -- what the content follows after it
  pub follows_undo : (rows : List Demand) → AreRecounted (demand_at old) (with_unmade laid) j.plan.tree rows → (after : Content)
      → after ≡ record old {
        parts = new_parts;
        jobs = insert old.jobs j.act (record j { state = job_state.Undone });
        demands = with_demands rows old.demands;
        kept = after.kept;
        imports = after.imports;
      } → Follows (done ∷ earlier) after
  follows_undo rows recounted after is =
      subst (Follows (done ∷ earlier)) (sym is)
      (record {
        acts = (let e : old.last_act ≡ acts_of earlier = f.acts in omega arith);
        numbers = f.numbers;
        lines = lines_recounted (ordered_lines earlier) old.demands (with_unmade laid) j.plan.tree rows recounted
            (no_unmade old.demands j.plan.tree laid u.few (λ number d is. (well_formed.demands number d is).numbered)) (λ n d. refl) f.lines;
        params = f.params;
        rows = rows_after;
        jobs = job_restated texts message earlier old well_formed f j job_state.Undone u.found;
        wholes = λ unit i. whole_after unit (f.wholes unit i);
        cells = λ unit i x y across down. cell_after unit.name x y (f.cells unit i x y across down);
        over = over_after;
      })

-- ---- the command

module _ (texts : Texts) (message : Message) (earlier : List Effect) (old : Content) (well_formed : IsWellFormed texts old) (f : Follows earlier old) where
  pub undoes : (number : ℕ) (read : Reading) (change : Change) (j : Job) (part : Part) (material : Material) → undo_refusal old (job_at old number) ≡ None
      → IsWork old number j part material → IsUndo j (halt_at old j.act) part material.limits (totals_of old part.material) (demand_at old) change
      → AfterAll texts message earlier old well_formed f (effects (Undo number) read) change
  undoes number read change j part material allowed work made =
      let is : j.act ≡ number = (well_formed.jobs number j work.found).numbered in
      subst (λ n. AfterAll texts message earlier old well_formed f (effects (Undo n) read) change) is
      (subst (AfterAll texts message earlier old well_formed f (effects (Undo j.act) read)) (sym made.is)
      (follows_undo texts message earlier old well_formed f j part material (outcome_of made.end) (laid_by made.end j)
      (undoable old (stock_of texts old well_formed) number j part material work made.end made.ended allowed) made.rows made.recounted
      (changed old (keeping texts message (undo_change made.end j part material.limits (totals_of old part.material) made.rows))) refl))
