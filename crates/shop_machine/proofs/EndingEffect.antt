-- What the end of a job does to what a content follows.
use Rattle.std.proofs.Common.{◌≡◌, ℕ, ◌+◌, ◌≤◌, true≢false, List, ◌∷◌, map, refl, sym, ap, subst, ◌∙◌, arith, inl, inr, true, false, ◌⊎◌}
use Rattle.std.specs.Prelude.{Option, Some, None, if◌then◌else◌}
use Rattle.std.specs.FinMap.{FinMap, get, insert, nat_cmp-IsAntisymmetric}
use Rattle.std.specs.Cmp.{nat_cmp_total}
use Rattle.cut_measure.specs.Names.{Name, name_cmp}
use Rattle.cut_measure.specs.Measures.{CutParams}
use Rattle.cut_tree.specs.declared.lay.Row.{Row}
use Rattle.cut_tree.specs.declared.halts.Halt.{Halt}
use Rattle.cut_tree.specs.declared.halts.Stop.{Stop}
use Rattle.cut_tree.specs.declared.halts.Stop.TheVariants as stop
use Rattle.cut_tree.specs.Tree.{count_of}
use Rattle.cut_tree.specs.Cells.{Outcome, location_of}
use Rattle.cut_tree.specs.Stops.{outcome_of, halted}
use Rattle.cut_tree.specs.Laying.{IsLaid}
use Rattle.shop_records.specs.declared.records.Material.{Material}
use Rattle.shop_records.specs.declared.records.Part.{Part}
use Rattle.shop_records.specs.declared.records.State.TheVariants.{Standing, Reserved, Cut}
use Rattle.shop_records.specs.declared.records.Job.{Job}
use Rattle.shop_records.specs.declared.records.JobState.TheVariants as job_state
use Rattle.shop_records.specs.declared.records.Demand.{Demand}
use Rattle.shop_records.specs.declared.records.Totals.{Totals}
use Rattle.shop_records.specs.declared.changes.Change.{Change}
use Rattle.shop_records.specs.declared.messages.Message.{Message}
use Rattle.shop_records.specs.declared.messages.Command.{Command}
use Rattle.shop_records.specs.declared.messages.Command.TheVariants.{Done, Break, Release}
use Rattle.shop_records.specs.Messages.{Texts}
use Rattle.shop_records.specs.Columns.{is_waiting, state_of}
use Rattle.shop_records.specs.Content.{Content, material_at, part_at, job_at, in_state, demand_at, with_parts, totals_of}
use Rattle.shop_machine.specs.Ending.{release_change, row_part, ended_state, end_change, IsEnd, IsDone, IsBroken, IsRelease, end_refusal, IsWork}
use Rattle.shop_machine.specs.Recounts.{AreRecounted, with_freed, with_laid, pieces_in}
use Rattle.shop_records.specs.WellFormed.{IsWellFormed, IsWaiting}
use Rattle.shop_machine.specs.Machine.{Effect, nothing, Ends, effects}
use Rattle.shop_machine.specs.History.{ReceivedUnit, acts_of, ordered_lines, material_params, owner_of, owner_before, is_gone, HasCellOf, IsOwner, standing_as, HasOwner, unit_material, Reservation, Owner, stands_as, owner_at, cut_owner, OneOwner}
use Rattle.shop_records.specs.Elements.{IsIn}
use Rattle.shop_records.specs.Readings.{Reading}
use Rattle.shop_records.proofs.Basics.{name_cases, same_some, get_same}
use Rattle.shop_machine.proofs.Moved.{no_freed, no_laid}
use Rattle.cut_tree.proofs.OneLaidList.{laid_few}
use Rattle.shop_machine.proofs.OrderedLines.{lines_recounted}
use Rattle.shop_machine.proofs.Cells.{Named, restated, found_cases, found_cut, kept_old, cut_up, after_cut_whole}
use Rattle.shop_machine.proofs.Accounts.{IsRow, IsWhole, reservation, Follows, never_cut, if_yes, if_no, row_later, material_is, stands_yes, stands_no}
use Rattle.shop_machine.proofs.Inside.{row_inside}
use Rattle.shop_machine.proofs.EndingStep.{job_waits, no_wait}
use Rattle.shop_machine.proofs.Steps.{After, AfterAll, named, job_restated, rows_restated, cut_restated, whole_restated, still_over}

module _ (texts : Texts) (message : Message) (earlier : List Effect) (old : Content) (well_formed : IsWellFormed texts old) (f : Follows earlier old)
    (j : Job) (row : Part) (material : Material) (found : job_at old j.act ≡ Some j) (waits : IsWaiting old j) (waits_now : is_waiting j.state ≡ true) (kept : part_at old j.part ≡ Some row) (known : material_at old row.material ≡ Some material) (outcome : ℕ → Outcome)
  where
    same_row : waits.on.row ≡ row
    same_row = same_some waits.on.row row (sym waits.on.found ∙ kept)

    same_material : waits.on.material ≡ material
    same_material = same_some waits.on.material material (sym waits.on.known ∙ ap (λ (q : Part). material_at old q.material) same_row ∙ known)

    pub reserved : row.state ≡ Reserved j.act
    reserved = ap (λ (q : Part). q.state) (sym same_row) ∙ waits.reserved

    row_named : row.name ≡ j.part
    row_named = named texts message earlier old well_formed f j.part row kept

    pub kept_row : part_at old row.name ≡ Some row
    kept_row = ap (get old.parts) row_named ∙ kept

    pub on_part : (laid : List Row) → IsLaid j.plan.tree j.plan.w j.plan.h j.plan.kerf outcome laid → IsLaid j.plan.tree row.size.w row.size.h material.limits.kerf outcome laid
    on_part laid is =
        let wide : j.plan.w ≡ row.size.w = waits.on.width ∙ ap (λ (q : Part). q.size.w) same_row in
        let high : j.plan.h ≡ row.size.h = waits.on.height ∙ ap (λ (q : Part). q.size.h) same_row in
        let kerf : j.plan.kerf ≡ material.limits.kerf = waits.on.kerf ∙ ap (λ (m : Material). m.limits.kerf) same_material in
        subst (λ k. IsLaid j.plan.tree row.size.w row.size.h k outcome laid) kerf
        (subst (λ h. IsLaid j.plan.tree row.size.w h j.plan.kerf outcome laid) high
        (subst (λ w. IsLaid j.plan.tree w j.plan.h j.plan.kerf outcome laid) wide is))

    -- the parameters by which the part is cut are those of its unit's material
    params_here : (u : Name) → row.root ≡ u → material_params earlier (unit_material earlier u) ≡ Some material.limits
    params_here u e =
        let base : IsRow earlier row = f.rows row.name row kept_row in
        ap (λ n. material_params earlier (unit_material earlier n)) (sym e ∙ sym base.root)
        ∙ ap (material_params earlier) (material_is earlier base.unit base.received ∙ base.material) ∙ f.params row.material material known

    cut_elsewhere : (made : Reservation) (params : Option CutParams) (w : Owner) → stands_as made.part w ≡ false → cut_owner (Some made) params outcome j.act (Some w) ≡ Some w
    cut_elsewhere made None w e = refl
    cut_elsewhere made (Some params) w e =
        ap (λ b. if b then Some (owner_at params j.act (location_of made.tree w.size.w w.size.h params.kerf outcome 0 0 w.x w.y)) else Some w) e

    cut_here : (made : Reservation) (params : CutParams) (w : Owner) → stands_as made.part w ≡ true
        → cut_owner (Some made) (Some params) outcome j.act (Some w) ≡ Some (owner_at params j.act (location_of made.tree w.size.w w.size.h params.kerf outcome 0 0 w.x w.y))
    cut_here made params w e =
        ap (λ b. if b then Some (owner_at params j.act (location_of made.tree w.size.w w.size.h params.kerf outcome 0 0 w.x w.y)) else Some w) e

    module _ (rows : List Demand) (laid : List Row) (is_laid : IsLaid j.plan.tree row.size.w row.size.h material.limits.kerf outcome laid) where
      abbrev done : Effect
      done = Ends j.act outcome

      abbrev new_parts : FinMap name_cmp Part
      new_parts = with_parts (map (row_part row material.limits j.act) laid) (insert old.parts row.name (in_state (Cut j.act) row))

      all_named : Named old.parts
      all_named = named texts message earlier old well_formed f

      cases : (n : Name) (q : Part) → get new_parts n ≡ Some q
          → ((r : Row) × IsIn r laid × (q ≡ row_part row material.limits j.act r) × (q.name ≡ n)) ⊎ (((n ≡ row.name) × (q ≡ in_state (Cut j.act) row)) ⊎ ((n ≡ row.name → ⊥) × (get old.parts n ≡ Some q)))
      cases = found_cases old.parts all_named row.name row kept_row (ap is_gone reserved) (ap standing_as reserved) j.act waits.none_yet material.limits j.plan.tree outcome laid is_laid

      new_row : (r : Row) → IsIn r laid → IsRow (done ∷ earlier) (row_part row material.limits j.act r)
      new_row r i =
          let base : IsRow earlier row = f.rows row.name row kept_row in
          let inside = row_inside j.plan.tree row.size.w row.size.h material.limits.kerf outcome laid is_laid r i in
          let a = inside.right in let b = inside.bottom in
          let c : row.x + row.size.w ≤ base.unit.size.w = base.across in let d : row.y + row.size.h ≤ base.unit.size.h = base.down in
          record { unit = base.unit; received = base.received; root = base.root; material = base.material; across = omega arith; down = omega arith; cut = never_cut (done ∷ earlier) (row_part row material.limits j.act r) (after_cut_whole material.limits r.owner (record { w = r.w; h = r.h })) }

      -- the part that is cut stood before this end
      cut_row : IsRow (done ∷ earlier) (in_state (Cut j.act) row)
      cut_row =
          let base : IsRow earlier row = f.rows row.name row kept_row in
          record {
            unit = base.unit;
            received = base.received;
            root = base.root;
            material = base.material;
            across = base.across;
            down = base.down;
            cut = λ job x y is left right top bottom.
                let own : j.act ≡ job = ap state_of is in
                let root : base.unit.name ≡ row.root = base.root in
                let o = f.cells base.unit base.received x y (omega (arith, right, base.across)) (omega (arith, bottom, base.down)) in
                let has : HasCellOf base.unit.name x y row = record { root = sym root; whole = ap is_gone reserved; right = left; left = right; below = top; above = bottom } in
                let it : row ≡ o.part = o.alone row.name row kept_row has in
                let same : IsOwner o.owner x y row = subst (IsOwner o.owner x y) (sym it) o.same in
                record {
                  owner = o.owner;
                  found = if_yes j.act job (owner_of earlier row.root x y) (owner_before earlier job row.root x y) own ∙ ap (λ u. owner_of earlier u x y) (sym root) ∙ o.owned;
                  same = record { name = same.name; state = ap standing_as (sym reserved) ∙ same.state; size = same.size; across = same.across; down = same.down };
                };
          }

      -- no other part was cut by this job
      ends_other : (n : Name) (q : Part) (job x y : ℕ) → get old.parts n ≡ Some q → q.state ≡ Cut job
          → owner_before (done ∷ earlier) job q.root x y ≡ owner_before earlier job q.root x y
      ends_other n q job x y k cut =
          let was = f.over n q job k cut in
          if_no j.act job (owner_of earlier q.root x y) (owner_before earlier job q.root x y)
          (λ e.
          let it : was.job ≡ j = same_some was.job j (sym was.found ∙ ap (get old.jobs) (sym e) ∙ found) in
          true≢false (sym (ap (λ (v : Job). is_waiting v.state) it ∙ waits_now) ∙ was.over))

      rows_after : (n : Name) (q : Part) → get new_parts n ≡ Some q → IsRow (done ∷ earlier) q
      rows_after n q k =
          elim (cases n q k) [
            | inl g ↦ subst (IsRow (done ∷ earlier)) (sym g.2) (new_row g.0 g.1)
            | inr g ↦ elim g [
              | inl c ↦ subst (IsRow (done ∷ earlier)) (sym c.1) (cut_row)
              | inr c ↦ row_later done earlier q (λ job x y is. ends_other n q job x y c.1 is) (f.rows n q c.1)
            ]
          ]

      cell_after : (u : Name) (x y : ℕ) → OneOwner earlier old u x y → HasOwner new_parts (owner_of (Ends j.act outcome ∷ earlier) u x y) u x y
      cell_after u x y o =
          let made : Reservation = reservation j in
          let found' : Option Owner = owner_of earlier u x y in
          let cut : owner_of (Ends j.act outcome ∷ earlier) u x y ≡ cut_owner (Some made) (material_params earlier (unit_material earlier u)) outcome j.act (owner_of earlier u x y) =
          ap (λ m. cut_owner m (material_params earlier (unit_material earlier u)) outcome j.act (owner_of earlier u x y)) (f.jobs j.act j found) in
          cut_up old.parts all_named row.name row kept_row (ap is_gone reserved) (ap standing_as reserved) j.act waits.none_yet material.limits j.plan.tree outcome laid is_laid
          (owner_of earlier u x y) (owner_of (Ends j.act outcome ∷ earlier) u x y) u x y
          (λ w root e named' stands.
          cut ∙ ap (cut_owner (Some made) (material_params earlier (unit_material earlier u)) outcome j.act) e
          ∙ ap (λ r. cut_owner (Some made) r outcome j.act (Some w)) (params_here u root)
          ∙ cut_here made material.limits w (stands_yes j.part w (named' ∙ row_named) stands))
          (λ w e other.
          cut ∙ ap (cut_owner (Some made) (material_params earlier (unit_material earlier u)) outcome j.act) e
          ∙ cut_elsewhere made (material_params earlier (unit_material earlier u)) w (stands_no j.part w (λ is. other (is ∙ sym row_named))))
          o

      whole_after : (unit : ReceivedUnit) → IsWhole old.parts unit → IsWhole new_parts unit
      whole_after unit u =
          elim (name_cases unit.name row.name) [
            | inl y ↦ (
                let is : u.row ≡ row = same_some u.row row (sym u.kept ∙ ap (get old.parts) y.0 ∙ kept_row) in
                record {
                  row = in_state (Cut j.act) row;
                  kept = ap (get new_parts) y.0 ∙ found_cut old.parts all_named row.name row kept_row (ap is_gone reserved) (ap standing_as reserved) j.act waits.none_yet material.limits j.plan.tree outcome laid is_laid;
                  root = ap (λ (q : Part). q.root) (sym is) ∙ u.root;
                  x = ap (λ (q : Part). q.x) (sym is) ∙ u.x;
                  y = ap (λ (q : Part). q.y) (sym is) ∙ u.y;
                  size = ap (λ (q : Part). q.size) (sym is) ∙ u.size;
                })
            | inr off ↦ record {
              row = u.row;
              kept = kept_old old.parts all_named row.name row kept_row (ap is_gone reserved) (ap standing_as reserved) j.act waits.none_yet material.limits j.plan.tree outcome laid is_laid unit.name u.row u.kept off.0;
              root = u.root;
              x = u.x;
              y = u.y;
              size = u.size;
            }
          ]

      few_laid : (d : ℕ) → pieces_in d laid ≤ count_of j.plan.tree d
      few_laid d =
          let plan = (well_formed.jobs j.act j found).plan in
          let wide : j.plan.w ≡ row.size.w = waits.on.width ∙ ap (λ (q : Part). q.size.w) same_row in
          let high : j.plan.h ≡ row.size.h = waits.on.height ∙ ap (λ (q : Part). q.size.h) same_row in
          let kerf : j.plan.kerf ≡ material.limits.kerf = waits.on.kerf ∙ ap (λ (m : Material). m.limits.kerf) same_material in
          let in_plan = subst (λ k. IsLaid j.plan.tree j.plan.w j.plan.h k outcome laid) (sym kerf)
          (subst (λ h. IsLaid j.plan.tree j.plan.w h material.limits.kerf outcome laid) (sym high)
          (subst (λ w. IsLaid j.plan.tree w row.size.h material.limits.kerf outcome laid) (sym wide) is_laid)) in
          laid_few j.plan.tree j.plan.w j.plan.h j.plan.kerf outcome laid d plan.shaped plan.some_width plan.some_height in_plan

      pub by_end : (stop : Stop) (t : Totals) → AreRecounted (demand_at old) (with_laid laid) j.plan.tree rows → After texts message earlier old well_formed f done (end_change stop j row material.limits t laid rows)
      by_end stop t recounted = record {
        acts = (let e : old.last_act ≡ acts_of earlier = f.acts in omega arith);
        numbers = f.numbers;
        lines = lines_recounted (ordered_lines earlier) old.demands (with_laid laid) j.plan.tree rows recounted
            (no_laid old.demands j.plan.tree laid few_laid (λ number d is. (well_formed.demands number d is).numbered)) (λ n d. refl) f.lines;
        params = f.params;
        rows = rows_after;
        jobs = job_restated texts message earlier old well_formed f j (ended_state stop) found;
        wholes = λ unit i. whole_after unit (f.wholes unit i);
        cells = λ unit i x y across down. cell_after unit.name x y (f.cells unit i x y across down);
        over = λ n q job k is. elim (cases n q k) [
          | inl g ↦ absurd (true≢false (ap is_gone (sym is ∙ ap (λ (p : Part). p.state) g.2) ∙ after_cut_whole material.limits g.0.owner (record { w = g.0.w; h = g.0.h })))
          | inr g ↦ elim g [
            | inl c ↦ (
                let own : j.act ≡ job = ap state_of (sym (ap (λ (p : Part). p.state) c.1) ∙ is) in
                record {
                  job = record j { state = ended_state stop };
                  found = ap (get (insert old.jobs j.act (record j { state = ended_state stop }))) (sym own) ∙ get_same nat_cmp_total nat_cmp-IsAntisymmetric old.jobs j.act (record j { state = ended_state stop });
                  over = no_wait stop;
                })
            | inr c ↦ still_over texts message earlier old well_formed f j (ended_state stop) (no_wait stop) job (f.over n q job c.1 is)
          ]
        ];
      }

-- ---- each end

module _ (texts : Texts) (message : Message) (earlier : List Effect) (old : Content) (well_formed : IsWellFormed texts old) (f : Follows earlier old) where
  abbrev Next : Effect → Change → Type 0
  Next = After texts message earlier old well_formed f

  pub by_release : (j : Job) (row : Part) (rows : List Demand) → AreRecounted (demand_at old) with_freed j.plan.tree rows → job_at old j.act ≡ Some j → part_at old row.name ≡ Some row → row.state ≡ Reserved j.act
      → Next nothing (release_change j row rows)
  by_release j row rows recounted found kept reserved = record {
    acts = (let e : old.last_act ≡ acts_of earlier = f.acts in omega arith);
    numbers = f.numbers;
    lines = lines_recounted (ordered_lines earlier) old.demands with_freed j.plan.tree rows recounted (no_freed old.demands j.plan.tree) (λ n d. refl) f.lines;
    params = f.params;
    rows = rows_restated texts message earlier old well_formed f row Standing refl kept nothing (λ p job x y is. refl);
    jobs = job_restated texts message earlier old well_formed f j job_state.Released found;
    wholes = λ unit i. whole_restated texts message earlier old well_formed f row Standing refl kept unit (f.wholes unit i);
    cells = λ unit i x y across down.
        restated old.parts (named texts message earlier old well_formed f) row.name row kept (ap is_gone reserved) Standing refl (ap standing_as (sym reserved)) (owner_of earlier unit.name x y) unit.name x y
        (f.cells unit i x y across down);
    over = λ n q job k cut.
        still_over texts message earlier old well_formed f j job_state.Released refl job
        (f.over n q job (cut_restated texts message earlier old well_formed f row Standing refl kept n q job k cut) cut);
  }

  abbrev Then : Command → Reading → Change → Type 0
  Then command read change = AfterAll texts message earlier old well_formed f (effects command read) change

  waiting : (stop : Stop) (number : ℕ) (j : Job) → job_at old number ≡ Some j → end_refusal old stop (job_at old number) ≡ None → IsWaiting old j
  waiting stop number j found allowed = (well_formed.jobs number j found).waits (job_waits old stop number j found allowed)

  numbered : (number : ℕ) (j : Job) → job_at old number ≡ Some j → j.act ≡ number
  numbered number j found = (well_formed.jobs number j found).numbered

  ended : (stop : Stop) (number : ℕ) (change : Change) (j : Job) (part : Part) (material : Material) → end_refusal old stop (job_at old number) ≡ None
      → IsWork old number j part material → IsEnd stop j part material.limits (totals_of old part.material) (demand_at old) change → Next (Ends number (outcome_of stop)) change
  ended stop number change j part material allowed work made =
      let waits : IsWaiting old j = waiting stop number j work.found allowed in
      let now = job_waits old stop number j work.found allowed in
      let is : j.act ≡ number = numbered number j work.found in
      let found : job_at old j.act ≡ Some j = ap (job_at old) is ∙ work.found in
      subst (λ n. Next (Ends n (outcome_of stop)) change) is
      (subst (Next (Ends j.act (outcome_of stop))) (sym made.is)
      (by_end texts message earlier old well_formed f j part material found waits now work.on work.of (outcome_of stop) made.rows made.laid
      (on_part texts message earlier old well_formed f j part material found waits now work.on work.of (outcome_of stop) made.laid made.is_laid)
      stop (totals_of old part.material) made.recounted))

  pub ends : (number : ℕ) (read : Reading) (change : Change) (j : Job) (part : Part) (material : Material) → end_refusal old stop.All (job_at old number) ≡ None
      → IsWork old number j part material → IsDone j part material.limits (totals_of old part.material) (demand_at old) change → Then (Done number) read change
  ends number read change j part material allowed work made = ended stop.All number change j part material allowed work made

  pub breaks : (number : ℕ) (halt : Halt) (rest : Option ℕ) (read : Reading) (change : Change) (j : Job) (part : Part) (material : Material) → end_refusal old (halted halt rest) (job_at old number) ≡ None
      → IsWork old number j part material → IsBroken halt rest j part material.limits (totals_of old part.material) (demand_at old) change → Then (Break number halt rest) read change
  breaks number halt rest read change j part material allowed work made = ended (halted halt rest) number change j part material allowed work made

  pub releases : (number : ℕ) (read : Reading) (change : Change) (j : Job) (part : Part) (material : Material) → end_refusal old stop.All (job_at old number) ≡ None
      → IsWork old number j part material → IsRelease j part (demand_at old) change → Then (Release number) read change
  releases number read change j part material allowed work made =
      let waits : IsWaiting old j = waiting stop.All number j work.found allowed in
      let now = job_waits old stop.All number j work.found allowed in
      let is : j.act ≡ number = numbered number j work.found in
      let found : job_at old j.act ≡ Some j = ap (job_at old) is ∙ work.found in
      subst (λ n. Then (Release n) read change) is
      (subst (Then (Release j.act) read) (sym made.is)
      (by_release j part made.rows made.recounted found
      (kept_row texts message earlier old well_formed f j part material found waits now work.on work.of (outcome_of stop.All))
      (reserved texts message earlier old well_formed f j part material found waits now work.on work.of (outcome_of stop.All))))
