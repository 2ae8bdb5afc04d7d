-- What is decided from rows that were found is what is decided over the content.
use Rattle.std.proofs.Common.{◌≡◌, ℕ, ◌+◌, List, Option, Some, None, Ok, Err, inr, refl, sym, ap, subst, ◌∙◌}
use Rattle.std.specs.Prelude.{Bool, true, false, Result, MatchOption}
use Rattle.cut_measure.specs.Names.{Name}
use Rattle.cut_tree.specs.declared.halts.Stop.{Stop}
use Rattle.cut_tree.specs.Patterns.{Pattern}
use Rattle.shop_records.specs.declared.records.Material.{Material}
use Rattle.shop_records.specs.declared.records.Part.{Part}
use Rattle.shop_machine.specs.declared.recounts.FoundLeaf.{FoundLeaf}
use Rattle.shop_records.specs.declared.records.Job.{Job}
use Rattle.shop_records.specs.declared.records.JobBegin.{JobBegin}
use Rattle.shop_records.specs.declared.records.JobHalt.{JobHalt}
use Rattle.shop_records.specs.declared.records.Totals.{Totals}
use Rattle.shop_files.specs.declared.orders.OrderLine.{OrderLine}
use Rattle.shop_records.specs.declared.messages.Command.{Command}
use Rattle.shop_records.specs.declared.messages.Command.TheVariants.{AddOrder, Reserve, Import, Undo, Note, Extend, Begin}
use Rattle.shop_records.specs.declared.changes.Change.{Change}
use Rattle.shop_records.specs.declared.refusals.Refusal.{Refusal}
use Rattle.shop_records.specs.declared.refusals.Refusal.TheVariants.{NoMemory, StoreFault}
use Rattle.shop_records.specs.Messages.{Texts}
use Rattle.shop_records.specs.Readings.{Reading, unread, Lines, Problem, Again, plan_in, reading_of}
use Rattle.shop_records.specs.Content.{Content, material_at, part_at, job_at, has_order, import_at, demand_at, material_of, part_of_job, totals_of, totals_for, begun_at, demands_of}
use Rattle.cut_measure.specs.Measures.{Size}
use Rattle.shop_files.specs.declared.problems.Piece.{Piece}
use Rattle.shop_records.specs.declared.imports.Form.{Form}
use Rattle.shop_records.specs.declared.imports.Form.TheVariants.{Csv, Cgcut}
use Rattle.shop_records.specs.declared.imports.ImportRow.{ImportRow}
use Rattle.shop_machine.specs.Importing.{IsRepeat, IsImportReading, problem_lines, unread_refusal, again_refusal, problem_refusal, lines_change, problem_change}
use Rattle.shop_records.specs.Keeping.{StoresReply}
use Rattle.shop_machine.specs.Decisions.{Decides, no_change}
use Rattle.shop_machine.specs.Machine.{Reads, refusal_of, Makes}
use Rattle.shop_machine.specs.Ending.{IsWork, job_refusal, end_refusal}
use Rattle.shop_machine.specs.Reserving.{IsReservation, reserve_refusal}
use Rattle.shop_machine.specs.Ordering.{order_refusal, order_change}
use Rattle.shop_machine.specs.Noting.{note_refusal, note_change}
use Rattle.shop_machine.specs.Extending.{extend_refusal, extend_change}
use Rattle.shop_machine.specs.Beginning.{begin_refusal, begin_change}
use Rattle.shop_machine.specs.Undoing.{undo_refusal, taking_refusal, IsUndo}
use Rattle.shop_machine.specs.Retiring.{state_change}
use Rattle.shop_records.specs.declared.records.State.{State}
use Rattle.shop_records.specs.declared.messages.Reply.{Reply}
use Rattle.shop_desk.specs.Decided.{IsJudged, AreJobRows, halt_for, left_for}

-- a decision over the content's own refusal, what the text stands for being read
module _ (texts : Texts) (m : Content) (command : Command) (read : Reading) (reads : Reads texts m command read) (before after : ℕ) (first : Option Refusal) (same : refusal_of m command read ≡ first)
    (E : Change → Type 0) (makes : (change : Change) → E change → Makes m command read change) where
  pub decided_by : (result : Result Change Refusal) → Decides first E result → IsJudged texts m command before result after
  decided_by (Ok change) d = record { decision = (read, reads, same ∙ d.0, makes change d.1); store_fault_justified = tt }
  decided_by (Err refusal) d =
      record { decision = λ n s. (read, reads, same ∙ d n); store_fault_justified = λ e. inr (read, reads, same ∙ d (λ f. memory refusal e f) ∙ ap Some e) }
    where
      memory : (refusal : Refusal) → refusal ≡ StoreFault → refusal ≡ NoMemory → ⊥
      memory refusal e f = cc

-- the rows of a job
module _ (m : Content) (number : ℕ) (found : Option Job) (on : Option Part) (of : Option Material) (is_j : found ≡ job_at m number) (is_p : on ≡ part_of_job m found) (is_m : of ≡ material_of m on)
    (totals : Totals) (is_t : totals ≡ totals_for m on) where
  same_end : (stop : Stop) → end_refusal m stop (job_at m number) ≡ job_refusal stop found on of (demand_at m) totals
  same_end stop =
      ap (end_refusal m stop) (sym is_j) ∙ ap (λ p. job_refusal stop found p (material_of m p) (demand_at m) (totals_for m p)) (sym is_p)
      ∙ ap (λ t. job_refusal stop found on t (demand_at m) (totals_for m on)) (sym is_m) ∙ ap (job_refusal stop found on of (demand_at m)) (sym is_t)

  work_by : (E : Totals → Job → Part → Material → Type 0) → MatchOption found ⊥ (λ j. MatchOption on ⊥ (λ p. MatchOption of ⊥ (λ t. E totals j p t)))
      → (j : Job) × (part : Part) × (material : Material) × IsWork m number j part material × E (totals_of m part.material) j part material
  work_by E it = by found on of is_j is_p is_m is_t it
    where
      by : (found : Option Job) (on : Option Part) (of : Option Material) → found ≡ job_at m number → on ≡ part_of_job m found → of ≡ material_of m on → totals ≡ totals_for m on
          → MatchOption found ⊥ (λ j. MatchOption on ⊥ (λ p. MatchOption of ⊥ (λ t. E totals j p t)))
          → (j : Job) × (part : Part) × (material : Material) × IsWork m number j part material × E (totals_of m part.material) j part material
      by None on of a b d e it = absurd it
      by (Some j) None of a b d e it = absurd it
      by (Some j) (Some p) None a b d e it = absurd it
      by (Some j) (Some p) (Some t) a b d e it = (j, p, t, record { found = sym a; on = sym b; of = sym d }, subst (λ (x : Totals). E x j p t) e it)

-- the end of a job, by its rows
module _ (m : Content) (number : ℕ) (found : Option Job) (on : Option Part) (of : Option Material) (totals : Totals) (leaves : List FoundLeaf) (rows : AreJobRows m number found on of totals leaves)
    (stop : Stop) (texts : Texts) (command : Command) (reads : Reads texts m command unread) (same : refusal_of m command unread ≡ end_refusal m stop (job_at m number)) (E : Change → Totals → Job → Part → Material → Type 0)
    (makes : (change : Change) → (j : Job) × (part : Part) × (material : Material) × IsWork m number j part material × E change (totals_of m part.material) j part material → Makes m command unread change) where
  abbrev Ended : Change → Type 0
  Ended change = MatchOption found ⊥ (λ j. MatchOption on ⊥ (λ p. MatchOption of ⊥ (λ t. E change totals j p t)))

  refused : refusal_of m command unread ≡ job_refusal stop found on of (demand_at m) totals
  refused = same ∙ same_end m number found on of rows.of_job rows.of_part rows.of_material totals rows.of_totals stop

  ended : (change : Change) → Ended change → Makes m command unread change
  ended change it = makes change (work_by m number found on of rows.of_job rows.of_part rows.of_material totals rows.of_totals (E change) it)

  pub end_decided : (before after : ℕ) (result : Result Change Refusal) → Decides (job_refusal stop found on of (demand_at m) totals) Ended result → IsJudged texts m command before result after
  end_decided before after = decided_by texts m command unread reads before after _ refused Ended ended

-- the rows of a reservation
module _ (m : Content) (part : Name) (text : List ℕ) (row : Option Part) (material : Option Material) (read : Option Pattern) (act : ℕ)
    (is_row : row ≡ part_at m part) (is_m : material ≡ material_of m row) (is_act : act ≡ m.last_act + 1) where
  plan_read : (o : Option Pattern) → plan_in (reading_of o) ≡ o
  plan_read None = refl
  plan_read (Some plan) = refl

  pub same_reserve : refusal_of m (Reserve part text) (reading_of read) ≡ reserve_refusal row material read (demand_at m) act
  same_reserve =
      ap (λ o. reserve_refusal (part_at m part) (material_of m (part_at m part)) o (demand_at m) (m.last_act + 1)) (plan_read read)
      ∙ ap (λ r. reserve_refusal r (material_of m r) read (demand_at m) (m.last_act + 1)) (sym is_row)
      ∙ ap (λ t. reserve_refusal row t read (demand_at m) (m.last_act + 1)) (sym is_m) ∙ ap (λ n. reserve_refusal row material read (demand_at m) n) (sym is_act)

  pub reserve_by : (change : Change) → MatchOption row ⊥ (λ r. MatchOption read ⊥ (λ p. IsReservation r p (demand_at m) act change)) → Makes m (Reserve part text) (reading_of read) change
  reserve_by change it = by row read is_row refl it
    where
      by : (row : Option Part) (o : Option Pattern) → row ≡ part_at m part → reading_of read ≡ reading_of o → MatchOption row ⊥ (λ r. MatchOption o ⊥ (λ p. IsReservation r p (demand_at m) act change)) → Makes m (Reserve part text) (reading_of read) change
      by None o a b it = absurd it
      by (Some r) None a b it = absurd it
      by (Some r) (Some p) a b it = (r, p, sym a, b, subst (λ n. IsReservation r p (demand_at m) n change) is_act it)

-- the row of a part that as a whole gets another state
module _ (m : Content) (part : Name) (row : Option Part) (totals : Totals) (is_row : row ≡ part_at m part) (is_totals : totals ≡ totals_for m row) where
  same_refusal : (refusal : Option Part → Totals → Option Refusal) → refusal (part_at m part) (totals_for m (part_at m part)) ≡ refusal row totals
  same_refusal refusal = ap (λ r. refusal r (totals_for m r)) (sym is_row) ∙ ap (refusal row) (sym is_totals)

  state_by : (s : State) (answer : Name → Reply) (change : Change) → MatchOption row ⊥ (λ r. change ≡ state_change s r totals (answer r.name))
      → (r : Part) × (part_at m part ≡ Some r) × (change ≡ state_change s r (totals_of m r.material) (answer r.name))
  state_by s answer change it = by row is_row is_totals it
    where
      by : (row : Option Part) → row ≡ part_at m part → totals ≡ totals_for m row → MatchOption row ⊥ (λ r. change ≡ state_change s r totals (answer r.name))
          → (r : Part) × (part_at m part ≡ Some r) × (change ≡ state_change s r (totals_of m r.material) (answer r.name))
      by None a e it = absurd it
      by (Some r) a e it = (r, sym a, it ∙ ap (λ (t : Totals). state_change s r t (answer r.name)) e)

  module _ (texts : Texts) (command : Command) (reads : Reads texts m command unread) (refusal : Option Part → Totals → Option Refusal) (s : State) (answer : Name → Reply)
      (same : refusal_of m command unread ≡ refusal (part_at m part) (totals_for m (part_at m part)))
      (makes : (change : Change) → (r : Part) × (part_at m part ≡ Some r) × (change ≡ state_change s r (totals_of m r.material) (answer r.name)) → Makes m command unread change) where
    abbrev IsStateSet : Change → Type 0
    IsStateSet change = MatchOption row ⊥ (λ r. change ≡ state_change s r totals (answer r.name))

    turned : (change : Change) → IsStateSet change → Makes m command unread change
    turned change it = makes change (state_by s answer change it)

    pub state_decided : (before after : ℕ) (result : Result Change Refusal) → Decides (refusal row totals) IsStateSet result → IsJudged texts m command before result after
    state_decided before after = decided_by texts m command unread reads before after _ (same ∙ same_refusal refusal) IsStateSet turned

-- the lines of an order
module _ (m : Content) (order : List ℕ) (lines found : List OrderLine) (used : Bool) (first : ℕ) (is_used : used ≡ has_order m order) (is_lines : found ≡ lines) (is_first : first ≡ m.last_demand + 1) where
  pub same_order : refusal_of m (AddOrder order lines) unread ≡ order_refusal used (material_at m) found first
  same_order =
      ap (λ u. order_refusal u (material_at m) lines (m.last_demand + 1)) (sym is_used) ∙ ap (λ ls. order_refusal used (material_at m) ls (m.last_demand + 1)) (sym is_lines)
      ∙ ap (λ n. order_refusal used (material_at m) found n) (sym is_first)

  pub order_by : (change : Change) → change ≡ order_change order found first → Makes m (AddOrder order lines) unread change
  order_by change is = is ∙ ap (λ ls. order_change order ls first) is_lines ∙ ap (λ n. order_change order lines n) is_first

-- further lines of an order
module _ (m : Content) (order : List ℕ) (lines found : List OrderLine) (used : Bool) (first : ℕ) (is_used : used ≡ has_order m order) (is_lines : found ≡ lines) (is_first : first ≡ m.last_demand + 1) where
  pub same_extend : refusal_of m (Extend order lines) unread ≡ extend_refusal used (material_at m) (demands_of m order) found first
  same_extend =
      ap (λ u. extend_refusal u (material_at m) (demands_of m order) lines (m.last_demand + 1)) (sym is_used)
      ∙ ap (λ ls. extend_refusal used (material_at m) (demands_of m order) ls (m.last_demand + 1)) (sym is_lines)
      ∙ ap (λ n. extend_refusal used (material_at m) (demands_of m order) found n) (sym is_first)

  pub extend_by : (change : Change) → change ≡ extend_change order found first → Makes m (Extend order lines) unread change
  extend_by change is = is ∙ ap (λ ls. extend_change order ls first) is_lines ∙ ap (λ n. extend_change order lines n) is_first

-- what is said of an order
module _ (m : Content) (order : List ℕ) (due : ℕ) (text said : List ℕ) (used : Bool) (is_used : used ≡ has_order m order) (is_text : said ≡ text) where
  pub same_note : refusal_of m (Note order due text) unread ≡ note_refusal used due said
  same_note = ap (λ u. note_refusal u due text) (sym is_used) ∙ ap (λ t. note_refusal used due t) (sym is_text)

  pub note_by : (change : Change) → change ≡ note_change order due said → Makes m (Note order due text) unread change
  note_by change is = is ∙ ap (λ t. note_change order due t) is_text

-- a job that is begun
module _ (m : Content) (number : ℕ) (found : Option Job) (before : Option JobBegin) (is_job : found ≡ job_at m number) (is_before : before ≡ begun_at m number) where
  pub same_begin : refusal_of m (Begin number) unread ≡ begin_refusal found
  same_begin = ap begin_refusal (sym is_job)

  pub begin_by : (change : Change) → change ≡ begin_change number before → Makes m (Begin number) unread change
  begin_by change is = is ∙ ap (λ b. begin_change number b) is_before

-- a job that is undone, by its rows
module _ (m : Content) (number : ℕ) (found : Option Job) (on : Option Part) (of : Option Material) (totals : Totals) (leaves : List FoundLeaf) (rows : AreJobRows m number found on of totals leaves)
    (halt : Option JobHalt) (left : List Part) (is_halt : halt ≡ halt_for m found) (is_left : left ≡ left_for m found) where
  by_job : (found : Option Job)
      → undo_refusal m found ≡ taking_refusal found (halt_for m found) (part_of_job m found) (material_of m (part_of_job m found)) (left_for m found) (demand_at m) (totals_for m (part_of_job m found))
  by_job None = refl
  by_job (Some j) = refl

  pub same_undo : refusal_of m (Undo number) unread ≡ taking_refusal found halt on of left (demand_at m) totals
  same_undo =
      ap (undo_refusal m) (sym rows.of_job) ∙ by_job found
      ∙ ap (λ h. taking_refusal found h (part_of_job m found) (material_of m (part_of_job m found)) (left_for m found) (demand_at m) (totals_for m (part_of_job m found))) (sym is_halt)
      ∙ ap (λ p. taking_refusal found halt p (material_of m p) (left_for m found) (demand_at m) (totals_for m p)) (sym rows.of_part)
      ∙ ap (λ t. taking_refusal found halt on t (left_for m found) (demand_at m) (totals_for m on)) (sym rows.of_material)
      ∙ ap (λ l. taking_refusal found halt on of l (demand_at m) (totals_for m on)) (sym is_left) ∙ ap (taking_refusal found halt on of left (demand_at m)) (sym rows.of_totals)

  abbrev pub Undone : Change → Type 0
  Undone change = MatchOption found ⊥ (λ j. MatchOption on ⊥ (λ p. MatchOption of ⊥ (λ t. IsUndo j halt p t.limits totals (demand_at m) change)))

  pub undo_by : (change : Change) → Undone change → Makes m (Undo number) unread change
  undo_by change it = with_halt (work_by m number found on of rows.of_job rows.of_part rows.of_material totals rows.of_totals (λ t j p material. IsUndo j halt p material.limits t (demand_at m) change) it)
    where
      with_halt : (j : Job) × (part : Part) × (material : Material) × IsWork m number j part material × IsUndo j halt part material.limits (totals_of m part.material) (demand_at m) change
          → Makes m (Undo number) unread change
      with_halt (j, part, material, work, is) =
          (j, part, material, work, subst (λ h. IsUndo j h part material.limits (totals_of m part.material) (demand_at m) change) (is_halt ∙ ap (halt_for m) (rows.of_job ∙ work.found)) is)

-- ---- imports

module _ (texts : Texts) (m : Content) (order text : List ℕ) where
  abbrev Read : Form → Reading → Type 0
  Read form read = IsImportReading texts (import_at m order) form text read

  -- the same import again
  again_read : (row : ImportRow) (form : Form) (answer : Reply) → import_at m order ≡ Some row → IsRepeat form text row → StoresReply texts row (Some answer) → Read form (Again (Some answer))
  again_read row form answer is same reports = subst (λ o. IsImportReading texts o form text (Again (Some answer))) (sym is) (same, reports)

  pub again_decided : (row : ImportRow) (form : Form) (answer : Reply) (earlier : Option Reply) → earlier ≡ Some answer → import_at m order ≡ Some row → IsRepeat form text row
      → StoresReply texts row (Some answer) → (before after : ℕ) (result : Result Change Refusal)
      → Decides (again_refusal earlier) (λ change. MatchOption earlier ⊥ (λ a. change ≡ no_change a)) result → IsJudged texts m (Import order form text) before result after
  again_decided row form answer earlier one is same reports before after result decides =
      decided_by texts m (Import order form text) (Again (Some answer)) (again_read row form answer is same reports) before after None refl (λ change. change ≡ no_change answer) (λ change it. it) result
      (subst (λ o. Decides (again_refusal o) (λ change. MatchOption o ⊥ (λ a. change ≡ no_change a)) result) one decides)

  module _ (used : Bool) (is_used : used ≡ has_order m order) where
    -- a text that spells nothing
    pub unread_decided : (form : Form) → Read form unread → (before after : ℕ) → IsJudged texts m (Import order form text) before (Err (unread_refusal used)) after
    unread_decided form reads before after =
        record { decision = λ n s. (unread, reads, ap (λ u. Some (unread_refusal u)) (sym is_used)); store_fault_justified = λ e. absurd (no_fault used e) }
      where
        no_fault : (used : Bool) → unread_refusal used ≡ StoreFault → ⊥
        no_fault true e = cc
        no_fault false e = cc

    module _ (found : List OrderLine) (first : ℕ) (body : List ℕ) (is_body : body ≡ text) (is_first : first ≡ m.last_demand + 1) where
      -- an order file
      pub lines_decided : (lines : List OrderLine) → found ≡ lines → Read Csv (Lines lines) → (before after : ℕ) (result : Result Change Refusal)
          → Decides (order_refusal used (material_at m) found first) (λ change. change ≡ lines_change order body found first) result
          → IsJudged texts m (Import order Csv text) before result after
      lines_decided lines is_lines reads before after =
          decided_by texts m (Import order Csv text) (Lines lines) reads before after _ (same_order m order lines found used first is_used is_lines is_first)
          (λ change. change ≡ lines_change order body found first)
          (λ change is. is ∙ ap (λ t. lines_change order t found first) is_body ∙ ap (λ ls. lines_change order text ls first) is_lines ∙ ap (lines_change order text lines) is_first)

      -- a problem file
      pub problem_decided : (material : List ℕ) (size : Size) (pieces : List Piece) (known : Option Material) (totals : Totals) (act : ℕ) → known ≡ material_at m material
          → totals ≡ totals_of m material → act ≡ m.last_act + 1 → found ≡ problem_lines material pieces → Read (Cgcut material) (Problem size pieces) → (before after : ℕ) (result : Result Change Refusal)
          → Decides (problem_refusal used (material_at m) known totals act first size found) (λ change. change ≡ problem_change order material body size found totals act first) result
          → IsJudged texts m (Import order (Cgcut material) text) before result after
      problem_decided material size pieces known totals act is_known is_totals is_act is_found reads before after =
          decided_by texts m (Import order (Cgcut material) text) (Problem size pieces) reads before after _
          (ap (λ u. problem_refusal u (material_at m) (material_at m material) (totals_of m material) (m.last_act + 1) (m.last_demand + 1) size (problem_lines material pieces)) (sym is_used)
          ∙ ap (λ k. problem_refusal used (material_at m) k (totals_of m material) (m.last_act + 1) (m.last_demand + 1) size (problem_lines material pieces)) (sym is_known)
          ∙ ap (λ t. problem_refusal used (material_at m) known t (m.last_act + 1) (m.last_demand + 1) size (problem_lines material pieces)) (sym is_totals)
          ∙ ap (λ a. problem_refusal used (material_at m) known totals a (m.last_demand + 1) size (problem_lines material pieces)) (sym is_act)
          ∙ ap (λ f. problem_refusal used (material_at m) known totals act f size (problem_lines material pieces)) (sym is_first)
          ∙ ap (problem_refusal used (material_at m) known totals act first size) (sym is_found))
          (λ change. change ≡ problem_change order material body size found totals act first)
          (λ change is.
          is ∙ ap (λ t. problem_change order material t size found totals act first) is_body ∙ ap (λ ls. problem_change order material text size ls totals act first) is_found
          ∙ ap (λ t. problem_change order material text size (problem_lines material pieces) t act first) is_totals
          ∙ ap (λ a. problem_change order material text size (problem_lines material pieces) (totals_of m material) a first) is_act
          ∙ ap (problem_change order material text size (problem_lines material pieces) (totals_of m material) (m.last_act + 1)) is_first)
