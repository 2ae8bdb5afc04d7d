-- What a history says of its content stays so with each message that is accepted.
use Rattle.std.proofs.Common.{◌≡◌, ℕ, List, ◌∷◌, ◌++◌, false, true≢false, sym, ap, subst, ◌∙◌, inl, inr}
use Rattle.std.specs.Prelude.{Some}
use Rattle.std.specs.Cmp.{nat_cmp_total}
use Rattle.std.specs.FinMap.{FinMap, get, insert, nat_cmp-IsAntisymmetric}
use Rattle.cut_measure.specs.Names.{Name, name_cmp}
use Rattle.shop_records.specs.declared.records.Part.{Part}
use Rattle.shop_records.specs.declared.records.State.{State}
use Rattle.shop_records.specs.declared.records.State.TheVariants.{Cut}
use Rattle.shop_records.specs.Columns.{is_waiting}
use Rattle.shop_records.specs.declared.records.Job.{Job}
use Rattle.shop_records.specs.declared.records.JobState.{JobState}
use Rattle.shop_records.specs.declared.changes.Change.{Change}
use Rattle.shop_records.specs.declared.messages.Message.{Message}
use Rattle.shop_records.specs.Messages.{Texts}
use Rattle.shop_records.specs.Content.{Content, part_at, job_at, changed, in_state}
use Rattle.shop_machine.specs.Machine.{keeping, Effect}
use Rattle.shop_records.specs.WellFormed.{IsWellFormed}
use Rattle.shop_machine.specs.History.{ReceivedUnit, job_of, is_gone}
use Rattle.shop_records.proofs.Basics.{names_total, names_same, nat_cases, name_cases, same_some, get_same, get_other}
use Rattle.shop_machine.proofs.Cells.{Named}
use Rattle.shop_machine.proofs.Accounts.{IsRow, IsWhole, reservation, Follows, EndsNot, IsOver, row_later, row_restated}

module _ (texts : Texts) (message : Message) (earlier : List Effect) (old : Content) (well_formed : IsWellFormed texts old) (f : Follows earlier old) where
  abbrev pub After : Effect → Change → Type 0
  After done change = Follows (done ∷ earlier) (changed old (keeping texts message change))

  -- the same of all that a command does
  abbrev pub AfterAll : List Effect → Change → Type 0
  AfterAll done change = Follows (done ++ earlier) (changed old (keeping texts message change))

  pub named : Named old.parts
  named n p k = (well_formed.parts n p k).named

  -- ---- a part whose state changes

  module _ (row : Part) (s : State) (open' : is_gone s ≡ false) (kept : part_at old row.name ≡ Some row) where
    abbrev after_state : FinMap name_cmp Part
    after_state = insert old.parts row.name (in_state s row)

    pub rows_restated : (done : Effect) → ((p : Part) → EndsNot done earlier p) → (n : Name) (q : Part) → get after_state n ≡ Some q → IsRow (done ∷ earlier) q
    rows_restated done ends_not n q k =
        elim (name_cases n row.name) [
          | inl y ↦ (
              let is : q ≡ in_state s row = same_some q (in_state s row) (sym k ∙ ap (get after_state) y.0 ∙ get_same names_total names_same old.parts row.name (in_state s row)) in
              subst (IsRow (done ∷ earlier)) (sym is) (row_later done earlier (in_state s row) (ends_not (in_state s row)) (row_restated earlier row s open' (f.rows row.name row kept))))
          | inr off ↦ row_later done earlier q (ends_not q) (f.rows n q (sym (get_other names_total names_same old.parts row.name (in_state s row) n off.0) ∙ k))
        ]

    -- a cut part is another one, as it was
    pub cut_restated : (n : Name) (q : Part) (job : ℕ) → get after_state n ≡ Some q → q.state ≡ Cut job → part_at old n ≡ Some q
    cut_restated n q job k cut =
        elim (name_cases n row.name) [
          | inl y ↦ (
              let is : q ≡ in_state s row = same_some q (in_state s row) (sym k ∙ ap (get after_state) y.0 ∙ get_same names_total names_same old.parts row.name (in_state s row)) in
              absurd (true≢false (ap is_gone (sym cut ∙ ap (λ (p : Part). p.state) is) ∙ open')))
          | inr off ↦ sym (get_other names_total names_same old.parts row.name (in_state s row) n off.0) ∙ k
        ]

    pub whole_restated : (unit : ReceivedUnit) → IsWhole old.parts unit → IsWhole after_state unit
    whole_restated unit u =
        elim (name_cases unit.name row.name) [
          | inl y ↦ (
              let is : u.row ≡ row = same_some u.row row (sym u.kept ∙ ap (get old.parts) y.0 ∙ kept) in
              record {
                row = in_state s row;
                kept = ap (get after_state) y.0 ∙ get_same names_total names_same old.parts row.name (in_state s row);
                root = ap (λ (q : Part). q.root) (sym is) ∙ u.root;
                x = ap (λ (q : Part). q.x) (sym is) ∙ u.x;
                y = ap (λ (q : Part). q.y) (sym is) ∙ u.y;
                size = ap (λ (q : Part). q.size) (sym is) ∙ u.size;
              })
          | inr off ↦ record { row = u.row; kept = get_other names_total names_same old.parts row.name (in_state s row) unit.name off.0 ∙ u.kept; root = u.root; x = u.x; y = u.y; size = u.size }
        ]

  -- a job whose state changes
  module _ (j : Job) (s : JobState) (found : job_at old j.act ≡ Some j) where
    abbrev with_state : Job
    with_state = record j { state = s }

    pub job_restated : (k : ℕ) (job : Job) → get (insert old.jobs j.act with_state) k ≡ Some job → job_of earlier k ≡ Some (reservation job)
    job_restated k job g =
        elim (nat_cases k j.act) [
          | inl y ↦ (
              let is : job ≡ with_state = same_some job with_state (sym g ∙ ap (get (insert old.jobs j.act with_state)) y.0 ∙ get_same nat_cmp_total nat_cmp-IsAntisymmetric old.jobs j.act with_state) in
              f.jobs k j (ap (job_at old) y.0 ∙ found) ∙ ap (λ (v : Job). Some (reservation v)) (sym is))
          | inr n ↦ f.jobs k job (sym (get_other nat_cmp_total nat_cmp-IsAntisymmetric old.jobs j.act with_state k n.0) ∙ g)
        ]

  -- a job that was over is over after one got a state in which it doesn't wait
  module _ (j : Job) (s : JobState) (over : is_waiting s ≡ false) where
    abbrev over_now : Job
    over_now = record j { state = s }

    pub still_over : (number : ℕ) → IsOver old.jobs number → IsOver (insert old.jobs j.act over_now) number
    still_over number was =
        elim (nat_cases number j.act) [
          | inl y ↦ record {
            job = over_now;
            found = ap (get (insert old.jobs j.act over_now)) y.0 ∙ get_same nat_cmp_total nat_cmp-IsAntisymmetric old.jobs j.act over_now;
            over = over;
          }
          | inr n ↦ record {
            job = was.job;
            found = get_other nat_cmp_total nat_cmp-IsAntisymmetric old.jobs j.act over_now number n.0 ∙ was.found;
            over = was.over;
          }
        ]
