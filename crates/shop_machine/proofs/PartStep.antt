-- A content after a part got another state, with new parts beside it, a job, and recounted demands.
use Rattle.std.proofs.Common.{◌≡◌, ℕ, ◌+◌, ◌≤◌, ◌<◌, inl, inr, List, [], true, false, refl, sym, ap, subst, ◌∙◌, arith}
use Rattle.std.specs.Prelude.{Option, Some, None, IsSome, IfSome, MatchOption, sum_by, count_by}
use Rattle.std.specs.declared.cmp.Ordering.TheVariants.{Less, Equal}
use Rattle.std.specs.Cmp.{nat_cmp_total, tied_itself}
use Rattle.std.specs.FinMap.{values, nat_cmp-IsAntisymmetric}
use Rattle.cut_measure.specs.declared.ranges.TheConstants.{MAX_NUMBERS}
use Rattle.cut_measure.specs.Names.{Name, name_cmp}
use Rattle.cut_tree.specs.Tree.{Tree, count_of}
use Rattle.shop_records.specs.declared.records.Part.{Part}
use Rattle.shop_records.specs.declared.records.State.{State}
use Rattle.shop_records.specs.declared.records.State.TheVariants as state
use Rattle.shop_records.specs.declared.records.Job.{Job}
use Rattle.shop_records.specs.declared.records.JobHalt.{JobHalt}
use Rattle.shop_records.specs.declared.records.Demand.{Demand}
use Rattle.shop_records.specs.declared.records.Column.TheVariants.{Received}
use Rattle.shop_records.specs.declared.changes.Change.{Change}
use Rattle.shop_records.specs.declared.changes.MaterialTotals.{MaterialTotals}
use Rattle.shop_records.specs.declared.messages.Message.{Message}
use Rattle.shop_records.specs.declared.messages.Reply.{Reply}
use Rattle.shop_records.specs.Messages.{Texts, message_id_of}
use Rattle.shop_records.specs.Columns.{is_there, is_piece_for}
use Rattle.shop_records.specs.Content.{Content, material_at, part_at, job_at, halt_at, has_order, demand_at, kept_at, changed, with_number, in_state, totals_of}
use Rattle.shop_machine.specs.Recounts.{AreRecounted}
use Rattle.shop_machine.specs.Machine.{keeping}
use Rattle.shop_records.specs.Elements.{IsIn}
use Rattle.shop_records.specs.WellFormed.{IsPlaced, IsWaiting, IsJob, IsHalted, IsDemand, IsCounted, IsNewPart, IsNewJob, IsMovedJob, IsMovedDemand, TotalsFit, with_totals, Fits}
use Rattle.shop_records.proofs.Basics.{names_total, same_some}
use Rattle.shop_records.proofs.Puts.{Pairwise, all_from, pairs_from, pairs_more, not_both, found_one}
use Rattle.shop_machine.proofs.AddedUp.{cells_as, cells_left, is_uncut}
use Rattle.shop_machine.proofs.Moved.{LeavesOthers, IsRecount, row_recount, recount_of, demand_there, found_moved, still_moved, other_moved, received_moved, adds_up_moved, made_moved}
use Rattle.std.proofs.lemmas.List.Elements.{All-nil}
use Rattle.shop_machine.proofs.Grown.{IsStock, Grows, Untouched, placed_more, job_more, different_more, no_message_ids}

standing_no_piece : (s : State) → is_there s ≡ true → (number : ℕ) → is_piece_for number s ≡ false
standing_no_piece state.Standing e number = refl
standing_no_piece (state.Reserved job) e number = refl
standing_no_piece (state.Undone job) e number = refl
standing_no_piece _ e number = cc

pub standing_uncut : (s : State) → is_there s ≡ true → is_uncut s ≡ true
standing_uncut (state.Cut job) e = cc
standing_uncut (state.Undone job) e = cc
standing_uncut _ e = refl

pub less_apart : (a b : Name) → name_cmp a b ≡ Less → a ≡ b → ⊥
less_apart a b less e =
    let equal : name_cmp a b ≡ Equal = ap (λ n. name_cmp a n) (sym e) ∙ tied_itself names_total a in
    let same : Less ≡ Equal = sym less ∙ equal in cc

-- what holds of the part, its new state, the new parts and the act's number
pub record IsPartStep (m : Content) (row : Part) (s : State) (made : List Part) (act : Option ℕ) : Type 0 where
  pub there : part_at m row.name ≡ Some row
  pub stands : is_there row.state ≡ true
  pub plain : (number : ℕ) → is_piece_for number s ≡ false
  pub new : (x : Part) → IsIn x made → part_at m x.name ≡ None
  pub rising : Pairwise (λ (a b : Part). name_cmp a.name b.name ≡ Less) made
  pub placed : (x : Part) → IsIn x made → IsPlaced m x.name x
  pub named : (x : Part) → IsIn x made → x.name.act ≤ with_number act m.last_act
  pub more : m.last_act ≤ with_number act m.last_act
  pub numbers : IfSome act (λ a. (m.last_act < a) × (a ≤ MAX_NUMBERS))
  pub received : (code : List ℕ) → sum_by (cells_as Received code) made ≡ 0
  pub left : (code : List ℕ) → cells_left code row ≡ cells_left code (in_state s row) + sum_by (cells_left code) made

few_numbers : (act : Option ℕ) (last : ℕ) → last ≤ MAX_NUMBERS → IfSome act (λ a. (last < a) × (a ≤ MAX_NUMBERS)) → with_number act last ≤ MAX_NUMBERS
few_numbers None last few h = few
few_numbers (Some a) last few h = h.1

module _ (m : Content) (stock : IsStock m) (row : Part) (s : State) (made : List Part) (act : Option ℕ) (job : Job) (step : IsPartStep m row s made act)
    (recount : ℕ → Demand → Demand) (tree : Tree) (none : LeavesOthers m.demands recount tree)
    (keeps : (n : ℕ) (d : Demand) → recount n d ≡ record d { reserved = (recount n d).reserved; made = (recount n d).made })
    (rows : List Demand) (recounted : AreRecounted (demand_at m) recount tree rows) (totals : Option MaterialTotals) (halt : Option JobHalt) (texts : Texts) (message : Message) (answer : Reply) where
  abbrev step_change : Change
  step_change = record {
    material = None;
    parts = made;
    moved = Some (in_state s row);
    undone = [];
    job = Some job;
    halt = halt;
    begun = None;
    order = None;
    extended = None;
    note = None;
    demands = rows;
    totals = totals;
    act = act;
    demand = None;
    import = None;
    kept = None;
    entry = None;
    reply = answer;
  }

  abbrev pub after : Content
  after = changed m (keeping texts message step_change)

  apart : Pairwise (λ (a b : Part). a.name ≡ b.name → ⊥) made
  apart = pairs_more (λ (a b : Part). name_cmp a.name b.name ≡ Less) (λ (a b : Part). a.name ≡ b.name → ⊥) (λ a b. less_apart a.name b.name) made step.rising

  pub grows : Grows m after
  grows = record {
    materials = λ code x is. is;
    parts = still_moved m.parts row s made step.there step.new apart;
    demands = demand_there m.demands recount tree rows recounted none;
    orders = λ code is. is;
    acts = step.more;
  }

  -- a waiting job stays as it is where the part isn't its own, and no new part is named after it
  pub untouched : (j : Job) → IsWaiting m j → (row.state ≡ state.Reserved j.act → ⊥) → ((x : Part) → IsIn x made → x.name.act ≡ j.act → ⊥) → Untouched m after grows j
  untouched j w other names = record {
    same = other_moved m.parts row s made step.there step.new apart j.part
        (λ e. other (ap (λ (p : Part). p.state) (same_some row w.on.row (sym step.there ∙ ap (λ n. part_at m n) (sym e) ∙ w.on.found)) ∙ w.reserved))
        (λ x i e. not_both (part_at m x.name) w.on.row (step.new x i) (ap (λ n. part_at m n) e ∙ w.on.found));
    none_yet = λ node.
        other_moved m.parts row s made step.there step.new apart (record { act = j.act; node = node })
        (λ e. not_both (part_at m (record { act = j.act; node = node })) row (w.none_yet node) (ap (λ n. part_at m n) e ∙ step.there))
        (λ x i e. names x i (ap (λ (n : Name). n.act) e)) ∙ w.none_yet node;
  }

  pub made_after : (number : ℕ) → count_by (λ (p : Part). is_piece_for number p.state) (values after.parts)
      ≡ count_by (λ (p : Part). is_piece_for number p.state) (values m.parts) + count_by (λ (p : Part). is_piece_for number p.state) made
  made_after number = made_moved m.parts row s made step.there step.new apart number (standing_no_piece row.state step.stands number) (step.plain number)

  row_placed : IsPlaced after row.name (in_state s row)
  row_placed =
      let old = stock.parts row.name row step.there in
      record {
        named = refl;
        rooted = old.rooted;
        known = old.known;
        some_width = old.some_width;
        some_height = old.some_height;
        right = old.right;
        bottom = old.bottom;
        flat = old.flat;
        asked = λ number piece. absurd (let no : true ≡ false = sym piece ∙ step.plain number in cc);
      }

  module _ (new_job : IsJob after job.act job)
      (others : (number : ℕ) (j : Job) → job_at m number ≡ Some j → (number ≡ job.act → ⊥) → IsWaiting m j → Untouched m after grows j)
      (halted : (number : ℕ) (kept : JobHalt) → halt_at after number ≡ Some kept → IsHalted after.jobs number kept)
      (counts : (number : ℕ) (before : Demand) → demand_at m number ≡ Some before → IsCounted after number (recount (count_of tree number) before)) where
    demand_after : (number : ℕ) (d : Demand) → IsRecount m.demands recount tree rows recounted none number d → IsDemand after number d
    demand_after number d r =
        let old = stock.demands number r.before r.was in
        let c = count_of tree number in
        let is : d ≡ record r.before { reserved = (recount c r.before).reserved; made = (recount c r.before).made } = r.now ∙ keeps c r.before in
        record {
          numbered = ap (λ (x : Demand). x.number) is ∙ old.numbered;
          least = old.least;
          so_far = old.so_far;
          ordered = subst (λ (code : List ℕ). has_order m code ≡ true) (sym (ap (λ (x : Demand). x.order) is)) old.ordered;
          known = subst (λ (code : List ℕ). IsSome (material_at m code)) (sym (ap (λ (x : Demand). x.material) is)) old.known;
          counted = subst (IsCounted after number) (sym r.now) (counts number r.before r.was);
        }

    same_line : (number : ℕ) (d : Demand) → demand_at after number ≡ Some d → (before : Demand) × (demand_at m number ≡ Some before) × (d.order ≡ before.order) × (d.line ≡ before.line)
    same_line number d found =
        let r = recount_of m.demands recount tree rows recounted none number d found in
        let is = r.now ∙ keeps (count_of tree number) r.before in
        (r.before, r.was, ap (λ (x : Demand). x.order) is, ap (λ (x : Demand). x.line) is)

    pub step_stock : IsStock after
    step_stock = record {
      in_range = record {
        acts = λ name p is.
            let more = step.more in
            elim (found_moved m.parts row s made step.there step.new apart name p is) [
              | inl q ↦
                  let old = stock.in_range.acts row.name row step.there in
                  let same : name.act ≡ row.name.act = ap (λ (n : Name). n.act) q.1 in
                  omega (arith, old, same, more)
              | inr r ↦
                  elim r [
                    | inl q ↦
                        let le = step.named p q.0 in
                        let same : p.name.act ≡ name.act = ap (λ (n : Name). n.act) q.1 in
                        omega (arith, le, same)
                    | inr q ↦ let old = stock.in_range.acts name p q.1 in omega (arith, old, more)
                  ]
            ];
        last = few_numbers act m.last_act stock.in_range.last step.numbers;
        last_demand = stock.in_range.last_demand;
        received = λ code.
            let same = received_moved m.parts row s made step.there step.new apart code (step.received code) in
            let old = stock.in_range.received code in
            omega (arith, same, old);
        adds_up = λ code. adds_up_moved m.parts row s made step.there step.new apart code (step.received code) (step.left code) (stock.in_range.adds_up code);
      };
      materials = stock.materials;
      parts = λ name p is.
          elim (found_moved m.parts row s made step.there step.new apart name p is) [
            | inl q ↦ subst (λ (n : Name). IsPlaced after n p) (sym q.1) (subst (IsPlaced after row.name) (sym q.0) row_placed)
            | inr r ↦
                elim r [
                  | inl q ↦ subst (λ (n : Name). IsPlaced after n p) q.1 (placed_more m after grows p.name p (step.placed p q.0))
                  | inr q ↦ placed_more m after grows name p (stock.parts name p q.1)
                ]
          ];
      jobs = λ number j is.
          elim (found_one nat_cmp_total nat_cmp-IsAntisymmetric m.jobs job.act job number j is) [
            | inl q ↦ subst (λ n. IsJob after n j) (sym q.0) (subst (IsJob after job.act) (sym q.1) new_job)
            | inr q ↦ job_more m after grows number j (others number j q.1 q.0) (stock.jobs number j q.1)
          ];
      halts = halted;
      demands = λ number d is. demand_after number d (recount_of m.demands recount tree rows recounted none number d is);
      lines = different_more m after same_line stock.lines;
    }

  module _ (job_fits : MatchOption act (IsMovedJob m job) (λ a. IsNewJob m a job)) (halt_fits : IfSome halt (λ kept. halt_at m kept.job ≡ None)) (totals_fit : TotalsFit m None totals)
      (sums : (code : List ℕ) → totals_of after code ≡ with_totals totals code (totals_of m code))
      (counts : (number : ℕ) (before : Demand) → demand_at m number ≡ Some before → IsCounted after number (recount (count_of tree number) before)) where
    demand_moved : (x : Demand) → IsRecount m.demands recount tree rows recounted none x.number x → IsMovedDemand m x
    demand_moved x r =
        let c = count_of tree x.number in
        let is : x ≡ record r.before { reserved = (recount c r.before).reserved; made = (recount c r.before).made } = r.now ∙ keeps c r.before in
        record {
          before = r.before;
          found = r.was;
          is = is ∙ (λ i. record r.before {
            wanted = (sym (ap (λ (d : Demand). d.wanted) is)) i;
            reserved = (sym (ap (λ (d : Demand). d.reserved) r.now)) i;
            made = (sym (ap (λ (d : Demand). d.made) r.now)) i;
          });
        }

    demand_wanted : (x : Demand) → IsRecount m.demands recount tree rows recounted none x.number x → IsSome (material_at m x.material) × (x.reserved + x.made ≤ x.wanted)
    demand_wanted x r =
        let c = count_of tree x.number in
        let is : x ≡ record r.before { reserved = (recount c r.before).reserved; made = (recount c r.before).made } = r.now ∙ keeps c r.before in (
          subst (λ (code : List ℕ). IsSome (material_at m code)) (sym (ap (λ (d : Demand). d.material) is)) (stock.demands x.number r.before r.was).known,
          subst (λ (d : Demand). d.reserved + d.made ≤ d.wanted) (sym r.now) (counts x.number r.before r.was).few,
        )

    pub step_fits : kept_at m (message_id_of message) ≡ None → Fits m (keeping texts message step_change)
    step_fits new = record {
      material = tt;
      parts = all_from (IsNewPart m) made (λ x i. record { new = step.new x i; known = (step.placed x i).known });
      rising = pairs_from (λ (a b : Part). name_cmp a.name b.name ≡ Less) made step.rising;
      moved = record { before = row; found = step.there; is = refl; known = (stock.parts row.name row step.there).known };
      undone = All-nil _;
      apart = no_message_ids (λ (a b : Part). name_cmp a.name b.name ≡ Less);
      halt = halt_fits;
      begun = tt;
      extended = tt;
      note = tt;
      job = job_fits;
      order = tt;
      demands = all_from (IsMovedDemand m) rows (λ x i. demand_moved x (row_recount m.demands recount tree rows recounted none x x.number i refl));
      wanted = all_from (λ (d : Demand). IsSome (material_at m d.material) × (d.reserved + d.made ≤ d.wanted)) rows
          (λ x i. demand_wanted x (row_recount m.demands recount tree rows recounted none x x.number i refl));
      once = recounted.once;
      lines = tt;
      totals = totals_fit;
      sums = sums;
      act = step.numbers;
      demand = tt;
      import = tt;
      kept = new;
      entry = tt;
    }
