-- A content after something was said of an order, or a terminal began a job: none of its parts, jobs and demands move.
use Rattle.std.proofs.Common.{◌≡◌, ℕ, List, [], ◌∷◌, Bool, true, refl, arith}
use Rattle.std.proofs.lemmas.List.Elements.{All-nil}
use Rattle.std.proofs.lemmas.Bool.{not-false}
use Rattle.std.specs.Prelude.{Option, Some, None, IsSome, not}
use Rattle.std.specs.declared.cmp.Ordering.TheVariants.{Less}
use Rattle.std.specs.Ordering.{nat_cmp}
use Rattle.std.specs.FinMap.{FinMap}
use Rattle.cut_measure.specs.Codes.{code_cmp}
use Rattle.cut_measure.specs.Names.{name_cmp}
use Rattle.shop_records.specs.declared.records.Part.{Part}
use Rattle.shop_records.specs.declared.records.Job.{Job}
use Rattle.shop_records.specs.declared.records.JobBegin.{JobBegin}
use Rattle.shop_records.specs.declared.records.Demand.{Demand}
use Rattle.shop_records.specs.declared.notes.OrderNote.{OrderNote}
use Rattle.shop_records.specs.declared.messages.Message.{Message}
use Rattle.shop_records.specs.declared.refusals.Refusal.TheVariants.{NoOrder, BadNote}
use Rattle.shop_records.specs.Columns.{is_waiting}
use Rattle.shop_records.specs.Messages.{Texts, message_id_of}
use Rattle.shop_records.specs.Notes.{is_note}
use Rattle.shop_records.specs.Content.{Content, has_order, job_at, kept_at}
use Rattle.shop_records.specs.WellFormed.{IsWellFormed, Fits}
use Rattle.shop_machine.specs.Noting.{note_refusal, note_change}
use Rattle.shop_machine.specs.Beginning.{begin_refusal, begin_change}
use Rattle.shop_machine.specs.Machine.{keeping, Effect, nothing as no_effect}
use Rattle.shop_machine.specs.History.{acts_of}
use Rattle.shop_machine.proofs.Allowed.{none_of}
use Rattle.shop_machine.proofs.Agreeing.{NoFault, nothing, other}
use Rattle.shop_machine.proofs.Grown.{IsStock, Grows, placed_more, job_more, demand_more, no_message_ids}
use Rattle.shop_machine.proofs.Accounts.{Follows, row_later}
use Rattle.shop_machine.proofs.Steps.{AfterAll}

-- a content of which other jobs are begun, and of whose orders something else is said
abbrev pub with_said : FinMap nat_cmp JobBegin → FinMap code_cmp OrderNote → Content → Content
with_said begun notes content = record content { begun = begun; notes = notes }

pub said_stock : (m : Content) (begun : FinMap nat_cmp JobBegin) (notes : FinMap code_cmp OrderNote) → IsStock m → IsStock (with_said begun notes m)
said_stock m begun notes stock =
    let after : Content = with_said begun notes m in
    let grows : Grows m after = record { materials = λ code x is. is; parts = λ name p is. (p.state, is); demands = λ number h. h; orders = λ code is. is; acts = omega arith } in
    record {
      in_range = record { acts = stock.in_range.acts; last = stock.in_range.last; last_demand = stock.in_range.last_demand; received = stock.in_range.received; adds_up = stock.in_range.adds_up };
      materials = stock.materials;
      parts = λ name part is. placed_more m after grows name part (stock.parts name part is);
      jobs = λ number j is. job_more m after grows number j (λ w. record { same = refl; none_yet = w.none_yet }) (stock.jobs number j is);
      halts = stock.halts;
      demands = λ number d is.
          let old = stock.demands number d is in
          demand_more m after grows (omega arith) number d old (record { few = old.counted.few; reserved = old.counted.reserved; made = old.counted.made });
      lines = stock.lines;
    }

-- ---- what is known of what isn't refused

pub may_be_said : (known : Bool) (due : ℕ) (text : List ℕ) → note_refusal known due text ≡ None → (known ≡ true) × (is_note due text ≡ true)
may_be_said known due text e =
    let head = none_of (not known) NoOrder _ e in
    let good = none_of (not (is_note due text)) BadNote None head.1 in
    (not-false known head.0, not-false (is_note due text) good.0)

pub is_there : (o : Option Job) → begin_refusal o ≡ None → IsSome o
is_there None e = cc
is_there (Some j) e = refl

-- ---- changes that fit

module _ (m : Content) (texts : Texts) (message : Message) (new : kept_at m (message_id_of message) ≡ None) where
  pub note_fits : (order : List ℕ) (due : ℕ) (text : List ℕ) → has_order m order ≡ true → Fits m (keeping texts message (note_change order due text))
  note_fits order due text known = record {
    material = tt;
    parts = All-nil _;
    rising = no_message_ids (λ (a b : Part). name_cmp a.name b.name ≡ Less);
    moved = tt;
    undone = All-nil _;
    apart = no_message_ids (λ (a b : Part). name_cmp a.name b.name ≡ Less);
    job = tt;
    halt = tt;
    begun = tt;
    order = tt;
    extended = tt;
    note = known;
    demands = All-nil _;
    wanted = All-nil _;
    once = no_message_ids (λ (a b : Demand). a.number ≡ b.number → ⊥);
    lines = tt;
    totals = tt;
    sums = λ c. refl;
    act = tt;
    demand = tt;
    import = tt;
    kept = new;
    entry = tt;
  }

  pub begin_fits : (number : ℕ) (before : Option JobBegin) → IsSome (job_at m number) → Fits m (keeping texts message (begin_change number before))
  begin_fits number before there = record {
    material = tt;
    parts = All-nil _;
    rising = no_message_ids (λ (a b : Part). name_cmp a.name b.name ≡ Less);
    moved = tt;
    undone = All-nil _;
    apart = no_message_ids (λ (a b : Part). name_cmp a.name b.name ≡ Less);
    job = tt;
    halt = tt;
    begun = there;
    order = tt;
    extended = tt;
    note = tt;
    demands = All-nil _;
    wanted = All-nil _;
    once = no_message_ids (λ (a b : Demand). a.number ≡ b.number → ⊥);
    lines = tt;
    totals = tt;
    sums = λ c. refl;
    act = tt;
    demand = tt;
    import = tt;
    kept = new;
    entry = tt;
  }

-- ---- their refusals

pub note_agrees : (known : Bool) (due : ℕ) (text : List ℕ) → NoFault (note_refusal known due text)
note_agrees known due text = other (not known) _ _ (λ e. cc) (other (not (is_note due text)) _ _ (λ e. cc) nothing)

pub begin_agrees : (o : Option Job) → NoFault (begin_refusal o)
begin_agrees None = λ e. cc
begin_agrees (Some j) = other (not (is_waiting j.state)) _ _ (λ e. cc) nothing

-- ---- what is done to cells

module _ (texts : Texts) (message : Message) (earlier : List Effect) (old : Content) (well_formed : IsWellFormed texts old) (f : Follows earlier old) where
  pub by_note : (order : List ℕ) (due : ℕ) (text : List ℕ) → AfterAll texts message earlier old well_formed f (no_effect ∷ []) (note_change order due text)
  by_note order due text = record {
    acts = (let e : old.last_act ≡ acts_of earlier = f.acts in omega arith);
    numbers = f.numbers;
    lines = f.lines;
    params = f.params;
    rows = λ n p k. row_later no_effect earlier p (λ job x y is. refl) (f.rows n p k);
    jobs = f.jobs;
    wholes = f.wholes;
    cells = f.cells;
    over = f.over;
  }

  pub by_begin : (number : ℕ) (before : Option JobBegin) → AfterAll texts message earlier old well_formed f (no_effect ∷ []) (begin_change number before)
  by_begin number before = record {
    acts = (let e : old.last_act ≡ acts_of earlier = f.acts in omega arith);
    numbers = f.numbers;
    lines = f.lines;
    params = f.params;
    rows = λ n p k. row_later no_effect earlier p (λ job x y is. refl) (f.rows n p k);
    jobs = f.jobs;
    wholes = f.wholes;
    cells = f.cells;
    over = f.over;
  }
