-- What stays true of parts, jobs and demands when a content grows.
use Rattle.std.proofs.Common.{◌≡◌, ℕ, ◌≤◌, ◌<◌, List, true, false, refl, sym, ap, ◌∙◌, arith, [], inl, inr}
use Rattle.std.specs.Prelude.{Some, None, IsSome, AllPairs}
use Rattle.std.specs.declared.cmp.Ordering.TheVariants.{Less}
use Rattle.std.specs.Cmp.{nat_cmp_total}
use Rattle.std.specs.FinMap.{FinMap, get, insert, nat_cmp-IsAntisymmetric}
use Rattle.std.proofs.lemmas.List.Elements.{All-nil}
use Rattle.cut_measure.specs.Codes.{code_cmp}
use Rattle.cut_measure.specs.Names.{Name, name_cmp}
use Rattle.shop_records.specs.declared.texts.Kept.{Kept}
use Rattle.shop_records.specs.declared.imports.ImportRow.{ImportRow}
use Rattle.shop_records.specs.declared.records.Material.{Material}
use Rattle.shop_records.specs.declared.records.Part.{Part}
use Rattle.shop_records.specs.declared.records.State.{State}
use Rattle.shop_records.specs.declared.records.Job.{Job}
use Rattle.shop_records.specs.declared.records.JobHalt.{JobHalt}
use Rattle.shop_records.specs.declared.records.Demand.{Demand}
use Rattle.shop_records.specs.Content.{Content, message_id_cmp, material_at, part_at, job_at, halt_at, has_order, demand_at, kept_at, in_state}
use Rattle.shop_records.specs.WellFormed.{IsInRange, IsKnown, IsPlaced, IsOnPart, IsWaiting, IsJob, IsHalted, IsDemand, IsCounted, AreDifferent, IsWellFormed, Fits}
use Rattle.shop_records.specs.declared.messages.Message.{Message}
use Rattle.shop_records.specs.declared.messages.Reply.{Reply}
use Rattle.shop_records.specs.Messages.{Texts, message_id_of}
use Rattle.shop_machine.specs.Decisions.{no_change}
use Rattle.shop_machine.specs.Machine.{keeping}
use Rattle.shop_records.proofs.Basics.{same_some, none_at, nat_cases, get_same, get_other}
use Rattle.shop_records.specs.Columns.{is_waiting}
use Rattle.shop_records.proofs.Puts.{some_known, is_known}

-- a content with other kept messages and imports
abbrev pub with_messages : FinMap message_id_cmp Kept → FinMap code_cmp ImportRow → Content → Content
with_messages kept imports content = record content { kept = kept; imports = imports }

-- a part is there, in some state
abbrev pub IsStill : Content → Name → Part → Type 0
IsStill content name part = (s : State) × (part_at content name ≡ Some (in_state s part))

-- materials, demands and orders that were there are there, and parts, in some state
pub record Grows (old new : Content) : Type 0 where
  pub materials : (code : List ℕ) (material : Material) → material_at old code ≡ Some material → material_at new code ≡ Some material
  pub parts : (name : Name) (part : Part) → part_at old name ≡ Some part → IsStill new name part
  pub demands : (number : ℕ) → IsSome (demand_at old number) → IsSome (demand_at new number)
  pub orders : (code : List ℕ) → has_order old code ≡ true → has_order new code ≡ true
  pub acts : old.last_act ≤ new.last_act

-- what a well-formed content has besides the messages and the imports that it keeps
pub record IsStock (content : Content) : Type 0 where
  pub in_range : IsInRange content
  pub materials : (code : List ℕ) (material : Material) → material_at content code ≡ Some material → IsKnown code material
  pub parts : (name : Name) (part : Part) → part_at content name ≡ Some part → IsPlaced content name part
  pub jobs : (number : ℕ) (job : Job) → job_at content number ≡ Some job → IsJob content number job
  pub halts : (number : ℕ) (row : JobHalt) → halt_at content number ≡ Some row → IsHalted content.jobs number row
  pub demands : (number : ℕ) (demand : Demand) → demand_at content number ≡ Some demand → IsDemand content number demand
  pub lines : AreDifferent content

module _ (old new : Content) (grows : Grows old new) where
  pub known_more : (code : List ℕ) → IsSome (material_at old code) → IsSome (material_at new code)
  known_more code h = let m = some_known (material_at old code) h in is_known (material_at new code) m.0 (grows.materials code m.0 m.1)

  pub placed_more : (name : Name) (part : Part) → IsPlaced old name part → IsPlaced new name part
  placed_more name part p = record {
    named = p.named;
    rooted = p.rooted;
    known = known_more part.material p.known;
    some_width = p.some_width;
    some_height = p.some_height;
    right = p.right;
    bottom = p.bottom;
    flat = λ material is bar.
        let m = some_known (material_at old part.material) p.known in
        p.flat m.0 m.1 (ap (λ (x : Material). x.kind) (same_some m.0 material (sym (grows.materials part.material m.0 m.1) ∙ is)) ∙ bar);
    asked = λ number is. grows.demands number (p.asked number is);
  }

  -- a job is still on its part
  pub on_more : (job : Job) → IsOnPart old job → IsOnPart new job
  on_more job on =
      let still = grows.parts job.part on.row on.found in
      record {
        row = in_state still.0 on.row;
        found = still.1;
        material = on.material;
        known = grows.materials on.row.material on.material on.known;
        width = on.width;
        height = on.height;
        kerf = on.kerf;
      }

  -- a waiting job's part is there as it was, and no part is named after the job
  pub record Untouched (job : Job) : Type 0 where
    pub same : part_at new job.part ≡ part_at old job.part
    pub none_yet : (node : ℕ) → part_at new (record { act = job.act; node = node }) ≡ None

  waiting_more : (job : Job) → Untouched job → IsWaiting old job → IsWaiting new job
  waiting_more job u w = record {
    on = record {
      row = w.on.row;
      found = u.same ∙ w.on.found;
      material = w.on.material;
      known = grows.materials w.on.row.material w.on.material w.on.known;
      width = w.on.width;
      height = w.on.height;
      kerf = w.on.kerf;
    };
    reserved = w.reserved;
    older = w.older;
    none_yet = u.none_yet;
  }

  pub job_more : (number : ℕ) (job : Job) → (IsWaiting old job → Untouched job) → IsJob old number job → IsJob new number job
  job_more number job f j =
      let acts = grows.acts in
      let so_far = j.so_far in
      record {
        numbered = j.numbered;
        least = j.least;
        so_far = omega (arith, acts, so_far);
        plan = j.plan;
        kerf = j.kerf;
        on = on_more job j.on;
        called = j.called;
        demands = λ number some. grows.demands number (j.demands number some);
        waits = λ is. let w = j.waits is in waiting_more job (f w) w;
      }

-- what is kept of halts, after a job got a state in which it doesn't wait
pub halts_kept : (m : Content) (j : Job) → is_waiting j.state ≡ false → (number : ℕ) (row : JobHalt) → IsHalted m.jobs number row → IsHalted (insert m.jobs j.act j) number row
halts_kept m j over number row was =
    elim (nat_cases number j.act) [
      | inl y ↦ record {
        of = was.of;
        job = j;
        found = ap (get (insert m.jobs j.act j)) y.0 ∙ get_same nat_cmp_total nat_cmp-IsAntisymmetric m.jobs j.act j;
        over = over;
      }
      | inr n ↦ record {
        of = was.of;
        job = was.job;
        found = get_other nat_cmp_total nat_cmp-IsAntisymmetric m.jobs j.act j number n.0 ∙ was.found;
        over = was.over;
      }
    ]

-- no part is named after an act to come
pub none_later : (content : Content) → IsInRange content → (name : Name) → content.last_act < name.act → part_at content name ≡ None
none_later content range name later = none_at (part_at content name) (λ part is. let le = range.acts name part is in omega (arith, le, later))

-- a demand whose counts are as they were
pub demand_more : (old new : Content) → Grows old new → old.last_demand ≤ new.last_demand → (number : ℕ) (demand : Demand) → IsDemand old number demand → IsCounted new number demand → IsDemand new number demand
demand_more old new grows more number demand d counted =
    let so_far = d.so_far in
    record {
      numbered = d.numbered;
      least = d.least;
      so_far = omega (arith, so_far, more);
      ordered = grows.orders demand.order d.ordered;
      known = known_more old new grows demand.material d.known;
      counted = counted;
    }

-- where each demand has the order and the line of one that was there under its number, they are of different lines still
pub different_more : (old new : Content)
    → ((number : ℕ) (d : Demand) → demand_at new number ≡ Some d → (before : Demand) × (demand_at old number ≡ Some before) × (d.order ≡ before.order) × (d.line ≡ before.line))
    → AreDifferent old → AreDifferent new
different_more old new was different a b one other is is_too orders lines =
    let p = was a one is in
    let q = was b other is_too in
    different a b p.0 q.0 p.1 q.1 (sym p.2 ∙ orders ∙ q.2) (sym p.3 ∙ lines ∙ q.3)

pub no_message_ids : {X : Type 0} (R : X → X → Type 0) → AllPairs R []
no_message_ids R i j d before within = absurd (omega arith)

pub stock_of : (texts : Texts) (m : Content) → IsWellFormed texts m → IsStock m
stock_of texts m well_formed = record { in_range = well_formed.in_range; materials = well_formed.materials; parts = well_formed.parts; jobs = well_formed.jobs; halts = well_formed.halts; demands = well_formed.demands; lines = well_formed.lines }

-- ---- what changes nothing but messages

pub same_stock : (m : Content) (kept : FinMap message_id_cmp Kept) (imports : FinMap code_cmp ImportRow) → IsStock m → IsStock (with_messages kept imports m)
same_stock m kept imports stock =
    let after : Content = with_messages kept imports m in
    let grows : Grows m after = record { materials = λ code x is. is; parts = λ name p is. (p.state, is); demands = λ number h. h; orders = λ code is. is; acts = omega arith } in
    record {
      in_range = record { acts = stock.in_range.acts; last = stock.in_range.last; last_demand = stock.in_range.last_demand; received = stock.in_range.received; adds_up = stock.in_range.adds_up };
      materials = stock.materials;
      parts = λ name part is. placed_more m after grows name part (stock.parts name part is);
      jobs = λ number j is. job_more m after grows number j (λ w. record { same = refl; none_yet = w.none_yet }) (stock.jobs number j is);
      halts = stock.halts;
      demands = λ number d is.
          let old = stock.demands number d is in
          demand_more m after grows (omega arith) number d old (record { few = old.counted.few; reserved = old.counted.reserved; made = old.counted.made });
      lines = stock.lines;
    }

pub nothing_fits : (m : Content) (texts : Texts) (message : Message) (answer : Reply) → kept_at m (message_id_of message) ≡ None → Fits m (keeping texts message (no_change answer))
nothing_fits m texts message answer new = record {
  material = tt;
  parts = All-nil _;
  rising = no_message_ids (λ (a b : Part). name_cmp a.name b.name ≡ Less);
  moved = tt;
  undone = All-nil _;
  apart = no_message_ids (λ (a b : Part). name_cmp a.name b.name ≡ Less);
  job = tt;
  halt = tt;
  begun = tt;
  extended = tt;
  note = tt;
  order = tt;
  demands = All-nil _;
  wanted = All-nil _;
  once = no_message_ids (λ (a b : Demand). a.number ≡ b.number → ⊥);
  lines = tt;
  totals = tt;
  sums = λ c. refl;
  act = tt;
  demand = tt;
  import = tt;
  kept = new;
  entry = tt;
}
