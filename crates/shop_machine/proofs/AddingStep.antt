-- A content after a material was added.
use Rattle.std.proofs.Common.{◌≡◌, ℕ, ◌*◌, inl, inr, List, Bool, true, false, refl, sym, ap, subst, ◌∙◌, arith, not, nat_eq}
use Rattle.std.proofs.lemmas.List.Elements.{All-nil}
use Rattle.std.proofs.lemmas.Bool.{not-false, and_parts, eqb-true}
use Rattle.std.specs.Prelude.{Option, Some, None, not, IsTrue, ◌&&◌, if◌then◌else◌}
use Rattle.std.specs.Ordering.{is_eq}
use Rattle.std.specs.FinMap.{values, get, insert}
use Rattle.std.specs.declared.cmp.Ordering.TheVariants.{Less}
use Rattle.cut_measure.specs.declared.sizes.Kind.{Kind}
use Rattle.cut_measure.specs.Names.{Name, name_cmp}
use Rattle.cut_measure.specs.Measures.{CutParams, are_params}
use Rattle.cut_measure.specs.Codes.{is_code, code_cmp}
use Rattle.shop_records.specs.declared.records.Material.{Material}
use Rattle.shop_records.specs.declared.records.Part.{Part}
use Rattle.shop_records.specs.declared.records.Demand.{Demand}
use Rattle.shop_records.specs.declared.records.Column.{Column}
use Rattle.shop_records.specs.declared.records.Column.TheVariants.{Received, Stock, Rack, Pieces, Kerf, Scrap, Returned}
use Rattle.shop_records.specs.declared.messages.Message.{Message}
use Rattle.shop_records.specs.declared.refusals.Refusal.TheVariants.{BadMaterial, MaterialExists}
use Rattle.shop_records.specs.Messages.{Texts, message_id_of, IsMade}
use Rattle.shop_records.specs.Content.{Content, material_at, part_at, kept_at, changed, cells_in, totals_of, no_totals}
use Rattle.shop_records.specs.Columns.{is_counted}
use Rattle.shop_records.specs.WellFormed.{IsKnown, Fits, with_totals, IsWellFormed}
use Rattle.shop_records.specs.declared.changes.Change.{Change}
use Rattle.shop_records.specs.Same.{same_kind}
use Rattle.shop_machine.specs.Adding.{material_refusal, material_change, is_other, same_params}
use Rattle.shop_machine.specs.Machine.{keeping, Effect, SetsParams}
use Rattle.shop_machine.specs.History.{acts_of, material_params}
use Rattle.shop_records.proofs.Basics.{codes_total, codes_same, names_total, names_same, key_cases, same_some, get_same, get_other}
use Rattle.shop_records.proofs.Puts.{found_one, still_there, equal, not_both, some_known, sum_no_rows}
use Rattle.shop_machine.proofs.AddedUp.{cells_as}
use Rattle.shop_machine.proofs.Tallied.{same_totals}
use Rattle.shop_machine.proofs.Allowed.{none_of}
use Rattle.shop_machine.proofs.Grown.{IsStock, Grows, placed_more, job_more, demand_more, no_message_ids, same_stock, nothing_fits}
use Rattle.shop_machine.proofs.Agreeing.{NoFault, nothing, other}
use Rattle.shop_machine.proofs.Accounts.{Follows, row_later}
use Rattle.shop_machine.proofs.Steps.{After}

module _ (texts : Texts) (message : Message) (m : Content) (code : List ℕ) (kind : Kind) (params : CutParams) where
  abbrev after : Option Material → Content
  after known = changed m (keeping texts message (material_change known code kind params))

  pub material_stock : (known : Option Material) → material_at m code ≡ known → material_refusal known kind params ≡ None → IsStock m → IsStock (after known)
  material_stock (Some row) is allowed stock = same_stock m _ _ stock
  material_stock None is allowed stock =
      let row : Material = record { code = code; kind = kind; limits = params } in
      let grows : Grows m (after None) = record {
        materials = λ c x found. still_there codes_total codes_same m.materials code row c x is found;
        parts = λ name p is. (p.state, is);
        demands = λ number h. h;
        orders = λ code is. is;
        acts = omega arith;
      } in
      record {
        in_range = record { acts = stock.in_range.acts; last = stock.in_range.last; last_demand = stock.in_range.last_demand; received = stock.in_range.received; adds_up = stock.in_range.adds_up };
        materials = λ c x found.
            elim (found_one codes_total codes_same m.materials code row c x found) [
              | inl p ↦ subst (IsKnown c) (sym p.1)
                  (record { coded = sym p.0; ruled = not-false (are_params kind params.kerf params.min_long params.min_short) (none_of (not (are_params kind params.kerf params.min_long params.min_short)) BadMaterial _ allowed).0 })
              | inr q ↦ stock.materials c x q.1
            ];
        parts = λ name part is. placed_more m (after None) grows name part (stock.parts name part is);
        jobs = λ number j is. job_more m (after None) grows number j (λ w. record { same = refl; none_yet = w.none_yet }) (stock.jobs number j is);
        halts = stock.halts;
        demands = λ number d is.
            let old = stock.demands number d is in
            demand_more m (after None) grows (omega arith) number d old (record { few = old.counted.few; reserved = old.counted.reserved; made = old.counted.made });
        lines = stock.lines;
      }

  -- no part is of a material that is unknown
  none_of_it : IsStock m → material_at m code ≡ None → (column : Column) → cells_in column code (values m.parts) ≡ 0
  none_of_it stock unknown column = sum_no_rows names_total names_same (cells_as column code) m.parts (λ name p is. by name p is (is_eq (code_cmp p.material code)) refl)
    where
      by : (name : Name) (p : Part) → part_at m name ≡ Some p → (b : Bool) → is_eq (code_cmp p.material code) ≡ b → cells_as column code p ≡ 0
      by name p is true e =
          let there = some_known (material_at m p.material) (stock.parts name p is).known in
          absurd (not_both (material_at m code) there.0 unknown (ap (material_at m) (sym (codes_same p.material code (equal (code_cmp p.material code) e))) ∙ there.1))
      by name p is false e = ap (λ b. if b && is_counted column p then p.size.w * p.size.h else 0) e

  none_yet : IsStock m → material_at m code ≡ None → (c : List ℕ) → totals_of m c ≡ with_totals (Some (record { material = code; totals = no_totals })) c (totals_of m c)
  none_yet stock unknown c = by (is_eq (code_cmp code c)) refl
    where
      by : (b : Bool) → is_eq (code_cmp code c) ≡ b → totals_of m c ≡ (if is_eq (code_cmp code c) then no_totals else totals_of m c)
      by true e =
          let none = none_of_it stock unknown in
          ap (totals_of m) (sym (codes_same code c (equal (code_cmp code c) e)))
          ∙ same_totals (totals_of m code) no_totals (none Received) (none Stock) (none Rack) (none Pieces) (none Kerf) (none Scrap) (none Returned)
          ∙ sym (ap (λ b. if b then no_totals else totals_of m c) e)
      by false e = sym (ap (λ b. if b then no_totals else totals_of m c) e)

  pub material_fits : IsStock m → (known : Option Material) → material_at m code ≡ known → kept_at m (message_id_of message) ≡ None
      → Fits m (keeping texts message (material_change known code kind params))
  material_fits stock None is new = record {
    material = is;
    parts = All-nil _;
    rising = no_message_ids (λ (a b : Part). name_cmp a.name b.name ≡ Less);
    moved = tt;
    undone = All-nil _;
    apart = no_message_ids (λ (a b : Part). name_cmp a.name b.name ≡ Less);
    halt = tt;
    begun = tt;
    extended = tt;
    note = tt;
    job = tt;
    order = tt;
    demands = All-nil _;
    wanted = All-nil _;
    once = no_message_ids (λ (a b : Demand). a.number ≡ b.number → ⊥);
    lines = tt;
    totals = refl;
    sums = none_yet stock is;
    act = tt;
    demand = tt;
    import = tt;
    kept = new;
    entry = tt;
  }
  material_fits stock (Some row) is new = nothing_fits m texts message _ new

-- ---- its refusals and its reply

pub material_agrees : (known : Option Material) (kind : Kind) (params : CutParams) → NoFault (material_refusal known kind params)
material_agrees known kind params =
    other (not (are_params kind params.kerf params.min_long params.min_short)) _ _ (λ e. cc) (other (is_other known kind params) _ _ (λ e. cc) nothing)

pub made_material : (known : Option Material) (code : List ℕ) (kind : Kind) (params : CutParams) → IsTrue (is_code code) → IsMade (material_change known code kind params).reply
made_material None code kind params is = is
made_material (Some m) code kind params is = is

-- ---- what is done to cells

params_equal : (a b : CutParams) → a.kerf ≡ b.kerf → a.min_long ≡ b.min_long → a.min_short ≡ b.min_short → a ≡ b
params_equal a b p q r = λ i. record { kerf = p i; min_long = q i; min_short = r i }

params_alike : (a b : CutParams) → same_params a b ≡ true → a ≡ b
params_alike a b e =
    let outer = and_parts (nat_eq a.kerf b.kerf && nat_eq a.min_long b.min_long) (nat_eq a.min_short b.min_short) e in
    let inner = and_parts (nat_eq a.kerf b.kerf) (nat_eq a.min_long b.min_long) outer.0 in
    params_equal a b (eqb-true a.kerf b.kerf inner.0) (eqb-true a.min_long b.min_long inner.1) (eqb-true a.min_short b.min_short outer.1)

-- a material that is added again is the same
known_params : (m : Material) (kind : Kind) (params : CutParams) → material_refusal (Some m) kind params ≡ None → m.limits ≡ params
known_params m kind params e =
    let bad = none_of (not (are_params kind params.kerf params.min_long params.min_short)) BadMaterial _ e in
    let known = none_of (not (same_kind m.kind kind && same_params m.limits params)) MaterialExists None bad.1 in
    let same = not-false (same_kind m.kind kind && same_params m.limits params) known.0 in
    params_alike m.limits params (and_parts (same_kind m.kind kind) (same_params m.limits params) same).1

module _ (texts : Texts) (message : Message) (earlier : List Effect) (old : Content) (well_formed : IsWellFormed texts old) (f : Follows earlier old) where
  abbrev Next : Effect → Change → Type 0
  Next = After texts message earlier old well_formed f

  module _ (material : List ℕ) (kind : Kind) (kerf min_long min_short : ℕ) where
    abbrev params : CutParams
    params = record { kerf = kerf; min_long = min_long; min_short = min_short }

    by_known : (known : Option Material) → material_at old material ≡ known → material_refusal known kind params ≡ None
        → Next (SetsParams material params) (material_change known material kind params)
    by_known None unknown allowed =
        let new : Material = record { code = material; kind = kind; limits = params } in
        record {
          acts = (let e : old.last_act ≡ acts_of earlier = f.acts in omega arith);
          numbers = f.numbers;
          lines = f.lines;
          params = λ code m g. elim (key_cases codes_total codes_same code material) [
            | inl y ↦ (
                let is : m ≡ new = same_some m new (sym g ∙ ap (get (insert old.materials material new)) y.0 ∙ get_same codes_total codes_same old.materials material new) in
                ap (λ b. if b then Some params else material_params earlier code) y.1 ∙ ap (λ (v : Material). Some v.limits) (sym is))
            | inr n ↦ ap (λ b. if b then Some params else material_params earlier code) n.1
                ∙ f.params code m (sym (get_other codes_total codes_same old.materials material new code n.0) ∙ g)
          ];
          rows = λ n p k. row_later (SetsParams material params) earlier p (λ job x y is. refl) (f.rows n p k);
          jobs = f.jobs;
          wholes = f.wholes;
          cells = f.cells;
          over = f.over;
        }
    by_known (Some m) found allowed = record {
      acts = (let e : old.last_act ≡ acts_of earlier = f.acts in omega arith);
      numbers = f.numbers;
      lines = f.lines;
      params = λ code other g. elim (key_cases codes_total codes_same code material) [
        | inl y ↦ (
            let is : other ≡ m = same_some other m (sym g ∙ ap (material_at old) y.0 ∙ found) in
            ap (λ b. if b then Some params else material_params earlier code) y.1 ∙ ap Some (sym (known_params m kind params allowed)) ∙ ap (λ (v : Material). Some v.limits) (sym is))
        | inr n ↦ ap (λ b. if b then Some params else material_params earlier code) n.1 ∙ f.params code other g
      ];
      rows = λ n p k. row_later (SetsParams material params) earlier p (λ job x y is. refl) (f.rows n p k);
      jobs = f.jobs;
      wholes = f.wholes;
      cells = f.cells;
      over = f.over;
    }

    pub by_material : material_refusal (material_at old material) kind params ≡ None → Next (SetsParams material params) (material_change (material_at old material) material kind params)
    by_material = by_known (material_at old material) refl
