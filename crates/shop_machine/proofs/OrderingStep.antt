-- A content after an order was added.
use Rattle.std.proofs.Common.{◌≡◌, ◌≢◌, ℕ, zero, suc, ◌+◌, ◌-◌, ◌≤◌, ◌<◌, ◌⊎◌, inl, inr, List, [], ◌∷◌, length, Bool, true, false, true≢false, refl, sym, ap, subst, ◌∙◌, arith}
use Rattle.std.proofs.lemmas.List.Elements.{All-nil}
use Rattle.std.proofs.lemmas.Bool.{and_parts, not-false, leb-true, ltb-true, ltb-false}
use Rattle.std.specs.Prelude.{Option, Some, None, IsSome, if◌then◌else◌, nat_le, nat_lt, ◌&&◌, not, All, AllPairs}
use Rattle.std.specs.declared.cmp.Ordering.TheVariants.{Less}
use Rattle.std.specs.Cmp.{nat_cmp_total}
use Rattle.std.specs.FinMap.{FinMap, nat_cmp-IsAntisymmetric}
use Rattle.std.specs.FinSet as set
use Rattle.cut_measure.specs.Codes.{code_cmp}
use Rattle.cut_measure.specs.Names.{name_cmp}
use Rattle.cut_measure.specs.declared.ranges.TheConstants.{MAX_NUMBERS}
use Rattle.cut_tree.specs.Tree.{count_of}
use Rattle.shop_files.specs.declared.orders.OrderLine.{OrderLine}
use Rattle.shop_files.specs.declared.limits.TheConstants.{MAX_LINES}
use Rattle.shop_records.specs.declared.records.Part.{Part}
use Rattle.shop_records.specs.declared.records.Job.{Job}
use Rattle.shop_records.specs.declared.records.Demand.{Demand}
use Rattle.shop_records.specs.declared.texts.Kept.{Kept}
use Rattle.shop_records.specs.declared.imports.ImportRow.{ImportRow}
use Rattle.shop_records.specs.declared.messages.Message.{Message}
use Rattle.shop_records.specs.declared.records.Material.{Material}
use Rattle.shop_records.specs.declared.refusals.Refusal.TheVariants.{NumbersSpent, OrderExists, BadLine}
use Rattle.shop_records.specs.Messages.{Texts, message_id_of}
use Rattle.shop_records.specs.Columns.{is_piece_for, is_waiting}
use Rattle.shop_records.specs.Content.{Content, message_id_cmp, material_at, has_order, demand_at, kept_at, with_order, with_demands, changed}
use Rattle.shop_records.specs.Elements.{IsIn}
use Rattle.shop_records.specs.WellFormed.{IsDemand, IsNewDemand, AreDifferent, Fits, reserved_in, made_in}
use Rattle.shop_machine.specs.Ordering.{new_demand, new_demands, order_change, order_refusal, line_refusal, lines_refusal, is_good_line}
use Rattle.shop_machine.specs.Machine.{keeping, Effect, Orders}
use Rattle.shop_machine.specs.Decisions.{first_of}
use Rattle.shop_machine.specs.History.{acts_of, ordered_lines}
use Rattle.shop_records.proofs.Basics.{names_total, names_same, same_some, none_at, pair_in, demand_cases}
use Rattle.shop_records.proofs.LinesKept.{order_kept, order_there}
use Rattle.shop_records.proofs.Puts.{Pairwise, all_from, pairs_from, not_both, is_known, some_known, sum_no_rows}
use Rattle.shop_machine.proofs.Allowed.{none_of, or_none}
use Rattle.shop_machine.proofs.Grown.{with_messages, IsStock, Grows, placed_more, job_more, demand_more, no_message_ids}
use Rattle.shop_machine.proofs.Agreeing.{NoFault, either, nothing, other}
use Rattle.shop_machine.proofs.OrderedLines.{lines_put, lines_more}
use Rattle.shop_machine.proofs.Accounts.{Follows, row_later}

-- ---- what is known of an order that isn't refused

pub record IsOrder (used : Bool) (at : List ℕ → Option Material) (lines : List OrderLine) (first : ℕ) : Type 0 where
  pub unused : used ≡ false
  pub some : 1 ≤ length lines
  pub few : length lines ≤ MAX_LINES
  pub known : (line : OrderLine) → IsIn line lines → IsSome (at line.material)
  pub rising : Pairwise (λ (a b : OrderLine). a.line < b.line) lines
  pub numbers : first + length lines ≤ MAX_NUMBERS + 1

line_known : (last : ℕ) (line : OrderLine) (o : Option Material) → line_refusal last line o ≡ None → IsSome o
line_known last line None e = cc
line_known last line (Some m) e = refl

pub lines_known : (at : List ℕ → Option Material) (last : ℕ) (lines : List OrderLine) → lines_refusal at last lines ≡ None → (line : OrderLine) → IsIn line lines → IsSome (at line.material)
lines_known at last [] e line i = absurd i
lines_known at last (l ∷ lines) e line (inl s) =
    let here = or_none (line_refusal last l (at l.material)) (lines_refusal at l.line lines) e in
    subst (λ (x : OrderLine). IsSome (at x.material)) (sym s) (line_known last l (at l.material) here.0)
lines_known at last (l ∷ lines) e line (inr i) =
    lines_known at l.line lines (or_none (line_refusal last l (at l.material)) (lines_refusal at l.line lines) e).1 line i

line_after : (last : ℕ) (line : OrderLine) (o : Option Material) → line_refusal last line o ≡ None → last < line.line
line_after last line None e = cc
line_after last line (Some m) e =
    let good = not-false (is_good_line last line m.kind) (none_of (not (is_good_line last line m.kind)) BadLine None e).0 in
    ltb-true last line.line (and_parts _ _ (and_parts _ _ (and_parts _ _ (and_parts _ _ (and_parts _ _ (and_parts _ _ good).0).0).0).0).0).0

pub lines_after : (at : List ℕ → Option Material) (last : ℕ) (lines : List OrderLine) → lines_refusal at last lines ≡ None → (line : OrderLine) → IsIn line lines → last < line.line
lines_after at last [] e line i = absurd i
lines_after at last (l ∷ lines) e line i =
    let here = or_none (line_refusal last l (at l.material)) (lines_refusal at l.line lines) e in
    let first : last < l.line = line_after last l (at l.material) here.0 in
    elim i [
      | inl s ↦ let same : line.line ≡ l.line = ap (λ (x : OrderLine). x.line) s in omega (arith, first, same)
      | inr j ↦ let later : l.line < line.line = lines_after at l.line lines here.1 line j in omega (arith, first, later)
    ]

pub lines_rise : (at : List ℕ → Option Material) (last : ℕ) (lines : List OrderLine) → lines_refusal at last lines ≡ None → Pairwise (λ (a b : OrderLine). a.line < b.line) lines
lines_rise at last [] e = tt
lines_rise at last (l ∷ lines) e =
    let more = (or_none (line_refusal last l (at l.material)) (lines_refusal at l.line lines) e).1 in
    (lines_after at l.line lines more, lines_rise at l.line lines more)

pub order_of : (used : Bool) (at : List ℕ → Option Material) (lines : List OrderLine) (first : ℕ) → order_refusal used at lines first ≡ None → IsOrder used at lines first
order_of used at lines first e =
    let outer = or_none (first_of ((used, OrderExists) ∷ (not (nat_le 1 (length lines) && nat_le (length lines) MAX_LINES), BadLine) ∷ [])) _ e in
    let head = none_of used OrderExists _ outer.0 in
    let many = none_of (not (nat_le 1 (length lines) && nat_le (length lines) MAX_LINES)) BadLine _ head.1 in
    let range = and_parts (nat_le 1 (length lines)) (nat_le (length lines) MAX_LINES) (not-false (nat_le 1 (length lines) && nat_le (length lines) MAX_LINES) many.0) in
    let inner = or_none (lines_refusal at 0 lines) _ outer.1 in
    let last = none_of (nat_lt (MAX_NUMBERS + 1) (first + length lines)) NumbersSpent _ inner.1 in
    record {
      unused = head.0;
      some = leb-true 1 (length lines) range.0;
      few = leb-true (length lines) MAX_LINES range.1;
      known = lines_known at 0 lines inner.0;
      rising = lines_rise at 0 lines inner.0;
      numbers = ltb-false (MAX_NUMBERS + 1) (first + length lines) last.0;
    }

-- ---- the new demands

-- the line and the number of a new demand
pub record IsNew (order : List ℕ) (first : ℕ) (lines : List OrderLine) (x : Demand) : Type 0 where
  pub line : OrderLine
  pub number : ℕ
  pub least : first ≤ number
  pub most : number < first + length lines
  pub there : IsIn line lines
  pub is : x ≡ new_demand order number line

new_in : (order : List ℕ) (first : ℕ) (lines : List OrderLine) (x : Demand) → IsIn x (new_demands order first lines) → IsNew order first lines x
new_in order first [] x i = absurd i
new_in order first (l ∷ lines) x (inl e) = record { line = l; number = first; least = omega arith; most = omega arith; there = inl refl; is = e }
new_in order first (l ∷ lines) x (inr i) =
    let r = new_in order (suc first) lines x i in
    let least = r.least in
    let most = r.most in
    record { line = r.line; number = r.number; least = omega (arith, least); most = omega (arith, most); there = inr r.there; is = r.is }

new_apart : (order : List ℕ) (first : ℕ) (lines : List OrderLine) → Pairwise (λ (a b : Demand). a.number ≡ b.number → ⊥) (new_demands order first lines)
new_apart order first [] = tt
new_apart order first (l ∷ lines) = (
  λ y i e.
      let r = new_in order (suc first) lines y i in
      let least = r.least in
      let same : y.number ≡ r.number = ap (λ (d : Demand). d.number) r.is in
      omega (arith, least, same, e),
  new_apart order (suc first) lines,
)

-- demands of lines that rise are of different lines
lines_apart : (order : List ℕ) (first : ℕ) (lines : List OrderLine) → Pairwise (λ (a b : OrderLine). a.line < b.line) lines
    → Pairwise (λ (a b : Demand). a.line ≡ b.line → ⊥) (new_demands order first lines)
lines_apart order first [] up = tt
lines_apart order first (l ∷ lines) up = (
  λ y i e.
      let r = new_in order (suc first) lines y i in
      let less : l.line < r.line.line = up.0 r.line r.there in
      let same : y.line ≡ r.line.line = ap (λ (d : Demand). d.line) r.is in
      omega (arith, less, same, e),
  lines_apart order (suc first) lines up.1,
)

-- what isn't a piece of a demand counts as none
none_counted : (number : ℕ) (p : Part) → (is_piece_for number p.state ≡ true → ⊥) → ◌≡◌ {A = ℕ} (if is_piece_for number p.state then 1 else 0) 0
none_counted number p h = by (is_piece_for number p.state) refl
  where
    by : (b : Bool) → is_piece_for number p.state ≡ b → ◌≡◌ {A = ℕ} (if b then 1 else 0) 0
    by true e = absurd (h e)
    by false e = refl

none_reserved : (number : ℕ) (j : Job) → (is_waiting j.state ≡ true → 1 ≤ count_of j.plan.tree number → ⊥) → ◌≡◌ {A = ℕ} (if is_waiting j.state then count_of j.plan.tree number else 0) 0
none_reserved number j h = by (is_waiting j.state) refl
  where
    zero_of : (n : ℕ) → (1 ≤ n → ⊥) → n ≡ 0
    zero_of zero h = refl
    zero_of (suc n) h = absurd (h (omega arith))

    by : (b : Bool) → is_waiting j.state ≡ b → ◌≡◌ {A = ℕ} (if b then count_of j.plan.tree number else 0) 0
    by true e = zero_of (count_of j.plan.tree number) (h e)
    by false e = refl

-- lines that an order may get: their materials are known, their numbers rise and are free, and the order has no demand of one
pub record AreMore (m : Content) (order : List ℕ) (lines : List OrderLine) : Type 0 where
  pub some : 1 ≤ length lines
  pub known : (line : OrderLine) → IsIn line lines → IsSome (material_at m line.material)
  pub rising : Pairwise (λ (a b : OrderLine). a.line < b.line) lines
  pub numbers : m.last_demand + 1 + length lines ≤ MAX_NUMBERS + 1
  pub unlike : (number : ℕ) (row : Demand) → demand_at m number ≡ Some row → row.order ≡ order → (line : OrderLine) → IsIn line lines → row.line ≡ line.line → ⊥

-- the order is there already, or is new
module _ (m : Content) (stock : IsStock m) (order : List ℕ) (lines : List OrderLine) (more : AreMore m order lines)
    (new : Option (List ℕ)) (order_then : set.contains (with_order new m.orders) order ≡ true) where
  abbrev first : ℕ
  first = m.last_demand + 1

  abbrev rows : List Demand
  rows = new_demands order first lines

  -- a number to come is no demand's yet
  none_later : (number : ℕ) → m.last_demand < number → demand_at m number ≡ None
  none_later number later = none_at (demand_at m number) (λ d is. let le = (stock.demands number d is).so_far in omega (arith, le, later))

  none_reserved_yet : (number : ℕ) → m.last_demand < number → reserved_in number m ≡ 0
  none_reserved_yet number later =
      sum_no_rows nat_cmp_total nat_cmp-IsAntisymmetric (λ (job : Job). if is_waiting job.state then count_of job.plan.tree number else 0) m.jobs
      (λ k j is. none_reserved number j (λ waits some.
      let there = some_known (demand_at m number) ((stock.jobs k j is).demands number some) in
      not_both (demand_at m number) there.0 (none_later number later) there.1))

  none_made_yet : (number : ℕ) → m.last_demand < number → made_in number m ≡ 0
  none_made_yet number later =
      sum_no_rows names_total names_same (λ (p : Part). if is_piece_for number p.state then 1 else 0) m.parts
      (λ k p is. none_counted number p (λ piece.
      let there = some_known (demand_at m number) ((stock.parts k p is).asked number piece) in
      not_both (demand_at m number) there.0 (none_later number later) there.1))

  module _ (kept : FinMap message_id_cmp Kept) (imports : FinMap code_cmp ImportRow) where
    abbrev after : Content
    after = with_messages kept imports (record m {
      orders = with_order new m.orders;
      demands = with_demands rows m.demands;
      last_demand = first + length lines - 1;
    })

    found_after : (number : ℕ) (d : Demand) → demand_at after number ≡ Some d → (IsIn d rows × (d.number ≡ number)) ⊎ (demand_at m number ≡ Some d)
    found_after number d is =
        elim (demand_cases rows m.demands number) [
          | inl q ↦
              let same : q.0 ≡ d = same_some q.0 d (sym q.3 ∙ is) in
              inl (subst (λ (x : Demand). IsIn x rows) same q.1, ap (λ (x : Demand). x.number) (sym same) ∙ q.2)
          | inr q ↦ inr (sym q.1 ∙ is)
        ]

    there_after : (number : ℕ) → IsSome (demand_at m number) → IsSome (demand_at after number)
    there_after number h =
        elim (demand_cases rows m.demands number) [
          | inl q ↦ is_known (demand_at after number) q.0 q.3
          | inr q ↦ subst (λ (o : Option Demand). IsSome o) (sym q.1) h
        ]

    grows : Grows m after
    grows = record { materials = λ code x is. is; parts = λ name p is. (p.state, is); demands = there_after; orders = order_kept m new; acts = omega arith }

    row_new : (number : ℕ) (d : Demand) → IsNew order first lines d → d.number ≡ number → IsDemand after number d
    row_new number d r e =
        let least = r.least in
        let most = r.most in
        let same : d.number ≡ r.number = ap (λ (x : Demand). x.number) r.is in
        let none : d.reserved ≡ 0 = ap (λ (x : Demand). x.reserved) r.is in
        let unmade : d.made ≡ 0 = ap (λ (x : Demand). x.made) r.is in
        record {
          numbered = e;
          least = omega (arith, least, same, e);
          so_far = omega (arith, most, same, e);
          ordered = subst (λ (x : Demand). has_order after x.order ≡ true) (sym r.is) order_then;
          known = subst (λ (x : Demand). IsSome (material_at m x.material)) (sym r.is) (more.known r.line r.there);
          counted = record {
            few = omega (arith, none, unmade);
            reserved = none ∙ sym (none_reserved_yet number (omega (arith, least, same, e)));
            made = unmade ∙ sym (none_made_yet number (omega (arith, least, same, e)));
          };
        }

    -- a demand of the order that was there is of another line than a new one
    old_apart : (number : ℕ) (old new : Demand) → demand_at m number ≡ Some old → IsIn new rows → old.order ≡ new.order → old.line ≡ new.line → ⊥
    old_apart number old new is i e l =
        let r = new_in order first lines new i in
        more.unlike number old is (e ∙ ap (λ (x : Demand). x.order) r.is) r.line r.there (l ∙ ap (λ (x : Demand). x.line) r.is)

    -- new demands of the same line are one
    new_same : (a b : Demand) → IsIn a rows → IsIn b rows → a.line ≡ b.line → a.number ≡ b.number
    new_same a b i j e =
        elim (pair_in (λ (x y : Demand). x.line ≡ y.line → ⊥) rows (pairs_from (λ (x y : Demand). x.line ≡ y.line → ⊥) rows (lines_apart order first lines more.rising)) a b i j) [
          | inl same ↦ ap (λ (x : Demand). x.number) same
          | inr apart ↦ elim apart [ inl off ↦ absurd (off e) | inr off ↦ absurd (off (sym e)) ]
        ]

    different : AreDifferent after
    different a b one other is is_too orders lines =
        elim (found_after a one is) [
          | inl p ↦
              elim (found_after b other is_too) [
                | inl q ↦ sym p.1 ∙ new_same one other p.0 q.0 lines ∙ q.1
                | inr q ↦ absurd (old_apart b other one q p.0 (sym orders) (sym lines))
              ]
          | inr p ↦
              elim (found_after b other is_too) [
                | inl q ↦ absurd (old_apart a one other p q.0 orders lines)
                | inr q ↦ stock.lines a b one other p q orders lines
              ]
        ]

    pub more_stock : IsStock after
    more_stock =
        let some = more.some in
        let numbers = more.numbers in
        record {
          in_range = record {
            acts = stock.in_range.acts;
            last = stock.in_range.last;
            last_demand = omega (arith, some, numbers);
            received = stock.in_range.received;
            adds_up = stock.in_range.adds_up;
          };
          materials = stock.materials;
          parts = λ name part is. placed_more m after grows name part (stock.parts name part is);
          jobs = λ number j is. job_more m after grows number j (λ w. record { same = refl; none_yet = w.none_yet }) (stock.jobs number j is);
          halts = stock.halts;
          demands = λ number d is.
              elim (found_after number d is) [
                | inl q ↦ row_new number d (new_in order first lines d q.0) q.1
                | inr q ↦
                    let old = stock.demands number d q in
                    demand_more m after grows (omega (arith, some)) number d old (record { few = old.counted.few; reserved = old.counted.reserved; made = old.counted.made })
              ];
          lines = different;
        }

  pub row_fits : (x : Demand) → IsNew order first lines x → IsNewDemand m order x
  row_fits x r =
      let least = r.least in
      let same : x.number ≡ r.number = ap (λ (d : Demand). d.number) r.is in
      let later : m.last_demand < x.number = omega (arith, least, same) in
      record {
        new = none_later x.number later;
        later = later;
        of = ap (λ (d : Demand). d.order) r.is;
        unlike = λ n row is same line. more.unlike n row is same r.line r.there (line ∙ ap (λ (d : Demand). d.line) r.is);
      }

  pub rows_fit : All (IsNewDemand m order) rows
  rows_fit = all_from (IsNewDemand m order) rows (λ x i. row_fits x (new_in order first lines x i))

  pub rows_wanted : All (λ (d : Demand). IsSome (material_at m d.material) × (d.reserved + d.made ≤ d.wanted)) rows
  rows_wanted = all_from (λ (d : Demand). IsSome (material_at m d.material) × (d.reserved + d.made ≤ d.wanted)) rows
      (λ x i. let r = new_in order first lines x i in
      subst (λ (d : Demand). IsSome (material_at m d.material) × (d.reserved + d.made ≤ d.wanted)) (sym r.is) (more.known r.line r.there, omega arith))

  pub rows_once : AllPairs (λ (a b : Demand). a.number ≢ b.number) rows
  rows_once = pairs_from (λ (a b : Demand). a.number ≡ b.number → ⊥) rows (new_apart order first lines)

  pub rows_apart : AllPairs (λ (a b : Demand). a.line ≢ b.line) rows
  rows_apart = pairs_from (λ (a b : Demand). a.line ≡ b.line → ⊥) rows (lines_apart order first lines more.rising)

-- ---- an order that is new

module _ (m : Content) (stock : IsStock m) (order : List ℕ) (lines : List OrderLine)
    (ordered : IsOrder (has_order m order) (material_at m) lines (m.last_demand + 1)) where
  first_lines : AreMore m order lines
  first_lines = record {
    some = ordered.some;
    known = ordered.known;
    rising = ordered.rising;
    numbers = ordered.numbers;
    unlike = λ number row is same line i e.
        let yes : has_order m order ≡ true = subst (λ code. has_order m code ≡ true) same (stock.demands number row is).ordered in
        let no = ordered.unused in
        absurd (true≢false (sym yes ∙ no));
  }

  pub order_stock : (kept : FinMap message_id_cmp Kept) (imports : FinMap code_cmp ImportRow) → IsStock (with_messages kept imports (changed m (order_change order lines (m.last_demand + 1))))
  order_stock kept imports = more_stock m stock order lines first_lines (Some order) (order_there m order) kept imports

  pub order_fits : (texts : Texts) (message : Message) → kept_at m (message_id_of message) ≡ None → Fits m (keeping texts message (order_change order lines (m.last_demand + 1)))
  order_fits texts message new =
      let some = ordered.some in
      let numbers = ordered.numbers in
      record {
        material = tt;
        parts = All-nil _;
        rising = no_message_ids (λ (a b : Part). name_cmp a.name b.name ≡ Less);
        moved = tt;
        undone = All-nil _;
        apart = no_message_ids (λ (a b : Part). name_cmp a.name b.name ≡ Less);
        halt = tt;
        begun = tt;
        extended = tt;
        note = tt;
        job = tt;
        order = ordered.unused;
        demands = rows_fit m stock order lines first_lines (Some order) (order_there m order);
        wanted = rows_wanted m stock order lines first_lines (Some order) (order_there m order);
        once = rows_once m stock order lines first_lines (Some order) (order_there m order);
        lines = rows_apart m stock order lines first_lines (Some order) (order_there m order);
        totals = tt;
        sums = λ c. refl;
        act = tt;
        demand = (omega (arith, some), omega (arith, some, numbers));
        import = tt;
        kept = new;
        entry = tt;
      }

-- ---- its refusals

line_agrees : (last : ℕ) (line : OrderLine) (o : Option Material) → NoFault (line_refusal last line o)
line_agrees last line None = λ e. cc
line_agrees last line (Some m) = other (not (is_good_line last line m.kind)) _ _ (λ e. cc) nothing

pub lines_agree : (at : List ℕ → Option Material) (last : ℕ) (lines : List OrderLine) → NoFault (lines_refusal at last lines)
lines_agree at last [] = λ e. cc
lines_agree at last (line ∷ lines) = either (line_refusal last line (at line.material)) (lines_refusal at line.line lines) (line_agrees last line (at line.material)) (lines_agree at line.line lines)

pub order_agrees : (used : Bool) (at : List ℕ → Option Material) (lines : List OrderLine) (first : ℕ) → NoFault (order_refusal used at lines first)
order_agrees used at lines first =
    either _ _ (other used _ _ (λ e. cc) (other (not (nat_le 1 (length lines) && nat_le (length lines) MAX_LINES)) _ _ (λ e. cc) nothing))
    (either _ _ (lines_agree at 0 lines) (other (nat_lt (MAX_NUMBERS + 1) (first + length lines)) _ _ (λ e. cc) nothing))

-- ---- what is done to cells

module _ (earlier : List Effect) (old : Content) (f : Follows earlier old) (kept : FinMap message_id_cmp Kept) (imports : FinMap code_cmp ImportRow) where
  pub by_order : (order : List ℕ) (lines : List OrderLine)
      → Follows (Orders order lines ∷ earlier) (with_messages kept imports (changed old (order_change order lines (old.last_demand + 1))))
  by_order order lines = record {
    acts = (let e : old.last_act ≡ acts_of earlier = f.acts in omega arith);
    numbers = (let e = f.numbers in let more = lines_more order lines (ordered_lines earlier) in omega (arith, e, more));
    lines = lines_put order lines (ordered_lines earlier) old.demands (old.last_demand + 1) (ap (λ n. n + 1) f.numbers) f.lines;
    params = f.params;
    rows = λ n p k. row_later (Orders order lines) earlier p (λ job x y is. refl) (f.rows n p k);
    jobs = f.jobs;
    wholes = f.wholes;
    cells = f.cells;
    over = f.over;
  }
