-- A content after an order got further lines.
use Rattle.std.proofs.Common.{◌≡◌, ℕ, ◌+◌, ◌≤◌, ◌<◌, List, [], ◌∷◌, length, Bool, true, refl, ap, arith}
use Rattle.std.proofs.lemmas.List.Elements.{All-nil}
use Rattle.std.proofs.lemmas.Bool.{and_parts, not-false, leb-true, ltb-false}
use Rattle.std.specs.Prelude.{Option, Some, None, nat_le, nat_lt, ◌&&◌, not}
use Rattle.std.specs.declared.cmp.Ordering.TheVariants.{Less}
use Rattle.std.specs.Ordering.{is_eq}
use Rattle.std.specs.FinMap.{FinMap, values}
use Rattle.cut_measure.specs.Codes.{code_cmp}
use Rattle.cut_measure.specs.Names.{name_cmp}
use Rattle.cut_measure.specs.declared.ranges.TheConstants.{MAX_NUMBERS}
use Rattle.shop_files.specs.declared.orders.OrderLine.{OrderLine}
use Rattle.shop_files.specs.declared.limits.TheConstants.{MAX_LINES}
use Rattle.shop_records.specs.declared.records.Part.{Part}
use Rattle.shop_records.specs.declared.records.Demand.{Demand}
use Rattle.shop_records.specs.declared.records.Material.{Material}
use Rattle.shop_records.specs.declared.texts.Kept.{Kept}
use Rattle.shop_records.specs.declared.imports.ImportRow.{ImportRow}
use Rattle.shop_records.specs.declared.messages.Message.{Message}
use Rattle.shop_records.specs.declared.refusals.Refusal.TheVariants.{NumbersSpent, NoOrder, BadLine}
use Rattle.shop_records.specs.Messages.{Texts, message_id_of}
use Rattle.shop_records.specs.Content.{Content, message_id_cmp, material_at, has_order, demand_at, demands_of, last_line, kept_at, changed}
use Rattle.shop_records.specs.WellFormed.{Fits}
use Rattle.shop_machine.specs.Ordering.{lines_refusal}
use Rattle.shop_machine.specs.Extending.{extend_change, extend_refusal}
use Rattle.shop_machine.specs.Machine.{keeping, Effect, Orders}
use Rattle.shop_machine.specs.Decisions.{first_of}
use Rattle.shop_machine.specs.History.{acts_of, ordered_lines}
use Rattle.shop_records.proofs.Basics.{codes_total, codes_same, tied}
use Rattle.shop_records.proofs.LineCounts.{below_last, passes, value_of}
use Rattle.shop_machine.proofs.Allowed.{none_of, or_none}
use Rattle.shop_machine.proofs.Grown.{with_messages, IsStock, no_message_ids}
use Rattle.shop_machine.proofs.Agreeing.{NoFault, either, nothing, other}
use Rattle.shop_machine.proofs.OrderedLines.{lines_put, lines_more}
use Rattle.shop_machine.proofs.OrderingStep.{AreMore, lines_after, lines_agree, lines_known, lines_rise, more_stock, rows_apart, rows_fit, rows_once, rows_wanted}
use Rattle.shop_machine.proofs.Accounts.{Follows, row_later}

-- ---- the demands of an order

-- no demand of an order has a greater line than its last one
pub line_so_far : (m : Content) → IsStock m → (order : List ℕ) (number : ℕ) (row : Demand) → demand_at m number ≡ Some row → row.order ≡ order
    → row.line ≤ last_line (demands_of m order)
line_so_far m stock order number row is same =
    below_last (demands_of m order) row
    (passes (λ (d : Demand). is_eq (code_cmp d.order order)) (values m.demands) row (value_of m.demands (λ n d there. (stock.demands n d there).numbered) number row is)
    (tied codes_total codes_same row.order order same))

-- ---- what is known of lines that aren't refused

pub record IsExtended (m : Content) (order : List ℕ) (lines : List OrderLine) : Type 0 where
  pub ordered : has_order m order ≡ true
  pub few : length lines ≤ MAX_LINES
  pub more : AreMore m order lines

pub extended_of : (m : Content) → IsStock m → (order : List ℕ) (lines : List OrderLine)
    → extend_refusal (has_order m order) (material_at m) (demands_of m order) lines (m.last_demand + 1) ≡ None → IsExtended m order lines
extended_of m stock order lines e =
    let there = demands_of m order in
    let first = m.last_demand + 1 in
    let outer = or_none (first_of ((not (has_order m order), NoOrder) ∷ (not (nat_le 1 (length lines) && nat_le (length there + length lines) MAX_LINES), BadLine) ∷ [])) _ e in
    let head = none_of (not (has_order m order)) NoOrder _ outer.0 in
    let many = none_of (not (nat_le 1 (length lines) && nat_le (length there + length lines) MAX_LINES)) BadLine _ head.1 in
    let range = and_parts (nat_le 1 (length lines)) (nat_le (length there + length lines) MAX_LINES)
    (not-false (nat_le 1 (length lines) && nat_le (length there + length lines) MAX_LINES) many.0) in
    let inner = or_none (lines_refusal (material_at m) (last_line there) lines) _ outer.1 in
    let last = none_of (nat_lt (MAX_NUMBERS + 1) (first + length lines)) NumbersSpent _ inner.1 in
    let all : length there + length lines ≤ MAX_LINES = leb-true (length there + length lines) MAX_LINES range.1 in
    record {
      ordered = not-false (has_order m order) head.0;
      few = omega (arith, all);
      more = record {
        some = leb-true 1 (length lines) range.0;
        known = lines_known (material_at m) (last_line there) lines inner.0;
        rising = lines_rise (material_at m) (last_line there) lines inner.0;
        numbers = ltb-false (MAX_NUMBERS + 1) (first + length lines) last.0;
        unlike = λ number row is same line i equal.
            let most = line_so_far m stock order number row is same in
            let behind : last_line there < line.line = lines_after (material_at m) (last_line there) lines inner.0 line i in
            omega (arith, most, behind, equal);
      };
    }

-- ---- the content after it

module _ (m : Content) (stock : IsStock m) (order : List ℕ) (lines : List OrderLine) (extended : IsExtended m order lines) where
  pub extend_stock : (kept : FinMap message_id_cmp Kept) (imports : FinMap code_cmp ImportRow) → IsStock (with_messages kept imports (changed m (extend_change order lines (m.last_demand + 1))))
  extend_stock kept imports = more_stock m stock order lines extended.more None extended.ordered kept imports

  pub extend_fits : (texts : Texts) (message : Message) → kept_at m (message_id_of message) ≡ None → Fits m (keeping texts message (extend_change order lines (m.last_demand + 1)))
  extend_fits texts message new =
      let some = extended.more.some in
      let numbers = extended.more.numbers in
      record {
        material = tt;
        parts = All-nil _;
        rising = no_message_ids (λ (a b : Part). name_cmp a.name b.name ≡ Less);
        moved = tt;
        undone = All-nil _;
        apart = no_message_ids (λ (a b : Part). name_cmp a.name b.name ≡ Less);
        halt = tt;
        begun = tt;
        extended = (extended.ordered, refl);
        note = tt;
        job = tt;
        order = tt;
        demands = rows_fit m stock order lines extended.more None extended.ordered;
        wanted = rows_wanted m stock order lines extended.more None extended.ordered;
        once = rows_once m stock order lines extended.more None extended.ordered;
        lines = rows_apart m stock order lines extended.more None extended.ordered;
        totals = tt;
        sums = λ c. refl;
        act = tt;
        demand = (omega (arith, some), omega (arith, some, numbers));
        import = tt;
        kept = new;
        entry = tt;
      }

-- ---- its refusals

pub extend_agrees : (known : Bool) (at : List ℕ → Option Material) (there : List Demand) (lines : List OrderLine) (first : ℕ) → NoFault (extend_refusal known at there lines first)
extend_agrees known at there lines first =
    either _ _ (other (not known) _ _ (λ e. cc) (other (not (nat_le 1 (length lines) && nat_le (length there + length lines) MAX_LINES)) _ _ (λ e. cc) nothing))
    (either _ _ (lines_agree at (last_line there) lines) (other (nat_lt (MAX_NUMBERS + 1) (first + length lines)) _ _ (λ e. cc) nothing))

-- ---- what is done to cells

module _ (earlier : List Effect) (old : Content) (f : Follows earlier old) (kept : FinMap message_id_cmp Kept) (imports : FinMap code_cmp ImportRow) where
  pub by_lines : (order : List ℕ) (lines : List OrderLine)
      → Follows (Orders order lines ∷ earlier) (with_messages kept imports (changed old (extend_change order lines (old.last_demand + 1))))
  by_lines order lines = record {
    acts = (let e : old.last_act ≡ acts_of earlier = f.acts in omega arith);
    numbers = (let e = f.numbers in let more = lines_more order lines (ordered_lines earlier) in omega (arith, e, more));
    lines = lines_put order lines (ordered_lines earlier) old.demands (old.last_demand + 1) (ap (λ n. n + 1) f.numbers) f.lines;
    params = f.params;
    rows = λ n p k. row_later (Orders order lines) earlier p (λ job x y is. refl) (f.rows n p k);
    jobs = f.jobs;
    wholes = f.wholes;
    cells = f.cells;
    over = f.over;
  }
