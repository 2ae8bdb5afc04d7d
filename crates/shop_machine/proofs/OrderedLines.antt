-- Demands are the lines that were ordered.
use Rattle.std.proofs.Common.{◌≡◌, ℕ, zero, suc, ◌+◌, List, [], ◌∷◌, ◌++◌, map, length, refl, sym, ap, subst, ◌∙◌, arith, inl, inr}
use Rattle.std.specs.Prelude.{Option, Some, None, slice_get}
use Rattle.std.specs.Option.{option_map}
use Rattle.std.specs.Ordering.{nat_cmp}
use Rattle.std.specs.Cmp.{nat_cmp_total}
use Rattle.std.specs.FinMap.{FinMap, get, insert, nat_cmp-IsAntisymmetric}
use Rattle.std.proofs.lemmas.List.{append_assoc, append-nil, length-append, length-map}
use Rattle.cut_tree.specs.Tree.{Tree, count_of}
use Rattle.shop_records.specs.declared.records.Demand.{Demand}
use Rattle.shop_files.specs.declared.orders.OrderLine.{OrderLine}
use Rattle.shop_records.specs.Content.{Content, demand_at, with_demands}
use Rattle.shop_machine.specs.Recounts.{AreRecounted}
use Rattle.shop_machine.specs.Ordering.{new_demand, new_demands}
use Rattle.shop_machine.specs.Amending.{amended}
use Rattle.shop_machine.specs.Machine.{Effect}
use Rattle.shop_machine.specs.History.{OrderedLine, with_count, amended_after, amended_lines, ordered_lines, nth_line, demand_of, DemandsAreLines}
use Rattle.shop_records.specs.WellFormed.{IsDemand, reserved_in, made_in}
use Rattle.shop_records.proofs.Basics.{nat_cases, get_same, get_other, demand_cases}
use Rattle.shop_machine.proofs.Moved.{LeavesOthers, row_recount}

-- what a demand asks for, as it was ordered
abbrev pub ordered_as : Demand → OrderedLine
ordered_as d = record {
  order = d.order;
  line = record { line = d.line; material = d.material; w = d.size.w; h = d.size.h; count = d.wanted; worth = d.worth; turn = d.may_turn };
}

abbrev pub in_order : List ℕ → OrderLine → OrderedLine
in_order order line = record { order = order; line = line }

-- the demand of each number asks for what the line of that number orders
abbrev pub AskFor : List OrderedLine → FinMap nat_cmp Demand → Type 0
AskFor lines demands = (number : ℕ) → option_map ordered_as (get demands number) ≡ nth_line number lines

-- ---- one line more

last_of : (lines : List OrderedLine) (x : OrderedLine) → slice_get (lines ++ x ∷ []) (length lines) ≡ Some x
last_of [] x = refl
last_of (l ∷ lines) x = last_of lines x

not_last : (lines : List OrderedLine) (x : OrderedLine) (i : ℕ) → (i ≡ length lines → ⊥) → slice_get (lines ++ x ∷ []) i ≡ slice_get lines i
not_last [] x zero other = absurd (other refl)
not_last [] x (suc i) other = refl
not_last (l ∷ lines) x zero other = refl
not_last (l ∷ lines) x (suc i) other = not_last lines x i (λ e. other (omega (arith, e)))

nth-last : (lines : List OrderedLine) (x : OrderedLine) (number : ℕ) → number ≡ length lines + 1 → nth_line number (lines ++ x ∷ []) ≡ Some x
nth-last lines x zero e = absurd (omega (arith, e))
nth-last lines x (suc i) e = ap (slice_get (lines ++ x ∷ [])) (omega (arith, e)) ∙ last_of lines x

nth-other : (lines : List OrderedLine) (x : OrderedLine) (number : ℕ) → (number ≡ length lines + 1 → ⊥) → nth_line number (lines ++ x ∷ []) ≡ nth_line number lines
nth-other lines x zero other = refl
nth-other lines x (suc i) other = not_last lines x i (λ e. other (omega (arith, e)))

line_put : (lines : List OrderedLine) (demands : FinMap nat_cmp Demand) (order : List ℕ) (line : OrderLine) (first : ℕ) → first ≡ length lines + 1 → AskFor lines demands
    → AskFor (lines ++ in_order order line ∷ []) (insert demands first (new_demand order first line))
line_put lines demands order line first is before number =
    elim (nat_cases number first) [
      | inl y ↦
          ap (λ k. option_map ordered_as (get (insert demands first (new_demand order first line)) k)) y.0
          ∙ ap (option_map ordered_as) (get_same nat_cmp_total nat_cmp-IsAntisymmetric demands first (new_demand order first line))
          ∙ sym (nth-last lines (in_order order line) number (y.0 ∙ is))
      | inr n ↦
          ap (option_map ordered_as) (get_other nat_cmp_total nat_cmp-IsAntisymmetric demands first (new_demand order first line) number n.0)
          ∙ before number ∙ sym (nth-other lines (in_order order line) number (λ e. n.0 (e ∙ sym is)))
    ]

-- ---- an order

pub lines_put : (order : List ℕ) (new : List OrderLine) (lines : List OrderedLine) (demands : FinMap nat_cmp Demand) (first : ℕ) → first ≡ length lines + 1 → AskFor lines demands
    → AskFor (lines ++ map (in_order order) new) (with_demands (new_demands order first new) demands)
lines_put order [] lines demands first is before = subst (λ ls. AskFor ls demands) (sym (append-nil lines)) before
lines_put order (l ∷ new) lines demands first is before =
    subst (λ ls. AskFor ls (with_demands (new_demands order (suc first) new) (insert demands first (new_demand order first l))))
    (append_assoc lines (in_order order l ∷ []) (map (in_order order) new))
    (lines_put order new (lines ++ in_order order l ∷ []) (insert demands first (new_demand order first l)) (suc first)
    (let more = length-append lines (in_order order l ∷ []) in omega (arith, is, more)) (line_put lines demands order l first is before))

pub lines_more : (order : List ℕ) (new : List OrderLine) (lines : List OrderedLine) → length (lines ++ map (in_order order) new) ≡ length lines + length new
lines_more order new lines = length-append lines (map (in_order order) new) ∙ ap (λ n. length lines + n) (length-map new (in_order order))

-- ---- a recount

pub lines_recounted : (lines : List OrderedLine) (demands : FinMap nat_cmp Demand) (recount : ℕ → Demand → Demand) (tree : Tree) (rows : List Demand)
    → AreRecounted (λ number. get demands number) recount tree rows → LeavesOthers demands recount tree → ((n : ℕ) (d : Demand) → ordered_as (recount n d) ≡ ordered_as d)
    → AskFor lines demands → AskFor lines (with_demands rows demands)
lines_recounted lines demands recount tree rows recounted none same before number =
    elim (demand_cases rows demands number) [
      | inl p ↦
          let r = row_recount demands recount tree rows recounted none p.0 number p.1 p.2 in
          ap (option_map ordered_as) p.3 ∙ ap (λ d. Some (ordered_as d)) r.now ∙ ap Some (same (count_of tree number) r.before)
          ∙ ap (option_map ordered_as) (sym r.was) ∙ before number
      | inr q ↦ ap (option_map ordered_as) q.1 ∙ before number
    ]

-- ---- an amendment

amended_length : (n count : ℕ) (lines : List OrderedLine) → length (amended_after n count lines) ≡ length lines
amended_length n count [] = refl
amended_length zero count (l ∷ lines) = refl
amended_length (suc n) count (l ∷ lines) = ap suc (amended_length n count lines)

pub lines_amended : (number count : ℕ) (lines : List OrderedLine) → length (amended_lines number count lines) ≡ length lines
lines_amended zero count lines = refl
lines_amended (suc n) count lines = amended_length n count lines

after-same : (n count : ℕ) (lines : List OrderedLine) → slice_get (amended_after n count lines) n ≡ option_map (with_count count) (slice_get lines n)
after-same n count [] = refl
after-same zero count (l ∷ lines) = refl
after-same (suc n) count (l ∷ lines) = after-same n count lines

after-other : (n count : ℕ) (lines : List OrderedLine) (i : ℕ) → (i ≡ n → ⊥) → slice_get (amended_after n count lines) i ≡ slice_get lines i
after-other n count [] i other = refl
after-other zero count (l ∷ lines) zero other = absurd (other refl)
after-other zero count (l ∷ lines) (suc i) other = refl
after-other (suc n) count (l ∷ lines) zero other = refl
after-other (suc n) count (l ∷ lines) (suc i) other = after-other n count lines i (λ e. other (ap suc e))

nth-amended : (number count : ℕ) (lines : List OrderedLine) → nth_line number (amended_lines number count lines) ≡ option_map (with_count count) (nth_line number lines)
nth-amended zero count lines = refl
nth-amended (suc n) count lines = after-same n count lines

nth-unamended : (number count : ℕ) (lines : List OrderedLine) (i : ℕ) → (i ≡ number → ⊥) → nth_line i (amended_lines number count lines) ≡ nth_line i lines
nth-unamended zero count lines i other = refl
nth-unamended (suc n) count lines zero other = refl
nth-unamended (suc n) count lines (suc i) other = after-other n count lines i (λ e. other (ap suc e))

-- where a demand is amended, so is its line, and no other one
pub line_amended : (lines : List OrderedLine) (demands : FinMap nat_cmp Demand) (row : Demand) (wanted : ℕ) → get demands row.number ≡ Some row → AskFor lines demands
    → AskFor (amended_lines row.number wanted lines) (insert demands row.number (amended wanted row))
line_amended lines demands row wanted found before number =
    elim (nat_cases number row.number) [
      | inl y ↦
          ap (λ k. option_map ordered_as (get (insert demands row.number (amended wanted row)) k)) y.0
          ∙ ap (option_map ordered_as) (get_same nat_cmp_total nat_cmp-IsAntisymmetric demands row.number (amended wanted row))
          ∙ ap (option_map (with_count wanted)) (sym (ap (option_map ordered_as) found) ∙ before row.number)
          ∙ sym (nth-amended row.number wanted lines) ∙ ap (λ k. nth_line k (amended_lines row.number wanted lines)) (sym y.0)
      | inr n ↦
          ap (option_map ordered_as) (get_other nat_cmp_total nat_cmp-IsAntisymmetric demands row.number (amended wanted row) number n.0)
          ∙ before number ∙ sym (nth-unamended row.number wanted lines number n.0)
    ]

-- ---- every demand

-- where the demands ask for the lines, and each is counted and under its own number, they are those of the lines
pub demands_are_lines : (effects : List Effect) (content : Content) → ((number : ℕ) (d : Demand) → demand_at content number ≡ Some d → IsDemand content number d)
    → AskFor (ordered_lines effects) content.demands → DemandsAreLines effects content
demands_are_lines effects content each asks number =
    by (demand_at content number) refl ∙ ap (option_map (λ ordered. demand_of number ordered (reserved_in number content) (made_in number content))) (asks number)
  where
    row : (d : Demand) → IsDemand content number d → d ≡ demand_of number (ordered_as d) (reserved_in number content) (made_in number content)
    row d is i = record {
      number = is.numbered i;
      order = d.order;
      line = d.line;
      material = d.material;
      size = d.size;
      may_turn = d.may_turn;
      worth = d.worth;
      wanted = d.wanted;
      reserved = is.counted.reserved i;
      made = is.counted.made i;
    }

    by : (o : Option Demand) → demand_at content number ≡ o
        → o ≡ option_map (λ ordered. demand_of number ordered (reserved_in number content) (made_in number content)) (option_map ordered_as o)
    by None e = refl
    by (Some d) e = ap Some (row d (each number d e))
