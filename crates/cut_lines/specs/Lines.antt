-- The lines that report a plan of a whole order.
use Rattle.std.specs.Prelude.{◌≡◌, ℕ, suc, ◌==◌, List, [], ◌∷◌, ◌++◌, codes, if◌then◌else◌, Bool, filter, map, sum_by, string_bytes}
use Rattle.std.specs.List.{list_any}
use Rattle.std.specs.List.Sorted.{IsPermutation, IsSorted}
use Rattle.std.specs.Fmt.{decimal}
use Rattle.std.specs.declared.cmp.Ordering.{Ordering}
use Rattle.std.specs.Ordering.{nat_cmp, ordering_then}
use Rattle.std.specs.String.{string_cmp}
use Rattle.cut_tree.specs.Patterns.{Pattern}
use Rattle.cut_tree.specs.SamePatterns.{same_pattern}
use Rattle.cut_tree.specs.Spelling.{text_of}
use Rattle.cut_bound.specs.declared.planned.PlannedUnit.{PlannedUnit}
use Rattle.cut_lines.specs.declared.lines.OrderSummary.{OrderSummary}
use Rattle.cut_lines.specs.declared.lines.Line.{Line}

-- how many units have a plan, and its text
pub record PlanLine : Type 0 where
  pub times : ℕ
  pub text : List ℕ

-- units, of which each plan stands once: the last of each
abbrev pub distinct : List PlannedUnit → List PlannedUnit
distinct [] = []
distinct (u ∷ us) = if list_any (λ v. same_pattern v.plan u.plan) us then distinct us else u ∷ distinct us

-- how many of the units have this plan
abbrev pub times_of : List PlannedUnit → Pattern → ℕ
times_of units plan = sum_by (λ u. if same_pattern u.plan plan then u.times else 0) units

abbrev pub plan_line : List PlannedUnit → Pattern → PlanLine
plan_line units plan = record { times = times_of units plan; text = text_of plan.tree }

-- a line for each different plan
abbrev pub plan_lines : List PlannedUnit → List PlanLine
plan_lines units = map (λ u. plan_line units u.plan) (distinct units)

-- what a line of the program reports
abbrev pub reported : Line → PlanLine
reported l = record { times = l.times.0; text = string_bytes l.text }

abbrev pub line_text : PlanLine → List ℕ
line_text l = decimal l.times ++ codes " " ++ l.text ++ codes "\n"

abbrev pub lines_text : List PlanLine → List ℕ
lines_text [] = []
lines_text (l ∷ ls) = line_text l ++ lines_text ls

abbrev pub proved_word : Bool → List ℕ
proved_word proved = if proved then codes "yes" else codes "no"

abbrev pub summary_text : OrderSummary → List ℕ
summary_text s =
    codes "units " ++ decimal s.units ++ codes "\nbound " ++ decimal s.bound ++ codes "\nproved " ++ proved_word s.proved
    ++ codes "\nmissing " ++ decimal s.missing ++ codes "\n"

-- which line stands first: that of more units, and of as many the one whose text comes first
abbrev pub in_order : Line → Line → Ordering
in_order a b = ordering_then (nat_cmp b.times.0 a.times.0) (string_cmp a.text b.text)

-- the summary, and each different plan once, in order
pub record AreOrderLines (summary : OrderSummary) (units : List PlannedUnit) (text : List ℕ) : Type 0 where
  pub lines : List Line
  pub each : IsPermutation (plan_lines units) (map reported lines)
  pub ordered : IsSorted in_order lines
  pub says : text ≡ summary_text summary ++ lines_text (map reported lines)

-- ---- units of several sizes

-- the units of the size at a place
abbrev pub units_of : (place : ℕ) → List PlannedUnit → List PlannedUnit
units_of place units = filter (λ u. u.place == place) units

-- each line with the name of its size before it
abbrev pub sized_text : (name : List ℕ) → List PlanLine → List ℕ
sized_text name [] = []
sized_text name (l ∷ ls) = name ++ codes " " ++ line_text l ++ sized_text name ls

-- of units of one size each different plan once, in order, with the name of the size before it
pub record AreSizedLines (name : List ℕ) (units : List PlannedUnit) (text : List ℕ) : Type 0 where
  pub lines : List Line
  pub each : IsPermutation (plan_lines units) (map reported lines)
  pub ordered : IsSorted in_order lines
  pub says : text ≡ sized_text name (map reported lines)

-- of the sizes from a place on, which have these names, the lines of each, size by size
abbrev pub AreBlocks : List PlannedUnit → (place : ℕ) → (names : List (List ℕ)) → List ℕ → Type 0
AreBlocks units place [] text = text ≡ []
AreBlocks units place (name ∷ names) text =
    (own later : List ℕ) × AreSizedLines name (units_of place units) own × AreBlocks units (suc place) names later × (text ≡ own ++ later)

-- such a text was appended
abbrev pub Appends : (List ℕ → Type 0) → (old new : List ℕ) → Type 0
Appends is old new = (text : List ℕ) × is text × (new ≡ old ++ text)

-- the summary, the cost, and the lines of each size
abbrev pub AreSizesLines : OrderSummary → (cost : ℕ) → (names : List (List ℕ)) → List PlannedUnit → List ℕ → Type 0
AreSizesLines summary cost names units text =
    Appends (AreBlocks units 0 names) (summary_text summary ++ codes "cost " ++ decimal cost ++ codes "\n") text
