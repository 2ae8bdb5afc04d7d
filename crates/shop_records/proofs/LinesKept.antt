-- Each demand's order is there, and of an order no two demands have the same line, also after a change that fits.
use Rattle.std.proofs.Common.{◌≡◌, ◌⊎◌, ◌||◌, inl, inr, ℕ, List, true, false, refl, sym, ap, subst, ◌∙◌}
use Rattle.std.specs.Prelude.{◌≢◌, Option, Some, None, All, AllPairs, IfSome, MatchOption}
use Rattle.std.specs.Option.{option_or}
use Rattle.std.specs.Ordering.{eq_by_cmp, nat_cmp}
use Rattle.std.specs.FinMap.{get-empty}
use Rattle.std.specs.FinSet as set
use Rattle.std.proofs.Math.Bool.{or-true}
use Rattle.cut_measure.specs.Codes.{code_cmp}
use Rattle.shop_records.specs.declared.changes.Change.{Change}
use Rattle.shop_records.specs.declared.records.Demand.{Demand}
use Rattle.shop_records.specs.Content.{Content, changed, demand_at, fresh, has_order, lines_for, with_order}
use Rattle.shop_records.specs.Elements.{IsIn}
use Rattle.shop_records.specs.WellFormed.{AreDifferent, Fits, HasLines, IsMovedDemand, IsNewDemand}
use Rattle.shop_records.proofs.Basics.{all_in, codes_same, codes_total, demand_cases, none_some, pair_in, same_some, tied}

-- ---- orders

pub order_kept : (content : Content) (order : Option (List ℕ)) (code : List ℕ) → has_order content code ≡ true → set.contains (with_order order content.orders) code ≡ true
order_kept content None code is = is
order_kept content (Some new) code is = set.contains-insert codes_total content.orders new code ∙ ap (λ b. eq_by_cmp code_cmp code new || b) is ∙ or-true (eq_by_cmp code_cmp code new)

pub order_there : (content : Content) (code : List ℕ) → set.contains (with_order (Some code) content.orders) code ≡ true
order_there content code = set.contains-insert codes_total content.orders code code ∙ ap (λ b. b || set.contains content.orders code) (tied codes_total codes_same code code refl)

-- ---- where a demand comes from

-- it was there, of the same line of the same order
pub record HasStayed (content : Content) (number : ℕ) (demand : Demand) : Type 0 where
  pub before : Demand
  pub found : demand_at content number ≡ Some before
  pub order : before.order ≡ demand.order
  pub line : before.line ≡ demand.line

-- or it is one of the new ones, of the order that is new or gets further lines
pub record IsBrought (content : Content) (change : Change) (number : ℕ) (demand : Demand) : Type 0 where
  pub of : lines_for change ≡ Some demand.order
  pub among : IsIn demand change.demands
  pub numbered : demand.number ≡ number
  pub unlike : (n : ℕ) (row : Demand) → demand_at content n ≡ Some row → row.order ≡ demand.order → row.line ≢ demand.line

module _ (content : Content) (change : Change) (fits : Fits content change) where
  pub came : (number : ℕ) (demand : Demand) → demand_at (changed content change) number ≡ Some demand → HasStayed content number demand ⊎ IsBrought content change number demand
  came number demand is = elim (demand_cases change.demands content.demands number) [
    | inl put ↦ let same : put.0 ≡ demand = same_some put.0 demand (sym put.3 ∙ is) in by (subst (λ d. IsIn d change.demands) same put.1) (ap (λ (d : Demand). d.number) (sym same) ∙ put.2) (lines_for change) refl fits.demands
    | inr other ↦ inl (record { before = demand; found = sym other.1 ∙ is; order = refl; line = refl })
  ]
    where
      by : IsIn demand change.demands → demand.number ≡ number → (order : Option (List ℕ)) → lines_for change ≡ order
          → MatchOption order (All (IsMovedDemand content) change.demands) (λ code. All (IsNewDemand content code) change.demands)
          → HasStayed content number demand ⊎ IsBrought content change number demand
      by among own None of all =
          let moved = all_in (IsMovedDemand content) change.demands all demand among in
          inl (record { before = moved.before; found = ap (demand_at content) (sym own) ∙ moved.found; order = ap (λ (d : Demand). d.order) (sym moved.is); line = ap (λ (d : Demand). d.line) (sym moved.is) })
      by among own (Some code) of all =
          let new = all_in (IsNewDemand content code) change.demands all demand among in
          inr (record {
            of = of ∙ ap Some (sym new.of);
            among = among;
            numbered = own;
            unlike = λ n row is same. new.unlike n row is (same ∙ new.of);
          })

  -- the order of the new ones is there afterwards
  lines_there : (order extended : Option (List ℕ)) (code : List ℕ) → option_or order extended ≡ Some code
      → IfSome extended (λ c. (has_order content c ≡ true) × (order ≡ None)) → set.contains (with_order order content.orders) code ≡ true
  lines_there None None code is e = absurd (none_some code is)
  lines_there None (Some other) code is e = ap (has_order content) (sym (same_some other code is)) ∙ e.0
  lines_there (Some new) extended code is e = ap (λ c. set.contains (with_order (Some c) content.orders) code) (same_some new code is) ∙ order_there content code

  new_apart : (code : List ℕ) → lines_for change ≡ Some code → AllPairs (λ (a b : Demand). a.line ≢ b.line) change.demands
  new_apart code is = subst (λ o. IfSome o (λ _. AllPairs (λ (a b : Demand). a.line ≢ b.line) change.demands)) is fits.lines

  module _ (has : HasLines content) where
    ordered_then : (number : ℕ) (demand : Demand) → demand_at (changed content change) number ≡ Some demand → has_order (changed content change) demand.order ≡ true
    ordered_then number demand is = elim (came number demand is) [
      | inl was ↦ order_kept content change.order demand.order (ap (has_order content) (sym was.order) ∙ has.ordered number was.before was.found)
      | inr new ↦ lines_there change.order change.extended demand.order new.of fits.extended
    ]

    -- a demand that was there hasn't the line of a new one of its order
    apart : (a b : ℕ) (one other : Demand) → HasStayed content a one → IsBrought content change b other → one.order ≡ other.order → one.line ≢ other.line
    apart a b one other was new same line = new.unlike a was.before was.found (was.order ∙ same) (was.line ∙ line)

    different_then : AreDifferent (changed content change)
    different_then a b one other here there order line = elim (came a one here) [
      | inl was ↦ elim (came b other there) [
        | inl were ↦ has.different a b was.before were.before was.found were.found (was.order ∙ order ∙ sym were.order) (was.line ∙ line ∙ sym were.line)
        | inr new ↦ absurd (apart a b one other was new order line)
      ]
      | inr new ↦ elim (came b other there) [
        | inl was ↦ absurd (apart b a other one was new (sym order) (sym line))
        | inr more ↦ elim (pair_in (λ (x y : Demand). x.line ≢ y.line) change.demands (new_apart one.order new.of) one other new.among more.among) [
          | inl same ↦ sym new.numbered ∙ ap (λ (d : Demand). d.number) same ∙ more.numbered
          | inr unlike ↦ elim unlike [ inl differ ↦ absurd (differ line) | inr differ ↦ absurd (differ (sym line)) ]
        ]
      ]
    ]

    pub lines_kept : HasLines (changed content change)
    lines_kept = record { ordered = ordered_then; different = different_then }

no_demand : (number : ℕ) (demand : Demand) → demand_at fresh number ≡ Some demand → ⊥
no_demand number demand is = none_some demand (sym (get-empty nat_cmp number) ∙ is)

pub fresh_lines : HasLines fresh
fresh_lines = record {
  ordered = λ number demand is. absurd (no_demand number demand is);
  different = λ a b one other here there order line. absurd (no_demand a one here);
}
