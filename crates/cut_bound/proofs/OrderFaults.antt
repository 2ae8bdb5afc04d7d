-- What the tables and the bound need holds where an order has no fault.
use Rattle.std.proofs.Common.{◌≡◌, ℕ, zero, suc, ◌+◌, ◌<◌, ◌≤◌, Bool, true, false, List, [], ◌∷◌, ◌++◌, length, map, take, get_or, Option, Some, None, sym, refl, ap, subst, ◌∙◌, inl, inr, arith}
use Rattle.std.specs.Prelude.{All, Contains, ◌||◌, ◌==◌, nat_lt, if◌then◌else◌}
use Rattle.std.specs.List.{list_any}
use Rattle.std.proofs.lemmas.Bool.{eqb-false, false≢true, ltb-false}
use Rattle.std.proofs.lemmas.List.{map-append, take_more}
use Rattle.std.proofs.lemmas.List.Elements.{All-cons, All-get_or, All-head, All-map, All-nil, All-push, All-tail}
use Rattle.cut_measure.specs.declared.sizes.Kind.{Kind}
use Rattle.cut_measure.specs.declared.sizes.Kind.TheVariants.{Bar, Sheet}
use Rattle.cut_measure.specs.Measures.{Size}
use Rattle.cut_tree.specs.Tree.{Tree, Piece, Rest, Trim, Cut, leaf_sum}
use Rattle.cut_wants.specs.declared.wants.Want.{Want}
use Rattle.cut_wants.specs.Legal.{HaveOwnDemands, of_demand}
use Rattle.cut_bars.specs.Counts.{AreUprightOfHeightOne}
use Rattle.cut_sheets.proofs.SheetSteps.{ceiling_holds}
use Rattle.cut_sheets.specs.Bound.{worth_left}
use Rattle.cut_sheets.specs.Rounded.{IsStep}
use Rattle.cut_plan.specs.declared.faults.PlanFault.{PlanFault}
use Rattle.cut_plan.specs.declared.faults.PlanFault.TheVariants.{NothingFits}
use Rattle.cut_plan.specs.Faults.{are_bad_wants, is_fitting, is_short}
use Rattle.cut_plan.proofs.Faultless as facts
use Rattle.cut_classes.specs.Classes.{Classes}
use Rattle.cut_classes.specs.Grids.{AreUsable}
use Rattle.cut_classes.proofs.LegalTrees.{ceiling_bounds}
use Rattle.cut_bound.specs.declared.limits.TheConstants.{MAX_ORDER_WANTS}
use Rattle.cut_bound.specs.declared.stock.StockSize.{StockSize}
use Rattle.cut_bound.specs.declared.stock.BoundedSize.{BoundedSize}
use Rattle.cut_bound.specs.Solutions.{IsCostBound}
use Rattle.cut_bound.specs.Bounds.{AreBounded, IsGreatestCost, IsMost, SetsPrice, cost_at, sizes_of}
use Rattle.cut_bound.specs.UnitBounds.{CanBeBounded, IsUnitBound, is_large, wants_in_bound}
use Rattle.cut_bound.specs.Prices.{is_below_step, priced, step_of}
use Rattle.cut_bound.specs.Orders.{IsCommonDivisor, IsPricedBound, IsBoundByUnits, reported_cost, cost_fault, fault_by, is_bad_step, is_no_step, order_fault}
use Rattle.cut_bound.proofs.BarRatings.{bar_most}
use Rattle.cut_bound.proofs.Multiples.{multiple_bound}
use Rattle.cut_bound.proofs.PaidWorths.{bound_holds}
use Rattle.cut_bound.proofs.ClassRatings.{far, far_classes, far_some, far_usable, inside_far, bounded_none, bounded_own, bounded_picked, unrated_classes}
use Rattle.cut_bound.proofs.PickedWants.{picked_bound}
use Rattle.cut_bound.proofs.PricedWants.{each_priced, is_price, priced_few, priced_none, priced_own, priced_picked}

-- ---- no fault

pub record IsFaultless (bad_step : Bool) (kind : Kind) (k : ℕ) (s : Option ℕ) (sizes : List StockSize) (wants : List Want) : Type 0 where
  pub in_range : are_bad_wants MAX_ORDER_WANTS kind wants ≡ false
  pub stepped : bad_step ≡ false
  pub small : list_any (λ z. is_large kind z.size k s) sizes ≡ false
  pub fits : list_any (λ z. list_any (is_fitting z.size) wants) sizes ≡ true

-- a choice that gives nothing
past : (b : Bool) (f : PlanFault) (o : Option PlanFault) → (if b then Some f else o) ≡ None → (b ≡ false) × (o ≡ None)
past true f o e = absurd (cc)
past false f o e = (refl, e)

chosen : (b : Bool) → (if b then None else Some NothingFits) ≡ None → b ≡ true
chosen true e = refl
chosen false e = absurd (cc)

pub faultless : (bad_step : Bool) (kind : Kind) (k : ℕ) (s : Option ℕ) (sizes : List StockSize) (wants : List Want) → fault_by bad_step kind k s sizes wants ≡ None → IsFaultless bad_step kind k s sizes wants
faultless bad_step kind k s sizes wants e =
    let a = past (are_bad_wants MAX_ORDER_WANTS kind wants) _ _ e in
    let b = past bad_step _ _ a.1 in
    let c = past (list_any (λ (z : StockSize). is_large kind z.size k s) sizes) _ _ b.1 in
    record { in_range = a.0; stepped = b.0; small = c.0; fits = chosen _ c.1 }

-- a step that no want is shorter than is one
some_step : (kind : Kind) (k : ℕ) (s : Option ℕ) (wants : List Want) → is_bad_step kind k s wants ≡ false → is_no_step kind s ≡ false
some_step Bar k s wants e = refl
some_step Sheet k None wants e = refl
some_step Sheet k (Some s) wants e = neither_first _ _ e
  where
    neither_first : (a b : Bool) → (a || b) ≡ false → a ≡ false
    neither_first true b e = absurd (false≢true (sym e))
    neither_first false b e = refl

pub cost_faultless : (kind : Kind) (k : ℕ) (s : Option ℕ) (sizes : List StockSize) (wants : List Want) → cost_fault kind k s sizes wants ≡ None → order_fault kind k s sizes wants ≡ None
cost_faultless kind k s sizes wants e =
    let f = faultless (is_bad_step kind k s wants) kind k s sizes wants e in
    rw (f.in_range, some_step kind k s wants f.stepped, f.small, f.fits) refl

-- ---- what the tables need

none_large : (kind : Kind) (k : ℕ) (s : Option ℕ) (zs : List StockSize) → list_any (λ z. is_large kind z.size k s) zs ≡ false → All (λ z. is_large kind z.size k s ≡ false) zs
none_large kind k s [] e = All-nil (λ (z : StockSize). is_large kind z.size k s ≡ false)
none_large kind k s (z ∷ zs) e =
    let n = parts (is_large kind z.size k s) (list_any (λ (y : StockSize). is_large kind y.size k s) zs) e in
    All-cons (λ (y : StockSize). is_large kind y.size k s ≡ false) z zs n.0 (none_large kind k s zs n.1)
  where
    parts : (a b : Bool) → (a || b) ≡ false → (a ≡ false) × (b ≡ false)
    parts true b e = absurd (false≢true (sym e))
    parts false b e = (refl, e)

pub ratable : (kind : Kind) (k : ℕ) (o : Option ℕ) (sizes : List StockSize) (wants : List Want) (ns : List ℕ) → order_fault kind k o sizes wants ≡ None
    → CanBeBounded kind k o sizes (priced kind k (step_of o) wants ns)
ratable kind k o sizes wants ns e =
    record {
      own = priced_own kind k s wants ns (facts.own _ kind wants f.in_range);
      modest = λ x has. record { worth = omega (arith, (in_range x has).worth); left = omega (arith, (in_range x has).left) };
      worthy = λ x has. omega (arith, (in_range x has).worth);
      total = omega (arith, facts.left_small (priced kind k s wants ns) in_range, priced_few kind k s wants ns, facts.few _ kind wants f.in_range);
      flat = flat kind refl;
      stepped = stepped;
      small = none_large kind k o sizes f.small;
    }
  where
    s : ℕ
    s = step_of o

    f : IsFaultless (is_no_step kind o) kind k o sizes wants
    f = faultless (is_no_step kind o) kind k o sizes wants e

    in_range : (x : Want) → Contains (priced kind k s wants ns) x → facts.IsInRange x
    in_range x has =
        let p = each_priced kind k s wants ns x has in
        let price = is_price kind k s p.picked.want x.worth p.price in
        let old = facts.ranges _ kind wants f.in_range p.picked.want p.picked.there in
        let left : x.left ≡ p.picked.want.left = ap (λ (z : Want). z.left) p.picked.same in
        record { worth = (price.some, price.most); left = (omega (arith, left, old.left), omega (arith, left, old.left)) }

    flat : (some : Kind) → kind ≡ some → some ≡ Bar → AreUprightOfHeightOne (priced kind k s wants ns)
    flat some same bar x has =
        let p = each_priced kind k s wants ns x has in
        let all = facts.flat _ wants (subst (λ (q : Kind). are_bad_wants MAX_ORDER_WANTS q wants ≡ false) (same ∙ bar) f.in_range) in
        let old = all p.picked.want p.picked.there in
        record { flat = ap (λ (z : Want). z.size.h) p.picked.same ∙ old.flat; upright = ap (λ (z : Want). z.may_turn) p.picked.same ∙ old.upright }

    stepped : kind ≡ Sheet → (n : ℕ) → o ≡ Some n → IsStep k n (priced kind k s wants ns)
    stepped sheet n is =
        let step : (n == 0) ≡ false =
        subst (λ (q : Kind). is_no_step q (Some n) ≡ false) sheet (subst (λ (p : Option ℕ). is_no_step kind p ≡ false) is f.stepped) in
        let other = eqb-false n 0 step in
        record {
          some = omega (arith, other);
          within = λ x has.
              let p = each_priced kind k s wants ns x has in
              let price = is_price kind k s p.picked.want x.worth p.price in
              let above : is_short k n p.picked.want ≡ false =
              subst (λ (q : Kind). is_below_step q k n p.picked.want ≡ false) sheet (subst (λ (r : Option ℕ). is_below_step kind k (step_of r) p.picked.want ≡ false) is price.stepped) in
              let m = parts (nat_lt (p.picked.want.size.w + k) n) (nat_lt (p.picked.want.size.h + k) n) above in
              let w : n ≤ p.picked.want.size.w + k = ltb-false (p.picked.want.size.w + k) n m.0 in
              let h : n ≤ p.picked.want.size.h + k = ltb-false (p.picked.want.size.h + k) n m.1 in
              (omega (arith, w, ap (λ (z : Want). z.size.w) p.picked.same), omega (arith, h, ap (λ (z : Want). z.size.h) p.picked.same));
        }
      where
        parts : (a b : Bool) → (a || b) ≡ false → (a ≡ false) × (b ≡ false)
        parts true b e = absurd (false≢true (sym e))
        parts false b e = (refl, e)

-- ---- one more size gets its bound

pub each_size : (P : StockSize → Type 0) (zs : List StockSize) (i : ℕ) (z : StockSize) → i < length zs → z ≡ get_or zs i z → All P zs → P z
each_size P zs i z lt is all = subst P (sym is) (All-get_or P zs i z lt all)

pub bounded_next : (P : BoundedSize → Type 0) (sizes : List StockSize) (old new : List BoundedSize) (i : ℕ) (z : StockSize) (best : ℕ) → sizes_of old ≡ take i sizes → All P old → i < length sizes
    → z ≡ get_or sizes i z → P (record { stock = z; best = best }) → new ≡ old ++ record { stock = z; best = best } ∷ [] → (sizes_of new ≡ take (i + 1) sizes) × All P new
bounded_next P sizes old new i z best same all lt is rate grown =
    let r : BoundedSize = record { stock = z; best = best } in (
      ap sizes_of grown ∙ map-append (λ (q : BoundedSize). q.stock) old (r ∷ []) ∙ ap (λ zs. zs ++ z ∷ []) same ∙ ap (λ y. take i sizes ++ y ∷ []) is ∙ sym (take_more sizes i z lt),
      subst (λ (rs : List BoundedSize). All P rs) (sym grown) (All-push P old r all rate),
    )

-- ---- the greatest cost is a bound

pub greatest_holds : (wants : List Want) (k : ℕ) (sizes : List StockSize) (bounded : List BoundedSize) (cost : ℕ) → HaveOwnDemands wants → AreBounded wants k bounded → sizes_of bounded ≡ sizes
    → IsGreatestCost bounded (worth_left wants) cost → IsCostBound wants k sizes cost
greatest_holds wants k sizes bounded cost own most same g =
    subst (λ zs. IsCostBound wants k zs cost) same (λ us is all.
    elim g.reached [
      | inl none ↦ omega arith
      | inr (i, t, lt, at, (sets, e)) ↦ omega (arith, bound_holds wants k bounded t own most sets us is all)
    ])

rating_most : (kind : Kind) (k : ℕ) (step : Option ℕ) (xs ys : Classes) (sizes : List StockSize) (wants : List Want) (r : BoundedSize) → CanBeBounded kind k step sizes wants
    → (kind ≡ Sheet → step ≡ None → AreUsable xs × AreUsable ys) → (kind ≡ Bar → r.stock.size.h ≡ 1) → IsUnitBound kind k step xs ys (wants_in_bound kind k step xs ys wants) r.stock.size r.best
    → IsMost (wants_in_bound kind k step xs ys wants) k r.stock.size r.best
rating_most Bar k step xs ys sizes wants r good usable flat rate = bar_most wants k r.stock.size r.best good.own (good.flat refl) (flat refl) rate
rating_most Sheet k (Some s) xs ys sizes wants r good usable flat rate = λ t legal within. ceiling_holds wants k s r.stock.size.w r.stock.size.h r.best (good.stepped refl s refl) rate t legal
rating_most Sheet k None xs ys sizes wants r good usable flat rate = λ t legal within.
    let u = usable refl refl in
    let most =
    ceiling_bounds (wants_in_bound Sheet k None xs ys wants) k xs ys rate.table r.stock.size.w r.stock.size.h rate.worth.i rate.worth.j t (bounded_own Sheet k None xs ys wants good.own)
    (record { some = omega (arith, u.0.some); none = u.0.none }) (record { some = omega (arith, u.1.some); none = u.1.none }) rate.least.ceiling rate.worth.in_across rate.worth.in_down legal in
    omega (arith, most, rate.worth.read)

pub bounded_holds : (kind : Kind) (k : ℕ) (step : Option ℕ) (sizes : List StockSize) (wants : List Want) (bound : ℕ) → CanBeBounded kind k step sizes wants → (kind ≡ Bar → All (λ z. z.size.h ≡ 1) sizes)
    → IsBoundByUnits kind k step sizes wants bound → IsCostBound wants k sizes bound
bounded_holds kind k step sizes wants bound good flat b =
    picked_bound wants bounded k sizes bound good.own (bounded_picked kind k step b.across b.down wants)
    (subst (IsCostBound bounded k sizes) (sym b.reported)
    (multiple_bound bounded k sizes b.cost b.divisor b.common (greatest_holds bounded k sizes b.bounded b.cost (bounded_own kind k step b.across b.down wants good.own) most b.all_bounded b.greatest)))
  where
    bounded : List Want
    bounded = wants_in_bound kind k step b.across b.down wants

    high : (i : ℕ) (d : BoundedSize) → i < length b.bounded → kind ≡ Bar → (get_or b.bounded i d).stock.size.h ≡ 1
    high i d lt bar =
        let all = subst (λ zs. All (λ (z : StockSize). z.size.h ≡ 1) zs) (sym b.all_bounded) (flat bar) in
        flat_at b.bounded i d lt all
      where
        flat_at : (rs : List BoundedSize) (i : ℕ) (d : BoundedSize) → i < length rs → All (λ (z : StockSize). z.size.h ≡ 1) (sizes_of rs) → (get_or rs i d).stock.size.h ≡ 1
        flat_at [] i d lt all = absurd (omega arith)
        flat_at (r ∷ rs) zero d lt all = All-head (λ (z : StockSize). z.size.h ≡ 1) r.stock (sizes_of rs) all
        flat_at (r ∷ rs) (suc i) d lt all = flat_at rs i d (omega arith) (All-tail (λ (z : StockSize). z.size.h ≡ 1) r.stock (sizes_of rs) all)

    most : AreBounded bounded k b.bounded
    most = λ i d lt. rating_most kind k step b.across b.down sizes wants (get_or b.bounded i d) good b.usable (high i d lt) (b.unit_bounds i d lt)

pub priced_holds : (kind : Kind) (k : ℕ) (step : Option ℕ) (sizes : List StockSize) (wants : List Want) (ns : List ℕ) (bound : ℕ) → order_fault kind k step sizes wants ≡ None
    → (kind ≡ Bar → All (λ z. z.size.h ≡ 1) sizes) → IsBoundByUnits kind k step sizes (priced kind k (step_of step) wants ns) bound → IsPricedBound kind k step sizes wants ns bound
priced_holds kind k step sizes wants ns bound e flat b =
    let f = faultless (is_no_step kind step) kind k step sizes wants e in
    record {
      exact = b;
      least =
          picked_bound wants (priced kind k (step_of step) wants ns) k sizes bound (facts.own _ kind wants f.in_range) (priced_picked kind k (step_of step) wants ns)
          (bounded_holds kind k step sizes (priced kind k (step_of step) wants ns) bound (ratable kind k step sizes wants ns e) flat b);
    }

-- ---- no prices

worthless : (t : Tree) → leaf_sum (of_demand (λ x. x.worth) []) t ≡ 0
worthless Rest = refl
worthless (Piece d turned) = refl
worthless (Trim axis a t) = worthless t
worthless (Cut axis a t u) = omega (arith, worthless t, worthless u)

no_rating : (kind : Kind) (k : ℕ) (step : Option ℕ) (most : ℕ) (size : Size) → size.w + k < most → size.h + k < most → IsUnitBound kind k step (far_classes most) (far_classes most) [] size 0
no_rating Bar k step most size wide high = record {
  counts = [];
  best_counts = record { within = tt; fit = omega arith; most = λ others few fit. omega arith };
  worth = refl;
}
no_rating Sheet k (Some s) most size wide high = record { found = (Rest, tt, refl); most = λ t legal. omega (arith, worthless t) }
no_rating Sheet k None most size wide high = unrated_classes k most size wide high

unrated : StockSize → BoundedSize
unrated s = record { stock = s; best = 0 }

all_unrated : (sizes : List StockSize) → sizes_of (map unrated sizes) ≡ sizes
unfolding unrated
all_unrated [] = refl
all_unrated (z ∷ zs) = ap (λ ys. z ∷ ys) (all_unrated zs)

pub unpriced : (kind : Kind) (k : ℕ) (step : Option ℕ) (sizes : List StockSize) (wants : List Want) (divisor bound : ℕ) → IsCommonDivisor sizes divisor → bound ≡ reported_cost divisor 0
    → IsPricedBound kind k step sizes wants [] bound
unfolding unrated
unpriced kind k step sizes wants divisor bound common reported =
    record {
      exact = record {
        across = xs;
        down = xs;
        usable = λ sheet none. (far_usable (far k sizes) (far_some k sizes), far_usable (far k sizes) (far_some k sizes));
        bounded = map unrated sizes;
        all_bounded = all_unrated sizes;
        unit_bounds =
            All-map (λ (r : BoundedSize). IsUnitBound kind k step xs xs (wants_in_bound kind k step xs xs (priced kind k (step_of step) wants [])) r.stock.size r.best) unrated sizes
            (λ i d lt.
            let inside = inside_far k sizes i d lt in
            subst (λ (ws : List Want). IsUnitBound kind k step xs xs ws (get_or sizes i d).size 0) (sym none) (no_rating kind k step (far k sizes) (get_or sizes i d).size inside.0 inside.1));
        cost = 0;
        greatest = record {
          reached = inl refl;
          most =
              All-map (λ (t : BoundedSize). SetsPrice t (map unrated sizes) → cost_at t (map unrated sizes) (worth_left (wants_in_bound kind k step xs xs (priced kind k (step_of step) wants []))) ≤ 0) unrated sizes
              (λ i d lt sets. absurd (omega (arith, sets.some)));
        };
        divisor = divisor;
        common = common;
        reported = reported;
      };
      least = subst (IsCostBound wants k sizes) (sym reported) (multiple_bound wants k sizes 0 divisor common (λ us is makes. omega arith));
    }
  where
    xs : Classes
    xs = far_classes (far k sizes)

    none : wants_in_bound kind k step xs xs (priced kind k (step_of step) wants []) ≡ []
    none = ap (λ ws. wants_in_bound kind k step xs xs ws) (priced_none kind k (step_of step) wants) ∙ bounded_none kind k step xs xs
