-- Of each solution one that makes only picked wants: the other pieces become rests.
use Rattle.std.proofs.Common.{◌≡◌, ◌≢◌, ◌⊎◌, ℕ, ◌-◌, ◌+◌, ◌≤◌, Bool, true, false, cond, eqb, List, [], ◌∷◌, sym, refl, ap, subst, ◌∙◌, inl, inr, arith}
use Rattle.std.specs.Prelude.{All, Contains, IfSome, slice_get}
use Rattle.std.specs.Option.{option_map_or}
use Rattle.std.proofs.lemmas.Bool.{ne_eqb}
use Rattle.std.proofs.lemmas.Bool.Decides.{eqb_tells}
use Rattle.std.proofs.lemmas.List.Elements.{All-cons, All-head, All-nil, All-tail}
use Rattle.std.proofs.lemmas.List.Sums.{sum_by-cons}
use Rattle.std.proofs.Math.Nat.{le_refl}
use Rattle.cut_measure.specs.declared.sizes.Axis.TheVariants.{X, Y}
use Rattle.cut_tree.specs.Tree.{Tree, Rest, Piece, Trim, Cut, count_of}
use Rattle.cut_wants.specs.declared.wants.Want.{Want}
use Rattle.cut_wants.specs.Legal.{HasSides, HaveOwnDemands, IsWantedPiece, Legal}
use Rattle.cut_wants.proofs.LeafSums.{Contains-cases, Contains-head, Contains-tail}
use Rattle.cut_bound.specs.declared.stock.StockSize.{StockSize}
use Rattle.cut_bound.specs.Solutions.{CutUnit, Solution, IsCutUnit, IsSolution, IsCostBound, MakesAll, cost_of, pieces_of, units_at}
use Rattle.cut_bound.specs.Prices.{ArePicked, at_price}

-- two wants of one demand are one
one_want : (xs : List Want) (x y : Want) → HaveOwnDemands xs → Contains xs x → Contains xs y → x.demand ≡ y.demand → x ≡ y
one_want [] x y own has also same = absurd (omega (arith, has.1))
one_want (z ∷ zs) x y own has also same =
    elim (Contains-cases z zs x has) [
      | inl e ↦ elim (Contains-cases z zs y also) [
        | inl f ↦ sym e ∙ f
        | inr h ↦ absurd (own.0 y h (sym same ∙ ap (λ (w : Want). w.demand) (sym e)))
      ]
      | inr g ↦ elim (Contains-cases z zs y also) [
        | inl f ↦ absurd (own.0 x g (same ∙ ap (λ (w : Want). w.demand) (sym f)))
        | inr h ↦ one_want zs x y own.1 g h same
      ]
    ]

-- a want of a demand, or none
record IsFound (xs : List Want) (d : ℕ) : Type 0 where
  want : Want
  there : Contains xs want
  same : want.demand ≡ d

find_demand : (xs : List Want) (d : ℕ) → IsFound xs d ⊎ ((x : Want) → Contains xs x → x.demand ≢ d)
find_demand [] d = inr (λ x has. absurd (omega (arith, has.1)))
find_demand (y ∷ ys) d =
    elim (eqb_tells y.demand d) [
      | inl (test, same) ↦ inl (record { want = y; there = Contains-head y ys; same = same })
      | inr (test, other) ↦ elim (find_demand ys d) [
        | inl f ↦ inl (record { want = f.want; there = Contains-tail y ys f.want f.there; same = f.same })
        | inr none ↦ inr (λ x has. elim (Contains-cases y ys x has) [
          | inl e ↦ subst (λ (z : Want). z.demand ≢ d) e other
          | inr h ↦ none x h
        ])
      ]
    ]

priced_sides : (y : Want) (p : ℕ) (turned : Bool) (w h : ℕ) → HasSides y turned w h → HasSides (at_price y p) turned w h
priced_sides y p false w h is = is
priced_sides y p true w h is = is

-- a legal tree of the picked wants, with all the pieces of them that t has
record IsPickedTree (picked : List Want) (k w h : ℕ) (t : Tree) : Type 0 where
  tree : Tree
  legal : Legal picked k tree w h
  enough : (x : Want) → Contains picked x → count_of t x.demand ≤ count_of tree x.demand

picked_piece : (wants picked : List Want) (k w h e : ℕ) (turned : Bool) → HaveOwnDemands wants → ArePicked wants picked → IsWantedPiece wants e turned w h → IsPickedTree picked k w h (Piece e turned)
picked_piece wants picked k w h e turned own are piece =
    elim (find_demand picked e) [
      | inl f ↦
          let x = f.want in
          let is = are x f.there in
          let demands : is.want.demand ≡ piece.0.demand = sym (ap (λ (z : Want). z.demand) is.same) ∙ f.same ∙ sym piece.2 in
          let one : piece.0 ≡ is.want = one_want wants piece.0 is.want own piece.1 is.there (sym demands) in
          let sides : HasSides is.want turned w h = subst (λ (z : Want). HasSides z turned w h) one piece.3 in
          record {
            tree = Piece e turned;
            legal = (x, f.there, f.same, subst (λ (z : Want). HasSides z turned w h) (sym is.same) (priced_sides is.want x.worth turned w h sides));
            enough = λ y has. le_refl (count_of (Piece e turned) y.demand);
          }
      | inr none ↦ record {
        tree = Rest;
        legal = tt;
        enough = λ y has.
            let other : cond {A = ℕ} (eqb e y.demand) 1 0 ≡ 0 = rw (ne_eqb e y.demand (λ q. none y has (sym q))) refl in
            omega (arith, other);
      }
    ]

picked_tree : (wants picked : List Want) (k : ℕ) (t : Tree) (w h : ℕ) → HaveOwnDemands wants → ArePicked wants picked → Legal wants k t w h → IsPickedTree picked k w h t
picked_tree wants picked k Rest w h own are l = record { tree = Rest; legal = tt; enough = λ x has. omega arith }
picked_tree wants picked k (Piece e b) w h own are l = picked_piece wants picked k w h e b own are l
picked_tree wants picked k (Trim X a t) w h own are l =
    let r = picked_tree wants picked k t a h own are l.3 in
    record { tree = Trim X a r.tree; legal = (l.0, l.1, l.2, r.legal); enough = r.enough }
picked_tree wants picked k (Trim Y a t) w h own are l =
    let r = picked_tree wants picked k t w a own are l.3 in
    record { tree = Trim Y a r.tree; legal = (l.0, l.1, l.2, r.legal); enough = r.enough }
picked_tree wants picked k (Cut X a t u) w h own are l =
    let r = picked_tree wants picked k t a h own are l.2 in
    let q = picked_tree wants picked k u (w - a - k) h own are l.3 in
    record { tree = Cut X a r.tree q.tree; legal = (l.0, l.1, r.legal, q.legal); enough = λ x has. omega (arith, r.enough x has, q.enough x has) }
picked_tree wants picked k (Cut Y a t u) w h own are l =
    let r = picked_tree wants picked k t w a own are l.2 in
    let q = picked_tree wants picked k u w (h - a - k) own are l.3 in
    record { tree = Cut Y a r.tree q.tree; legal = (l.0, l.1, r.legal, q.legal); enough = λ x has. omega (arith, r.enough x has, q.enough x has) }

-- units of the same sizes, with all the pieces of the picked wants
record IsPickedSolution (picked : List Want) (k : ℕ) (sizes : List StockSize) (us : Solution) : Type 0 where
  units : Solution
  legal : All (IsCutUnit picked k sizes) units
  same_units : (place : ℕ) → units_at units place ≡ units_at us place
  same_cost : cost_of sizes units ≡ cost_of sizes us
  enough : (x : Want) → Contains picked x → pieces_of us x.demand ≤ pieces_of units x.demand

picked_solution : (wants picked : List Want) (k : ℕ) (sizes : List StockSize) (us : Solution) → HaveOwnDemands wants → ArePicked wants picked → All (IsCutUnit wants k sizes) us
    → IsPickedSolution picked k sizes us
picked_solution wants picked k sizes [] own are legal =
    record { units = []; legal = All-nil (IsCutUnit picked k sizes); same_units = λ p. refl; same_cost = refl; enough = λ x has. omega arith }
picked_solution wants picked k sizes (u ∷ us) own are legal =
    let is = All-head (IsCutUnit wants k sizes) u us legal in
    let r = picked_tree wants picked k u.tree is.stock.size.w is.stock.size.h own are is.legal in
    let below = picked_solution wants picked k sizes us own are (All-tail (IsCutUnit wants k sizes) u us legal) in
    let v : CutUnit = record { place = u.place; tree = r.tree } in
    let cut : IsCutUnit picked k sizes v = record { stock = is.stock; there = is.there; legal = r.legal } in
    let cost = λ (x : CutUnit). option_map_or (λ (s : StockSize). s.cost) (slice_get sizes x.place) 0 in
    record {
      units = v ∷ below.units;
      legal = All-cons (IsCutUnit picked k sizes) v below.units cut below.legal;
      same_units = λ p.
          sum_by-cons (λ (x : CutUnit). cond (eqb x.place p) 1 0) v below.units ∙ ap (λ n. cond (eqb u.place p) 1 0 + n) (below.same_units p)
          ∙ sym (sum_by-cons (λ (x : CutUnit). cond (eqb x.place p) 1 0) u us);
      same_cost = sum_by-cons cost v below.units ∙ ap (λ n. cost u + n) below.same_cost ∙ sym (sum_by-cons cost u us);
      enough = λ x has.
          omega (
            arith,
            sum_by-cons (λ (y : CutUnit). count_of y.tree x.demand) v below.units,
            sum_by-cons (λ (y : CutUnit). count_of y.tree x.demand) u us,
            below.enough x has,
            r.enough x has,
          );
    }

-- a bound for the picked wants is one for all
pub picked_bound : (wants picked : List Want) (k : ℕ) (sizes : List StockSize) (bound : ℕ) → HaveOwnDemands wants → ArePicked wants picked → IsCostBound picked k sizes bound
    → IsCostBound wants k sizes bound
picked_bound wants picked k sizes bound own are least us is makes =
    let p = picked_solution wants picked k sizes us own are is.legal in
    let cut : IsSolution picked k sizes p.units = record {
      legal = p.legal;
      at_hand = λ place s there. subst (λ m. IfSome s.limit (λ n. m ≤ n)) (sym (p.same_units place)) (is.at_hand place s there);
    } in
    let all : MakesAll picked p.units = λ x has.
    let one = are x has in
    omega (
      arith,
      makes one.want one.there,
      ap (λ (z : Want). z.left) one.same,
      ap (λ d. pieces_of us d) (ap (λ (z : Want). z.demand) one.same),
      p.enough x has,
    ) in
    omega (arith, least p.units cut all, p.same_cost)
