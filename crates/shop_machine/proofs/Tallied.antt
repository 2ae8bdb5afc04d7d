-- The totals of each material, when a part gets another state and becomes other parts.
use Rattle.std.proofs.Common.{◌≡◌, ℕ, ◌+◌, ◌-◌, ◌*◌, ◌≤◌, ◌<◌, ◌^◌, List, [], ◌∷◌, Bool, true, false, refl, sym, ap, ◌∙◌, arith, inl, inr}
use Rattle.std.specs.Prelude.{Some, None, sum_by, ◌&&◌, nat_lt, if◌then◌else◌}
use Rattle.std.specs.Ordering.{is_eq}
use Rattle.std.specs.FinMap.{FinMap, get, values}
use Rattle.std.proofs.lemmas.Bool.{le-leb, lt-ltb}
use Rattle.std.proofs.lemmas.List.Sums.{sum_by-cons, sum_by-le-sum_by}
use Rattle.std.proofs.lemmas.Nat.{mul-le}
use Rattle.cut_measure.specs.declared.ranges.TheConstants.{MAX_WIDTH, MAX_HEIGHT}
use Rattle.cut_measure.specs.Codes.{code_cmp}
use Rattle.cut_measure.specs.Measures.{Size}
use Rattle.cut_measure.specs.Names.{name_cmp}
use Rattle.shop_records.specs.declared.records.Part.{Part}
use Rattle.shop_records.specs.declared.records.State.{State}
use Rattle.shop_records.specs.declared.records.State.TheVariants as state
use Rattle.shop_records.specs.declared.records.Totals.{Totals}
use Rattle.shop_records.specs.declared.records.Column.{Column}
use Rattle.shop_records.specs.declared.records.Column.TheVariants.{Received, Stock, Rack, Pieces, Kerf, Scrap, Returned}
use Rattle.shop_records.specs.Columns.{is_there, is_counted}
use Rattle.shop_records.specs.Content.{Content, part_at, cells_in, counts_for, totals_in, totals_of, in_state}
use Rattle.shop_machine.specs.Moving.{cells_counted, tally, can_move, has_cells, moved_totals, AreFew}
use Rattle.shop_records.specs.Elements.{IsIn}
use Rattle.shop_records.specs.WellFormed.{with_totals}
use Rattle.shop_records.proofs.Basics.{codes_total, codes_same, names_total, names_same, tied}
use Rattle.shop_records.proofs.Puts.{Pairwise, equal, sum_as, sum_none, sum_over}
use Rattle.shop_machine.proofs.AddedUp.{cells_as}
use Rattle.shop_machine.proofs.Moved.{moved, sum_moved}
use Rattle.shop_machine.proofs.Grown.{IsStock}

-- equal column by column
pub same_totals : (a b : Totals) → a.received ≡ b.received → a.stock ≡ b.stock → a.rack ≡ b.rack → a.pieces ≡ b.pieces → a.kerf ≡ b.kerf → a.scrap ≡ b.scrap
    → a.returned ≡ b.returned → a ≡ b
same_totals a b r s k p f c t i = record { received = r i; stock = s i; rack = k i; pieces = p i; kerf = f i; scrap = c i; returned = t i }

-- the sums of two lists of parts, equal column by column
pub same_sums : (code : List ℕ) (ps qs : List Part) → ((c : Column) → cells_in c code ps ≡ cells_in c code qs) → totals_in code ps ≡ totals_in code qs
same_sums code ps qs h =
    same_totals (totals_in code ps) (totals_in code qs) (h Received) (h Stock) (h Rack) (h Pieces) (h Kerf) (h Scrap) (h Returned)

-- the cells of parts of one material
pub of_material : (of code : List ℕ) (c : Column) (b : Bool) → is_eq (code_cmp of code) ≡ b → (ps : List Part) → ((p : Part) → IsIn p ps → p.material ≡ of)
    → sum_by (cells_as c code) ps ≡ (if b then cells_counted c ps else 0)
of_material of code c true e ps all =
    sum_as (cells_as c code) (λ p. if is_counted c p then p.size.w * p.size.h else 0) ps
    (λ p i. ap (λ (m : List ℕ). if is_eq (code_cmp m code) && is_counted c p then p.size.w * p.size.h else 0) (all p i)
    ∙ ap (λ b. if b && is_counted c p then p.size.w * p.size.h else 0) e)
of_material of code c false e ps all =
    sum_none (cells_as c code) ps
    (λ p i. ap (λ (m : List ℕ). if is_eq (code_cmp m code) && is_counted c p then p.size.w * p.size.h else 0) (all p i)
    ∙ ap (λ b. if b && is_counted c p then p.size.w * p.size.h else 0) e)

pub of_one : (part : Part) (code : List ℕ) (c : Column) (b : Bool) → is_eq (code_cmp part.material code) ≡ b → cells_as c code part ≡ (if b then cells_counted c (part ∷ []) else 0)
of_one part code c b e =
    let sum = of_material part.material code c b e (part ∷ []) (λ p i. by p i) in
    let one = sum_by-cons (cells_as c code) part [] in
    omega (arith, sum, one)
  where
    by : (p : Part) → IsIn p (part ∷ []) → p.material ≡ part.material
    by p (inl e) = ap (λ (q : Part). q.material) e
    by p (inr i) = absurd i

pub own : (code : List ℕ) → is_eq (code_cmp code code) ≡ true
own code = tied codes_total codes_same code code refl

-- a standing part is counted alike, reserved or not
as_standing : (c : Column) (part : Part) (s : State) → is_there s ≡ true → is_counted c (in_state s part) ≡ is_counted c (in_state state.Standing part)
as_standing c part state.Standing e = refl
as_standing c part (state.Reserved job) e = by c
  where
    by : (c : Column) → is_counted c (in_state (state.Reserved job) part) ≡ is_counted c (in_state state.Standing part)
    by Received = refl
    by Stock = refl
    by Rack = refl
    by Pieces = refl
    by Kerf = refl
    by Scrap = refl
    by Returned = refl
as_standing c part _ e = cc

-- the cells of a part that is there are in the sums
within : (m : FinMap name_cmp Part) (part : Part) → get m part.name ≡ Some part → (c : Column) (code : List ℕ) → cells_as c code part ≤ cells_in c code (values m)
within m part there c code =
    let empty : Size = record { w = 0; h = 0 } in
    let none : Part = record part { size = empty } in
    let over = sum_over names_total names_same (cells_as c code) m part.name part none there in
    let zero = by (counts_for c code none) in
    omega (arith, over, zero)
  where
    by : (b : Bool) → ◌≡◌ {A = ℕ} (if b then 0 * 0 else 0) 0
    by true = refl
    by false = refl

own_within : (m : FinMap name_cmp Part) (part : Part) → get m part.name ≡ Some part → (c : Column) → cells_counted c (part ∷ []) ≤ cells_in c part.material (values m)
own_within m part there c =
    let less = within m part there c part.material in
    let one = of_one part part.material c true (own part.material) in
    omega (arith, less, one)

-- no column has more than all the cells
pub few_tallied : (ps : List Part) (n : ℕ) → sum_by (λ (p : Part). p.size.w * p.size.h) ps ≡ n → AreFew n (tally ps)
few_tallied ps n is = record { stock = few Stock; rack = few Rack; pieces = few Pieces; kerf = few Kerf; scrap = few Scrap; returned = few Returned }
  where
    by : (b : Bool) (k : ℕ) → (if b then k else 0) ≤ k
    by true k = omega arith
    by false k = omega arith

    few : (c : Column) → cells_counted c ps ≤ n
    few c =
        let le = sum_by-le-sum_by (λ (p : Part). if is_counted c p then p.size.w * p.size.h else 0) (λ (p : Part). p.size.w * p.size.h) ps (λ p. by (is_counted c p) (p.size.w * p.size.h)) in
        omega (arith, le, is)

-- ---- a part that moves

module _ (m : FinMap name_cmp Part) (part : Part) (s : State) (made : List Part) (there : get m part.name ≡ Some part)
    (new : (x : Part) → IsIn x made → get m x.name ≡ None) (apart : Pairwise (λ (x y : Part). x.name ≡ y.name → ⊥) made) where
  abbrev after : FinMap name_cmp Part
  after = moved m part s made there new apart

  -- a standing part that stands again, or is reserved
  pub sums_stay : is_there part.state ≡ true → is_there s ≡ true → ((code : List ℕ) (c : Column) → sum_by (cells_as c code) made ≡ 0)
      → (code : List ℕ) → totals_in code (values after) ≡ totals_in code (values m)
  sums_stay stood stands none code =
      same_sums code (values after) (values m)
      (λ c.
      let sum = sum_moved m part s made there new apart (cells_as c code) in
      let same : cells_as c code (in_state s part) ≡ cells_as c code part =
      ap (λ b. if is_eq (code_cmp part.material code) && b then part.size.w * part.size.h else 0) (as_standing c part s stands ∙ sym (as_standing c part part.state stood)) in
      omega (arith, sum, same, none code c))

  -- a part of which these are the cells, column by column
  pub record Becomes (incoming : Totals) : Type 0 where
    pub stock : cells_counted Stock (in_state s part ∷ []) + cells_counted Stock made ≡ incoming.stock
    pub rack : cells_counted Rack (in_state s part ∷ []) + cells_counted Rack made ≡ incoming.rack
    pub pieces : cells_counted Pieces (in_state s part ∷ []) + cells_counted Pieces made ≡ incoming.pieces
    pub kerf : cells_counted Kerf (in_state s part ∷ []) + cells_counted Kerf made ≡ incoming.kerf
    pub scrap : cells_counted Scrap (in_state s part ∷ []) + cells_counted Scrap made ≡ incoming.scrap
    pub returned : cells_counted Returned (in_state s part ∷ []) + cells_counted Returned made ≡ incoming.returned

  module _ (all : (x : Part) → IsIn x made → x.material ≡ part.material) (none : (code : List ℕ) → sum_by (cells_as Received code) made ≡ 0) where
    column_moved : (c : Column) (code : List ℕ) (b : Bool) → is_eq (code_cmp part.material code) ≡ b
        → cells_in c code (values after) + (if b then cells_counted c (part ∷ []) else 0)
        ≡ cells_in c code (values m) + (if b then cells_counted c (in_state s part ∷ []) else 0) + (if b then cells_counted c made else 0)
    column_moved c code b e =
        let sum = sum_moved m part s made there new apart (cells_as c code) in
        let outgoing = of_one part code c b e in
        let put = of_one (in_state s part) code c b e in
        let more = of_material part.material code c b e made all in
        omega (arith, sum, outgoing, put, more)

    move_own : (c : Column) (incoming : ℕ) → cells_counted c (in_state s part ∷ []) + cells_counted c made ≡ incoming
        → cells_in c part.material (values after) ≡ cells_in c part.material (values m) - cells_counted c (part ∷ []) + incoming
    move_own c incoming is =
        let sum = column_moved c part.material true (own part.material) in
        let less = own_within m part there c in
        omega (arith, sum, less, is)

    stay : (c : Column) (code : List ℕ) → is_eq (code_cmp part.material code) ≡ false → cells_in c code (values after) ≡ cells_in c code (values m)
    stay c code e = let sum = column_moved c code false e in omega (arith, sum)

    received_stays : cells_in Received part.material (values after) ≡ cells_in Received part.material (values m)
    received_stays =
        let sum = sum_moved m part s made there new apart (cells_as Received part.material) in
        let no = none part.material in
        omega (arith, sum, no)

    -- each material has its sums
    pub sums_move : (incoming : Totals) → Becomes incoming → (code : List ℕ)
        → totals_in code (values after)
        ≡ with_totals (Some (record { material = part.material; totals = moved_totals part incoming (totals_in part.material (values m)) })) code (totals_in code (values m))
    sums_move incoming is code = by (is_eq (code_cmp part.material code)) refl
      where
        t : Totals
        t = totals_in part.material (values m)

        by : (b : Bool) → is_eq (code_cmp part.material code) ≡ b
            → totals_in code (values after) ≡ (if is_eq (code_cmp part.material code) then moved_totals part incoming (totals_in part.material (values m)) else totals_in code (values m))
        by true e =
            ap (λ c. totals_in c (values after)) (sym (codes_same part.material code (equal (code_cmp part.material code) e)))
            ∙ same_totals (totals_in part.material (values after)) (moved_totals part incoming (totals_in part.material (values m))) received_stays
            (move_own Stock incoming.stock is.stock) (move_own Rack incoming.rack is.rack) (move_own Pieces incoming.pieces is.pieces) (move_own Kerf incoming.kerf is.kerf)
            (move_own Scrap incoming.scrap is.scrap) (move_own Returned incoming.returned is.returned)
            ∙ sym (ap (λ b. if b then moved_totals part incoming (totals_in part.material (values m)) else totals_in code (values m)) e)
        by false e =
            same_sums code (values after) (values m) (λ c. stay c code e)
            ∙ sym (ap (λ b. if b then moved_totals part incoming (totals_in part.material (values m)) else totals_in code (values m)) e)

-- ---- the totals of a content hold its parts

pub moves : (outgoing most n : ℕ) → outgoing ≤ n → n + most < 2 ^ 64 → can_move outgoing most n ≡ true
moves outgoing most n held in_limit = ap (λ b. b && nat_lt (n + most) (2 ^ 64)) (le-leb outgoing n held) ∙ lt-ltb (n + most) (2 ^ 64) in_limit

pub six : (a b c d e f : Bool) → a ≡ true → b ≡ true → c ≡ true → d ≡ true → e ≡ true → f ≡ true → (a && b && c && d && e && f) ≡ true
six a b c d e f p q r s t u =
    ap (λ x. x && b && c && d && e && f) p ∙ ap (λ x. x && c && d && e && f) q ∙ ap (λ x. x && d && e && f) r ∙ ap (λ x. x && e && f) s ∙ ap (λ x. x && f) t ∙ u

pub held : (m : Content) (stock : IsStock m) (part : Part) → part_at m part.name ≡ Some part → has_cells part (totals_of m part.material) ≡ true
held m stock part there =
    let old = stock.parts part.name part there in
    let right = old.right in
    let bottom = old.bottom in
    let few = mul-le part.size.w part.size.h MAX_WIDTH MAX_HEIGHT (omega (arith, right)) (omega (arith, bottom)) in
    let most = stock.in_range.received part.material in
    let all = stock.in_range.adds_up part.material in
    let t : Totals = totals_of m part.material in
    let outgoing : Totals = tally (part ∷ []) in
    let cells : ℕ = part.size.w * part.size.h in
    six (can_move outgoing.stock cells t.stock) (can_move outgoing.rack cells t.rack) (can_move outgoing.pieces cells t.pieces) (can_move outgoing.kerf cells t.kerf) (can_move outgoing.scrap cells t.scrap)
    (can_move outgoing.returned cells t.returned)
    (moves outgoing.stock cells t.stock (own_within m.parts part there Stock) (omega (arith, few, most, all)))
    (moves outgoing.rack cells t.rack (own_within m.parts part there Rack) (omega (arith, few, most, all)))
    (moves outgoing.pieces cells t.pieces (own_within m.parts part there Pieces) (omega (arith, few, most, all)))
    (moves outgoing.kerf cells t.kerf (own_within m.parts part there Kerf) (omega (arith, few, most, all)))
    (moves outgoing.scrap cells t.scrap (own_within m.parts part there Scrap) (omega (arith, few, most, all)))
    (moves outgoing.returned cells t.returned (own_within m.parts part there Returned) (omega (arith, few, most, all)))
