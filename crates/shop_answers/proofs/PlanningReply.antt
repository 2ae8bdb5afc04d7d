-- A plan that is reported for a part can be reserved on it.
use Rattle.std.proofs.Common.{◌≡◌, ◌≢◌, ℕ, zero, suc, ◌+◌, ◌≤◌, ◌<◌, ◌⊎◌, inl, inr, List, [], ◌∷◌, length, nat_lt, slice_index_or, Bool, true, false, refl, sym, ap, subst, ◌∙◌, arith}
use Rattle.std.specs.Prelude.{Option, Some, None, ◌&&◌, ◌==◌, not, MatchOption, if◌then◌else◌}
use Rattle.std.specs.List.{list_any, cons_option}
use Rattle.std.specs.Option.{option_or}
use Rattle.std.specs.Cmp.Derive.{both_true}
use Rattle.std.proofs.lemmas.Bool.{not-false, eq-eqb, eqb-true}
use Rattle.std.proofs.lemmas.Bool.Decides.{nat_tests}
use Rattle.std.proofs.lemmas.Option.{MatchOption-at_none}
use Rattle.cut_measure.specs.declared.ranges.TheConstants.{MAX_NUMBERS}
use Rattle.cut_measure.specs.declared.sizes.Kind.{Kind}
use Rattle.cut_measure.specs.declared.sizes.Kind.TheVariants.{Bar, Sheet}
use Rattle.cut_measure.specs.Measures.{Size}
use Rattle.cut_measure.specs.Names.{Name}
use Rattle.cut_tree.specs.declared.leaves.Leaf.{Leaf}
use Rattle.cut_tree.specs.Tree.{Tree, count_of}
use Rattle.cut_tree.specs.Patterns.{Pattern, IsPlan}
use Rattle.cut_tree.specs.Spelling.{IsSpelling, text_of}
use Rattle.cut_tree.proofs.ListedLeaves.{all_listed}
use Rattle.cut_tree.proofs.ReadBack.{spells_itself}
use Rattle.cut_tree.proofs.SpelledTexts.{one_spelled}
use Rattle.cut_wants.specs.declared.wants.Want.{Want}
use Rattle.cut_wants.specs.Legal.{Legal, IsWantedPiece, IsWithinCounts, HasSides, of_demand}
use Rattle.cut_plan.specs.declared.faults.PlanFault.{PlanFault}
use Rattle.cut_plan.specs.declared.faults.PlanFault.TheVariants as fault
use Rattle.cut_plan.specs.Faults.{plan_fault}
use Rattle.shop_records.specs.declared.records.Material.{Material}
use Rattle.shop_records.specs.declared.records.Part.{Part}
use Rattle.shop_records.specs.declared.records.Demand.{Demand}
use Rattle.shop_records.specs.declared.refusals.Refusal.{Refusal}
use Rattle.shop_records.specs.declared.refusals.Refusal.TheVariants.{NoDemand, NoMaterial, NotStanding, WrongMaterial, WrongSize, BadTree, TooMany, NumbersSpent, BadWant, NoMemory, StoreFault}
use Rattle.shop_records.specs.declared.messages.Message.{Message}
use Rattle.shop_records.specs.declared.messages.Command.{Command}
use Rattle.shop_records.specs.declared.messages.Command.TheVariants.{Reserve}
use Rattle.shop_records.specs.declared.messages.Query.TheVariants as query
use Rattle.shop_records.specs.declared.messages.Reply.{Reply}
use Rattle.shop_records.specs.declared.messages.Reply.TheVariants as reply
use Rattle.shop_records.specs.Same.{same_code}
use Rattle.shop_records.specs.Columns.{is_free}
use Rattle.shop_records.specs.Messages.{Texts, message_id_of}
use Rattle.shop_records.specs.Readings.{Reading, unread, Plan, Lines, Problem, Again}
use Rattle.shop_records.specs.Content.{Content, material_at, part_at, demand_at, kept_at, material_of}
use Rattle.shop_machine.specs.Decisions.{first_of}
use Rattle.shop_machine.specs.Recounts.{plan_leaves}
use Rattle.shop_machine.specs.Reserving.{IsReading, HasNoPiece, fits_demand, leaf_refusal, leaves_refusal, is_over, is_too_many, plan_refusal, reserve_refusal}
use Rattle.shop_answers.specs.Planning.{are_bad_numbers, is_demand_number, demand_refusal, demands_refusal, numbers_refusal, left_of, want_of, wants_of, planned_size, planning_refusal, IsProposed, HasManyCuts, IsPlanned, IsPlanAnswer, planner_refusal}
use Rattle.shop_machine.specs.Machine.{Reads, refusal_of, Refuses, Step, StepNew}
use Rattle.shop_answers.specs.Queries.{Answers}
use Rattle.shop_records.specs.WellFormed.{IsWellFormed}
use Rattle.shop_records.specs.Elements.{IsIn}
use Rattle.shop_records.proofs.Basics.{all_in, same_some}
use Rattle.shop_machine.proofs.Allowed.{none_of, or_none}

-- ---- wants

in_of : {X : Type 0} (xs : List X) (x : X) (k : ℕ) → k < length xs → slice_index_or xs k x ≡ x → IsIn x xs
in_of [] x k l e = absurd (omega (arith, l))
in_of (y ∷ ys) x zero l e = inl (sym e)
in_of (y ∷ ys) x (suc k) l e = inr (in_of ys x k (omega (arith, l)) e)

module _ (at : ℕ → Option Demand) (material : List ℕ) where
  -- a want is what is left of a demand of this material
  record IsLeft (x : Want) : Type 0 where
    pub row : Demand
    pub found : at x.demand ≡ Some row
    pub of : same_code row.material material ≡ true
    pub size : x.size ≡ row.size
    pub turns : x.may_turn ≡ row.may_turn
    pub some : 1 ≤ left_of row

  left_by : (n : ℕ) (o : Option Demand) (x : Want) → at n ≡ o → demand_refusal material n o ≡ None → want_of n o ≡ Some x → IsLeft x
  left_by n None x is allowed e = cc
  left_by n (Some d) x is allowed e = by (left_of d == 0) refl e
    where
      by : (b : Bool) → (left_of d == 0) ≡ b
          → (if b then None else Some (let y : Want = record { demand = n; size = d.size; may_turn = d.may_turn; left = left_of d; worth = d.worth } in y)) ≡ Some x → IsLeft x
      by true z e = cc
      by false z e =
          let same = same_some (let y : Want = record { demand = n; size = d.size; may_turn = d.may_turn; left = left_of d; worth = d.worth } in y) x e in
          let code = none_of (not (same_code d.material material)) WrongMaterial None (none_of (not (is_demand_number n)) NoDemand _ allowed).1 in
          record {
            row = d;
            found = ap at (sym (ap (λ (y : Want). y.demand) same)) ∙ is;
            of = not-false (same_code d.material material) code.0;
            size = sym (ap (λ (y : Want). y.size) same);
            turns = sym (ap (λ (y : Want). y.may_turn) same);
            some = grind (arith, nat_tests);
          }

  want_left : (numbers : List ℕ) (x : Want) → demands_refusal at material numbers ≡ None → IsIn x (wants_of at numbers) → IsLeft x
  want_left [] x allowed i = absurd i
  want_left (n ∷ ns) x allowed i =
      let two = or_none (demand_refusal material n (at n)) (demands_refusal at material ns) allowed in
      by two.0 (want_left ns x two.1) (want_of n (at n)) refl i
    where
      by : demand_refusal material n (at n) ≡ None → (IsIn x (wants_of at ns) → IsLeft x) → (o : Option Want) → want_of n (at n) ≡ o → IsIn x (cons_option o (wants_of at ns)) → IsLeft x
      by first more None e i = more i
      by first more (Some y) e (inl same) = left_by n (at n) x refl first (e ∙ ap Some (sym same))
      by first more (Some y) e (inr i) = more i

  -- of a demand no more is wanted than is left
  left_most : (numbers : List ℕ) (n : ℕ) (d : Demand) → at n ≡ Some d → of_demand (λ x. x.left) (wants_of at numbers) n ≤ left_of d
  left_most [] n d is = omega arith
  left_most (m ∷ ms) n d is = by (left_most ms n d is) (at m) refl
    where
      same_left : of_demand (λ x. x.left) (wants_of at ms) n ≤ left_of d → (c : Demand) → at m ≡ Some c → (b : Bool) → (m == n) ≡ b
          → (if b then left_of c else of_demand (λ x. x.left) (wants_of at ms) n) ≤ left_of d
      same_left more c e true is_n = let same = same_some c d (sym e ∙ ap at (eqb-true m n is_n) ∙ is) in omega (arith, ap left_of same)
      same_left more c e false is_n = more

      some_left : of_demand (λ x. x.left) (wants_of at ms) n ≤ left_of d → (c : Demand) → at m ≡ Some c → (z : Bool) → (left_of c == 0) ≡ z
          → of_demand (λ x. x.left)
          (cons_option (if z then None else Some (let y : Want = record { demand = m; size = c.size; may_turn = c.may_turn; left = left_of c; worth = c.worth } in y)) (wants_of at ms)) n
          ≤ left_of d
      some_left more c e true z = more
      some_left more c e false z = same_left more c e (m == n) refl

      by : of_demand (λ x. x.left) (wants_of at ms) n ≤ left_of d → (o : Option Demand) → at m ≡ o → of_demand (λ x. x.left) (cons_option (want_of m o) (wants_of at ms)) n ≤ left_of d
      by more None e = more
      by more (Some c) e = some_left more c e (left_of c == 0) refl

  -- ---- leaves

  fits : (leaf : Leaf) (d : Demand) (x : Want) → x.size ≡ d.size → x.may_turn ≡ d.may_turn → HasSides x leaf.turned leaf.w leaf.h → fits_demand leaf d ≡ true
  fits leaf d x size turns sides = by leaf.turned sides
    where
      by : (b : Bool) → HasSides x b leaf.w leaf.h
          → (if b then d.may_turn && leaf.w == d.size.h && leaf.h == d.size.w else leaf.w == d.size.w && leaf.h == d.size.h) ≡ true
      by true s =
          both_true (both_true (sym turns ∙ s.0) (eq-eqb leaf.w d.size.h (sym s.1 ∙ ap (λ (e : Size). e.h) size))) (eq-eqb leaf.h d.size.w (sym s.2 ∙ ap (λ (e : Size). e.w) size))
      by false s =
          both_true (eq-eqb leaf.w d.size.w (sym s.0 ∙ ap (λ (e : Size). e.w) size)) (eq-eqb leaf.h d.size.h (sym s.1 ∙ ap (λ (e : Size). e.h) size))

  module _ (numbers : List ℕ) (allowed : demands_refusal at material numbers ≡ None) where
    abbrev Wanted : Leaf → Type 0
    Wanted l = IsWantedPiece (wants_of at numbers) l.demand l.turned l.w l.h

    left_for : (leaf : Leaf) (p : Wanted leaf) → IsLeft p.0
    left_for leaf p = want_left numbers p.0 allowed (in_of (wants_of at numbers) p.0 p.1.0 p.1.1 p.1.2)

    found_for : (leaf : Leaf) (p : Wanted leaf) → at leaf.demand ≡ Some (left_for leaf p).row
    found_for leaf p = ap at (sym p.2) ∙ (left_for leaf p).found

    leaf_good : (leaf : Leaf) → Wanted leaf → leaf_refusal material leaf (at leaf.demand) ≡ None
    leaf_good leaf p =
        let l = left_for leaf p in
        ap (leaf_refusal material leaf) (found_for leaf p)
        ∙ ap (λ b. first_of ((not b, WrongMaterial) ∷ (not (fits_demand leaf l.row), WrongSize) ∷ [])) l.of
        ∙ ap (λ b. first_of ((not b, WrongSize) ∷ [])) (fits leaf l.row p.0 l.size l.turns p.3)

    leaves_good : (leaves : List Leaf) → ((leaf : Leaf) → IsIn leaf leaves → Wanted leaf) → leaves_refusal at material leaves ≡ None
    leaves_good [] h = refl
    leaves_good (leaf ∷ leaves) h =
        ap (λ o. option_or o (leaves_refusal at material leaves)) (leaf_good leaf (h leaf (inl refl))) ∙ leaves_good leaves (λ l i. h l (inr i))

    not_over : (tree : Tree) → IsWithinCounts (wants_of at numbers) tree → (leaf : Leaf) → Wanted leaf → is_over (count_of tree leaf.demand) (at leaf.demand) ≡ false
    not_over tree within leaf p =
        let l = left_for leaf p in
        let few = within leaf.demand in
        let most = left_most numbers leaf.demand l.row (found_for leaf p) in
        let some = l.some in
        ap (is_over (count_of tree leaf.demand)) (found_for leaf p) ∙ grind (arith, nat_tests)

    none_over : (tree : Tree) → IsWithinCounts (wants_of at numbers) tree → (leaves : List Leaf) → ((leaf : Leaf) → IsIn leaf leaves → Wanted leaf)
        → list_any (λ (leaf : Leaf). is_over (count_of tree leaf.demand) (at leaf.demand)) leaves ≡ false
    none_over tree within [] h = refl
    none_over tree within (leaf ∷ leaves) h = rw (not_over tree within leaf (h leaf (inl refl))) (none_over tree within leaves (λ l i. h l (inr i)))

-- ---- a reported plan

-- the text is that of a legal plan of the wants within the counts
record IsReported (size : Size) (k : ℕ) (wants : List Want) (text : List ℕ) : Type 0 where
  pub plan : Pattern
  pub is : IsPlan plan
  pub text_is : text ≡ text_of plan.tree
  pub width : plan.w ≡ size.w
  pub height : plan.h ≡ size.h
  pub kerf : plan.kerf ≡ k
  pub legal : Legal wants k plan.tree size.w size.h
  pub within : IsWithinCounts wants plan.tree

module _ (ceiling dropped : ℕ) (text : List ℕ) (worth : ℕ) where
  abbrev answer : Reply
  answer = reply.Plan ceiling dropped text worth

  proposed : (kind : Kind) (size : Size) (k s : ℕ) (wants : List Want) → IsProposed kind (planned_size kind size) k s wants answer → IsReported (planned_size kind size) k wants text
  proposed Bar size k s wants p =
      record { plan = p.0.plan; is = p.1; text_is = cc; width = p.2.unit.0; height = p.2.unit.1; kerf = p.2.unit.2; legal = p.2.planned.legal; within = p.2.planned.within }
  proposed Sheet size k s wants p =
      record { plan = p.0.plan; is = p.1; text_is = cc; width = p.2.unit.0; height = p.2.unit.1; kerf = p.2.unit.2; legal = p.2.laid.legal; within = p.2.laid.within }

  reported : (kind : Kind) (size : Size) (k s : ℕ) (wants : List Want) → IsPlanned kind (planned_size kind size) k s wants answer → IsReported (planned_size kind size) k wants text
  reported kind size k s wants it = by (plan_fault kind (planned_size kind size) k s wants) it
    where
      by : (o : Option PlanFault)
          → MatchOption o (IsProposed kind (planned_size kind size) k s wants answer ⊎ ((answer ≡ reply.Refused (planner_refusal fault.TableTooLarge)) × HasManyCuts kind (planned_size kind size) k s wants))
          (λ why. answer ≡ reply.Refused (planner_refusal why))
          → IsReported (planned_size kind size) k wants text
      by None (inl p) = proposed kind size k s wants p
      by None (inr e) = cc
      by (Some why) e = cc

  -- the rows after a reported plan
  record HasRows (found : Option Part) (known : Option Material) (at : ℕ → Option Demand) (numbers : List ℕ) : Type 0 where
    pub row : Part
    pub material : Material
    pub here : found ≡ Some row
    pub there : known ≡ Some material
    pub free : is_free row.state ≡ true
    pub allowed : demands_refusal at row.material numbers ≡ None
    pub plan : IsReported (planned_size material.kind row.size) material.limits.kerf (wants_of at numbers) text

  rows_of : (found : Option Part) (known : Option Material) (at : ℕ → Option Demand) (numbers : List ℕ) (step : ℕ) → IsPlanAnswer found known at numbers step answer → HasRows found known at numbers
  rows_of found known at numbers step it = by found known (planning_refusal found known at numbers) refl it
    where
      by : (found : Option Part) (known : Option Material) (o : Option Refusal) → planning_refusal found known at numbers ≡ o
          → MatchOption o
          (MatchOption found ⊥ (λ row. MatchOption known ⊥ (λ m. IsPlanned m.kind (planned_size m.kind row.size) m.limits.kerf step (wants_of at numbers) answer)))
          (λ refusal. answer ≡ reply.Refused refusal)
          → HasRows found known at numbers
      by found known (Some refusal) e it = cc
      by None known None e it = absurd it
      by (Some row) None None e it = absurd it
      by (Some row) (Some material) None e it =
          let outer = or_none (first_of ((not (is_free row.state), NotStanding) ∷ (false, NoMaterial) ∷ [])) (numbers_refusal at row.material numbers) e in
          let free = none_of (not (is_free row.state)) NotStanding _ outer.0 in
          let list = or_none (first_of ((are_bad_numbers numbers, BadWant) ∷ [])) (demands_refusal at row.material numbers) outer.1 in
          record {
            row = row;
            material = material;
            here = refl;
            there = refl;
            free = not-false (is_free row.state) free.0;
            allowed = list.1;
            plan = reported material.kind row.size material.limits.kerf step (wants_of at numbers) it;
          }

  -- ---- the same text sent as a reservation

  module _ (texts : Texts) (m : Content) (part : Name) (numbers : List ℕ) (step : ℕ) (well_formed : IsWellFormed texts m) (answered : Answers m (query.Plan part numbers step) answer) where
    rows : HasRows (part_at m part) (material_of m (part_at m part)) (demand_at m) numbers
    rows = rows_of (part_at m part) (material_of m (part_at m part)) (demand_at m) numbers step (answered (λ e. cc) (λ e. cc))

    abbrev plan : Pattern
    plan = rows.plan.plan

    known : material_at m rows.row.material ≡ Some rows.material
    known = sym (ap (material_of m) rows.here) ∙ rows.there

    -- a bar is planned as it is
    as_it_is : planned_size rows.material.kind rows.row.size ≡ rows.row.size
    as_it_is = by rows.material.kind refl
      where
        by : (kind : Kind) → rows.material.kind ≡ kind → planned_size kind rows.row.size ≡ rows.row.size
        by Bar e =
            let flat : rows.row.size.h ≡ 1 = (well_formed.parts part rows.row rows.here).flat rows.material known e in
            ap (λ n. (let s : Size = record { w = rows.row.size.w; h = n } in s)) (sym flat)
        by Sheet e = refl

    width : plan.w ≡ rows.row.size.w
    width = rows.plan.width ∙ ap (λ (e : Size). e.w) as_it_is

    height : plan.h ≡ rows.row.size.h
    height = rows.plan.height ∙ ap (λ (e : Size). e.h) as_it_is

    spelled : IsSpelling text plan.tree plan.w plan.h plan.kerf
    spelled = subst (λ t. IsSpelling t plan.tree plan.w plan.h plan.kerf) (sym rows.plan.text_is) (spells_itself plan rows.plan.is)

    reading : IsReading m part text plan
    reading =
        record {
          row = rows.row;
          found = rows.here;
          stands = rows.free;
          material = rows.material;
          known = known;
          width = width;
          height = height;
          kerf = rows.plan.kerf;
          spelled = spelled;
          few_cuts = rows.plan.is.few_cuts;
        }

    same_plan : (p q : Pattern) → p.tree ≡ q.tree → p.w ≡ q.w → p.h ≡ q.h → p.kerf ≡ q.kerf → p ≡ q
    same_plan p q t w h k =
        ap (λ x. (let r : Pattern = record { tree = x; w = p.w; h = p.h; kerf = p.kerf } in r)) t ∙ ap (λ x. (let r : Pattern = record { tree = q.tree; w = x; h = p.h; kerf = p.kerf } in r)) w
        ∙ ap (λ x. (let r : Pattern = record { tree = q.tree; w = q.w; h = x; kerf = p.kerf } in r)) h ∙ ap (λ x. (let r : Pattern = record { tree = q.tree; w = q.w; h = q.h; kerf = x } in r)) k

    -- the text is read as the reported plan
    same_reading : (q : Pattern) → IsReading m part text q → q ≡ plan
    same_reading q r =
        let row = same_some r.row rows.row (sym r.found ∙ rows.here) in
        let of : r.material ≡ rows.material = same_some r.material rows.material (sym r.known ∙ ap (λ (p : Part). material_at m p.material) row ∙ known) in
        let w : q.w ≡ plan.w = r.width ∙ ap (λ (p : Part). p.size.w) row ∙ sym width in
        let h : q.h ≡ plan.h = r.height ∙ ap (λ (p : Part). p.size.h) row ∙ sym height in
        let k : q.kerf ≡ plan.kerf = r.kerf ∙ ap (λ (x : Material). x.limits.kerf) of ∙ sym rows.plan.kerf in
        let there : IsSpelling text q.tree plan.w plan.h plan.kerf = subst (IsSpelling text q.tree plan.w plan.h) k (subst (λ n. IsSpelling text q.tree plan.w n q.kerf) h (subst (λ n. IsSpelling text q.tree n q.h q.kerf) w r.spelled)) in
        same_plan q plan (one_spelled text q.tree plan.tree plan.w plan.h plan.kerf there spelled) w h k

    legal : Legal (wants_of (demand_at m) numbers) plan.kerf plan.tree plan.w plan.h
    legal =
        let size = planned_size rows.material.kind rows.row.size in
        subst (λ n. Legal (wants_of (demand_at m) numbers) n plan.tree plan.w plan.h) (sym rows.plan.kerf)
        (subst (λ n. Legal (wants_of (demand_at m) numbers) rows.material.limits.kerf plan.tree plan.w n) (sym rows.plan.height)
        (subst (λ n. Legal (wants_of (demand_at m) numbers) rows.material.limits.kerf plan.tree n size.h) (sym rows.plan.width) rows.plan.legal))

    wanted : (leaf : Leaf) → IsIn leaf (plan_leaves plan) → Wanted (demand_at m) rows.row.material numbers rows.allowed leaf
    wanted = all_in (Wanted (demand_at m) rows.row.material numbers rows.allowed) (plan_leaves plan) (all_listed (IsWantedPiece (wants_of (demand_at m) numbers)) plan.tree plan.w plan.h plan.kerf legal)

    no_leaves : (leaves : List Leaf) → (length leaves == 0) ≡ true → leaves ≡ []
    no_leaves [] e = refl
    no_leaves (leaf ∷ leaves) e = absurd (omega (arith, eqb-true (length (leaf ∷ leaves)) 0 e))

    abbrev act : ℕ
    act = m.last_act + 1

    -- of a reservation's refusals two are left
    judged : plan_refusal rows.row (Some plan) (demand_at m) act
        ≡ option_or (first_of ((length (plan_leaves plan) == 0, BadTree) ∷ [])) (first_of ((nat_lt MAX_NUMBERS act, NumbersSpent) ∷ []))
    judged =
        ap (λ o. option_or (first_of ((length (plan_leaves plan) == 0, BadTree) ∷ [])) (option_or o (first_of ((is_too_many (demand_at m) plan, TooMany) ∷ (nat_lt MAX_NUMBERS act, NumbersSpent) ∷ []))))
        (leaves_good (demand_at m) rows.row.material numbers rows.allowed (plan_leaves plan) wanted)
        ∙ ap (λ b. option_or (first_of ((length (plan_leaves plan) == 0, BadTree) ∷ [])) (first_of ((b, TooMany) ∷ (nat_lt MAX_NUMBERS act, NumbersSpent) ∷ [])))
        (none_over (demand_at m) rows.row.material numbers rows.allowed plan.tree rows.plan.within (plan_leaves plan) wanted)

    refused_for : (refusal : Refusal) → plan_refusal rows.row (Some plan) (demand_at m) act ≡ Some refusal → (refusal ≡ NumbersSpent) ⊎ ((refusal ≡ BadTree) × HasNoPiece m part text)
    refused_for refusal e = by (length (plan_leaves plan) == 0) refl (nat_lt MAX_NUMBERS act) (sym judged ∙ e)
      where
        by : (empty : Bool) → (length (plan_leaves plan) == 0) ≡ empty → (spent : Bool)
            → option_or (first_of ((empty, BadTree) ∷ [])) (first_of ((spent, NumbersSpent) ∷ [])) ≡ Some refusal → (refusal ≡ NumbersSpent) ⊎ ((refusal ≡ BadTree) × HasNoPiece m part text)
        by true none spent e = inr (sym (same_some BadTree refusal e), (plan, reading, no_leaves (plan_leaves plan) none))
        by false none true e = inl (sym (same_some NumbersSpent refusal e))
        by false none false e = cc

    reserved : reserve_refusal (part_at m part) (material_of m (part_at m part)) (Some plan) (demand_at m) act ≡ plan_refusal rows.row (Some plan) (demand_at m) act
    reserved =
        ap (λ o. reserve_refusal (part_at m part) o (Some plan) (demand_at m) act) rows.there
        ∙ ap (λ o. reserve_refusal o (Some rows.material) (Some plan) (demand_at m) act) rows.here
        ∙ ap (λ b. option_or (first_of ((not b, NotStanding) ∷ (false, StoreFault) ∷ [])) (plan_refusal rows.row (Some plan) (demand_at m) act)) rows.free

    refused_only : (refusal : Refusal) (read : Reading) → Reads texts m (Reserve part text) read → refusal_of m (Reserve part text) read ≡ Some refusal
        → (refusal ≡ NumbersSpent) ⊎ ((refusal ≡ BadTree) × HasNoPiece m part text)
    refused_only refusal unread reads e = absurd (reads plan reading)
    refused_only refusal (Lines lines) reads e = absurd reads
    refused_only refusal (Problem size pieces) reads e = absurd reads
    refused_only refusal (Again answer) reads e = absurd reads
    refused_only refusal (Plan q) reads e =
        refused_for refusal
        (sym reserved ∙ ap (λ p. reserve_refusal (part_at m part) (material_of m (part_at m part)) (Some p) (demand_at m) act) (sym (same_reading q reads)) ∙ e)

    pub reserve_refused : (message : Message) (next : Content) (refusal : Refusal) → message.command ≡ Reserve part text → kept_at m (message_id_of message) ≡ None
        → Step texts m message (reply.Refused refusal) next → refusal ≢ NoMemory → refusal ≢ StoreFault
        → (refusal ≡ NumbersSpent) ⊎ ((refusal ≡ BadTree) × HasNoPiece m part text)
    reserve_refused message next refusal command none step n s =
        let new : StepNew texts m message (reply.Refused refusal) next = MatchOption-at_none _ _ none step in
        let it = subst (λ (c : Command). Refuses texts m c refusal) command new.0 n s in
        refused_only refusal it.0 it.1 it.2
