-- Reservations that were chosen together are accepted one after another.
use Rattle.std.proofs.Common.{◌≡◌, ◌≢◌, ℕ, ◌+◌, ◌≤◌, inl, inr, List, [], ◌∷◌, length, Bool, true, false, refl, sym, ap, subst, ◌∙◌, arith, le-ltb, ne_eqb}
use Rattle.std.specs.Prelude.{Option, Some, None, IfSome, MatchOption, All, not, nat_lt, ◌==◌, ◌||◌}
use Rattle.std.specs.List.{list_any, AllByRecursion}
use Rattle.std.specs.Option.{option_or}
use Rattle.std.proofs.lemmas.List.Sums.{sum_by-cons}
use Rattle.std.proofs.lemmas.List.Elements.{All-from_recursion}
use Rattle.cut_measure.specs.declared.ranges.TheConstants.{MAX_NUMBERS}
use Rattle.cut_measure.specs.Names.{Name}
use Rattle.cut_tree.specs.declared.leaves.Leaf.{Leaf}
use Rattle.cut_tree.specs.Tree.{count_of}
use Rattle.cut_tree.specs.Patterns.{Pattern}
use Rattle.cut_tree.specs.Spelling.{IsSpelling}
use Rattle.cut_tree.proofs.SpelledTexts.{one_spelled}
use Rattle.shop_records.specs.declared.records.Part.{Part}
use Rattle.shop_records.specs.declared.records.Material.{Material}
use Rattle.shop_records.specs.declared.records.Demand.{Demand}
use Rattle.shop_records.specs.declared.records.State.TheVariants.{Reserved}
use Rattle.shop_records.specs.declared.changes.Change.{Change}
use Rattle.shop_records.specs.declared.messages.Command.{Command}
use Rattle.shop_records.specs.declared.messages.Command.TheVariants.{Reserve}
use Rattle.shop_records.specs.declared.messages.Reply.{Reply}
use Rattle.shop_records.specs.declared.texts.Kept.{Kept}
use Rattle.shop_records.specs.declared.refusals.Refusal.{Refusal}
use Rattle.shop_records.specs.declared.refusals.Refusal.TheVariants.{NumbersSpent, NoMemory, StoreFault, BadTree, NotStanding, TooMany}
use Rattle.shop_records.specs.Columns.{is_free}
use Rattle.shop_records.specs.Content.{Content, part_at, material_at, demand_at, changed, in_state, material_of}
use Rattle.shop_records.specs.Elements.{IsIn}
use Rattle.shop_records.specs.Messages.{Texts, refusal_in, message_id_of}
use Rattle.shop_records.specs.Readings.{Reading, unread, Plan, Lines, Problem, Again}
use Rattle.shop_records.specs.WellFormed.{IsWellFormed}
use Rattle.shop_records.proofs.Basics.{names_total, names_same, get_other, same_some, all_in}
use Rattle.shop_records.proofs.Puts.{Pairwise, pairs_in, message_ids_total, message_ids_exact, some_known, is_known}
use Rattle.shop_machine.specs.Decisions.{first_of}
use Rattle.shop_machine.specs.Recounts.{AreRecounted, plan_leaves, with_reserved}
use Rattle.shop_machine.specs.Reserving.{IsReading, IsReservation, leaf_refusal, leaves_refusal, is_over, is_too_many, plan_refusal, reserve_refusal, reserve_change}
use Rattle.shop_machine.specs.Machine.{Accepts, Reads, Refuses, Makes, Run, Step, StepNew, StepAgain, keeping_at, refusal_of}
use Rattle.shop_machine.proofs.Allowed.{or_none}
use Rattle.shop_machine.proofs.Moved.{recount_of, demand_there, no_reserved}
use Rattle.shop_machine.proofs.ReservingStep.{reading}
use Rattle.shop_machine.proofs.StaysWellFormed.{well_formed_entered}
use Rattle.shop_bookings.specs.Bookings.{Booking, IsBookable, AreBookable, booked, sent_by, OnlySpent}

-- ---- what is refused of one

-- a text is read as one plan
one_plan : (m : Content) (part : Name) (text : List ℕ) (p q : Pattern) → IsReading m part text p → IsReading m part text q → p ≡ q
one_plan m part text p q a b =
    let row : a.row ≡ b.row = same_some a.row b.row (sym a.found ∙ b.found) in
    let material : a.material ≡ b.material = same_some a.material b.material (sym a.known ∙ ap (λ (r : Part). material_at m r.material) row ∙ b.known) in
    let wide : p.w ≡ q.w = a.width ∙ ap (λ (r : Part). r.size.w) row ∙ sym b.width in
    let high : p.h ≡ q.h = a.height ∙ ap (λ (r : Part). r.size.h) row ∙ sym b.height in
    let kerf : p.kerf ≡ q.kerf = a.kerf ∙ ap (λ (x : Material). x.limits.kerf) material ∙ sym b.kerf in
    let spelled : IsSpelling text p.tree q.w q.h q.kerf =
    subst (λ w. IsSpelling text p.tree w q.h q.kerf) wide (subst (λ h. IsSpelling text p.tree p.w h q.kerf) high (subst (λ k. IsSpelling text p.tree p.w p.h k) kerf a.spelled)) in
    let tree : p.tree ≡ q.tree = one_spelled text p.tree q.tree q.w q.h q.kerf spelled b.spelled in
    same_pattern tree wide high kerf
  where
    same_pattern : p.tree ≡ q.tree → p.w ≡ q.w → p.h ≡ q.h → p.kerf ≡ q.kerf → p ≡ q
    same_pattern t w h k i = record { tree = t i; w = w i; h = h i; kerf = k i }

any_false : {X : Type 0} (p : X → Bool) (xs : List X) → ((x : X) → IsIn x xs → p x ≡ false) → list_any p xs ≡ false
any_false p [] h = refl
any_false p (x ∷ xs) h = ap (λ b. b || list_any p xs) (h x (inl refl)) ∙ any_false p xs (λ y i. h y (inr i))

not_over : (n : ℕ) (o : Option Demand) → ((d : Demand) → o ≡ Some d → d.reserved + d.made + n ≤ d.wanted) → is_over n o ≡ false
not_over n None h = refl
not_over n (Some d) h = le-ltb d.wanted (d.reserved + d.made + n) (h d refl)

positive : (n : ℕ) → 1 ≤ n → (n == 0) ≡ false
positive n h = ne_eqb n 0 (λ e. omega (arith, h, e))

last_refusal : (b : Bool) (r : Refusal) → first_of ((b, NumbersSpent) ∷ []) ≡ Some r → r ≡ NumbersSpent
last_refusal true r e = same_some r NumbersSpent (sym e)
last_refusal false r e = cc

module _ (row : Part) (material : Material) (plan : Pattern) (at : ℕ → Option Demand) (act : ℕ) (r : Refusal)
    (free : is_free row.state ≡ true) (some : 1 ≤ length (plan_leaves plan)) (taken : leaves_refusal at row.material (plan_leaves plan) ≡ None)
    (few : is_too_many at plan ≡ false) where
  abbrev last : Option Refusal
  last = first_of ((nat_lt MAX_NUMBERS act, NumbersSpent) ∷ [])

  abbrev following : Option Refusal
  following = option_or (leaves_refusal at row.material (plan_leaves plan)) (first_of ((is_too_many at plan, TooMany) ∷ (nat_lt MAX_NUMBERS act, NumbersSpent) ∷ []))

  by_leaves : following ≡ last
  by_leaves =
      ap (λ o. option_or o (first_of ((is_too_many at plan, TooMany) ∷ (nat_lt MAX_NUMBERS act, NumbersSpent) ∷ []))) taken
      ∙ ap (λ b. first_of ((b, TooMany) ∷ (nat_lt MAX_NUMBERS act, NumbersSpent) ∷ [])) few

  by_plan : plan_refusal row (Some plan) at act ≡ last
  by_plan = ap (λ b. option_or (first_of ((b, BadTree) ∷ [])) following) (positive (length (plan_leaves plan)) some) ∙ by_leaves

  by_part : reserve_refusal (Some row) (Some material) (Some plan) at act ≡ last
  by_part = ap (λ b. option_or (first_of ((not b, NotStanding) ∷ (false, StoreFault) ∷ [])) (plan_refusal row (Some plan) at act)) free ∙ by_plan

  spent : reserve_refusal (Some row) (Some material) (Some plan) at act ≡ Some r → r ≡ NumbersSpent
  spent e = last_refusal (nat_lt MAX_NUMBERS act) r (sym by_part ∙ e)

-- ---- one of them, and the others

-- as AreBookable says, element by element
record Holds (m : Content) (bookings : List Booking) : Type 0 where
  each : (b : Booking) → IsIn b bookings → IsBookable m b
  parts : Pairwise (λ (a b : Booking). a.part ≢ b.part) bookings
  message_ids : Pairwise (λ (a b : Booking). message_id_of a.message ≢ message_id_of b.message) bookings
  left : (number : ℕ) (demand : Demand) → demand_at m number ≡ Some demand → demand.reserved + demand.made + booked number bookings ≤ demand.wanted

module _ (texts : Texts) (m : Content) (b : Booking) (bookings : List Booking) (well_formed : IsWellFormed texts m) (holds : Holds m (b ∷ bookings)) where
  first : IsBookable m b
  first = holds.each b (inl refl)

  split : (number : ℕ) → booked number (b ∷ bookings) ≡ count_of b.plan.tree number + booked number bookings
  split number = sum_by-cons (λ (c : Booking). count_of c.plan.tree number) b bookings

  -- the others alone
  others : Holds m bookings
  others = record {
    each = λ c i. holds.each c (inr i);
    parts = holds.parts.1;
    message_ids = holds.message_ids.1;
    left = λ number demand is.
        let free = holds.left number demand is in
        let sum = split number in
        omega (arith, free, sum);
  }

  few : is_too_many (demand_at m) b.plan ≡ false
  few =
      any_false (λ (leaf : Leaf). is_over (count_of b.plan.tree leaf.demand) (demand_at m leaf.demand)) (plan_leaves b.plan)
      (λ leaf i. not_over (count_of b.plan.tree leaf.demand) (demand_at m leaf.demand) (λ d is.
      let free = holds.left leaf.demand d is in
      let sum = split leaf.demand in
      omega (arith, free, sum)))

  refused_by : (r : Refusal) (read : Reading) → Reads texts m (Reserve b.part b.text) read → refusal_of m (Reserve b.part b.text) read ≡ Some r → r ≡ NumbersSpent
  refused_by r unread reads e = absurd (reads b.plan first.reading)
  refused_by r (Plan p) reads e =
      let same : p ≡ b.plan = one_plan m b.part b.text p b.plan reads first.reading in
      let row = first.reading.row in
      let planned : reserve_refusal (part_at m b.part) (material_of m (part_at m b.part)) (Some b.plan) (demand_at m) (m.last_act + 1) ≡ Some r =
      subst (λ q. reserve_refusal (part_at m b.part) (material_of m (part_at m b.part)) (Some q) (demand_at m) (m.last_act + 1) ≡ Some r) same e in
      let found : reserve_refusal (Some row) (material_at m row.material) (Some b.plan) (demand_at m) (m.last_act + 1) ≡ Some r =
      subst (λ o. reserve_refusal o (material_of m o) (Some b.plan) (demand_at m) (m.last_act + 1) ≡ Some r) first.reading.found planned in
      let known : reserve_refusal (Some row) (Some first.reading.material) (Some b.plan) (demand_at m) (m.last_act + 1) ≡ Some r =
      subst (λ o. reserve_refusal (Some row) o (Some b.plan) (demand_at m) (m.last_act + 1) ≡ Some r) first.reading.known found in
      spent row first.reading.material b.plan (demand_at m) (m.last_act + 1) r first.reading.stands first.some_piece first.taken few known
  refused_by r (Lines lines) reads e = absurd reads
  refused_by r (Problem size pieces) reads e = absurd reads
  refused_by r (Again answer) reads e = absurd reads

  refused : (r : Refusal) → Refuses texts m b.message.command r → r ≢ NoMemory → r ≢ StoreFault → r ≡ NumbersSpent
  refused r refuses memory store =
      let why = subst (λ (c : Command). Refuses texts m c r) first.command refuses memory store in
      refused_by r why.0 why.1 why.2

  module _ (time : ℕ) (row : Part) (there : part_at m b.part ≡ Some row) (rows : List Demand) (recounted : AreRecounted (demand_at m) with_reserved b.plan.tree rows) where
    abbrev after : Content
    after = changed m (keeping_at texts time m b.message (reserve_change row b.plan (m.last_act + 1) rows))

    part_stays : (name : Name) → (name ≡ b.part → ⊥) → part_at after name ≡ part_at m name
    part_stays name other =
        get_other names_total names_same m.parts row.name (in_state (Reserved (m.last_act + 1)) row) name (λ e. other (e ∙ (well_formed.parts b.part row there).named))

    leaf_stays : (code : List ℕ) (leaf : Leaf) → leaf_refusal code leaf (demand_at m leaf.demand) ≡ None → leaf_refusal code leaf (demand_at after leaf.demand) ≡ None
    leaf_stays code leaf allowed = by (demand_at m leaf.demand) refl allowed
      where
        by : (o : Option Demand) → demand_at m leaf.demand ≡ o → leaf_refusal code leaf o ≡ None → leaf_refusal code leaf (demand_at after leaf.demand) ≡ None
        by None is e = cc
        by (Some d) is e =
            let now = some_known (demand_at after leaf.demand)
            (demand_there m.demands with_reserved b.plan.tree rows recounted (no_reserved m.demands b.plan.tree) leaf.demand (is_known (demand_at m leaf.demand) d is)) in
            let was = recount_of m.demands with_reserved b.plan.tree rows recounted (no_reserved m.demands b.plan.tree) leaf.demand now.0 now.1 in
            let same : was.before ≡ d = same_some was.before d (sym was.was ∙ is) in
            ap (leaf_refusal code leaf) now.1 ∙ ap (λ (x : Demand). leaf_refusal code leaf (Some x)) was.now
            ∙ ap (λ (x : Demand). leaf_refusal code leaf (Some x)) same ∙ e

    leaves_stay : (code : List ℕ) (leaves : List Leaf) → leaves_refusal (demand_at m) code leaves ≡ None → leaves_refusal (demand_at after) code leaves ≡ None
    leaves_stay code [] e = refl
    leaves_stay code (leaf ∷ leaves) e =
        let both = or_none (leaf_refusal code leaf (demand_at m leaf.demand)) (leaves_refusal (demand_at m) code leaves) e in
        ap (λ o. option_or o (leaves_refusal (demand_at after) code leaves)) (leaf_stays code leaf both.0) ∙ leaves_stay code leaves both.1

    still : (c : Booking) → IsIn c bookings → IsBookable after c
    still c i =
        let was = holds.each c (inr i) in
        record {
          is_message = was.is_message;
          command = was.command;
          unkept = get_other message_ids_total message_ids_exact m.kept (message_id_of b.message) _ (message_id_of c.message) (λ e. holds.message_ids.0 c i (sym e)) ∙ was.unkept;
          reading = record {
            row = was.reading.row;
            found = part_stays c.part (λ e. holds.parts.0 c i (sym e)) ∙ was.reading.found;
            stands = was.reading.stands;
            material = was.reading.material;
            known = was.reading.known;
            width = was.reading.width;
            height = was.reading.height;
            kerf = was.reading.kerf;
            spelled = was.reading.spelled;
            few_cuts = was.reading.few_cuts;
          };
          some_piece = was.some_piece;
          taken = leaves_stay was.reading.row.material (plan_leaves c.plan) was.taken;
        }

    holds_after : Holds after bookings
    holds_after = record {
      each = still;
      parts = holds.parts.1;
      message_ids = holds.message_ids.1;
      left = λ number demand is.
          let was = recount_of m.demands with_reserved b.plan.tree rows recounted (no_reserved m.demands b.plan.tree) number demand is in
          let free = holds.left number was.before was.was in
          let sum = split number in
          subst (λ (d : Demand). d.reserved + d.made + booked number bookings ≤ d.wanted) (sym was.now) (omega (arith, free, sum));
    }

  accepted_by : (time : ℕ) (read : Reading) (change : Change) → Reads texts m (Reserve b.part b.text) read → Makes m (Reserve b.part b.text) read change
      → Holds (changed m (keeping_at texts time m b.message change)) bookings
  accepted_by time read change reads makes =
      let same : makes.1 ≡ b.plan = one_plan m b.part b.text makes.1 b.plan (reading texts m b.part b.text read makes.1 makes.3 reads) first.reading in
      let reservation : IsReservation makes.0 b.plan (demand_at m) (m.last_act + 1) change =
      subst (λ p. IsReservation makes.0 p (demand_at m) (m.last_act + 1) change) same makes.4 in
      subst (λ (c : Change). Holds (changed m (keeping_at texts time m b.message c)) bookings) (sym reservation.is)
      (holds_after time makes.0 makes.2 reservation.rows reservation.recounted)

  accepted : (time : ℕ) (read : Reading) (change : Change) → Reads texts m b.message.command read → Makes m b.message.command read change
      → Holds (changed m (keeping_at texts time m b.message change)) bookings
  accepted time read change reads makes =
      accepted_by time read change (subst (λ (c : Command). Reads texts m c read) first.command reads) (subst (λ (c : Command). Makes m c read change) first.command makes)

  new_step : (answer : Reply) (new : Content) → Step texts m b.message answer new → StepNew texts m b.message answer new
  new_step answer new step =
      subst (λ (o : Option Kept). MatchOption o (StepNew texts m b.message answer new) (λ row. StepAgain texts row b.message answer × (new ≡ m))) first.unkept step

-- ---- one after another

only_spent : (texts : Texts) (m new : Content) (bookings : List Booking) (answers : List Reply) → IsWellFormed texts m → Holds m bookings → Run texts m (sent_by bookings) answers new
    → AllByRecursion OnlySpent answers
only_spent texts m new [] [] well_formed holds run = tt
only_spent texts m new [] (a ∷ answers) well_formed holds run = absurd run
only_spent texts m new (b ∷ bookings) [] well_formed holds run = absurd run
only_spent texts m new (b ∷ bookings) (a ∷ answers) well_formed holds (mid, step, more) =
    by (λ c still others onward. only_spent texts c new bookings answers still others onward) (refusal_in a) refl (new_step texts m b bookings well_formed holds a mid step)
  where
    by : ((c : Content) → IsWellFormed texts c → Holds c bookings → Run texts c (sent_by bookings) answers new → AllByRecursion OnlySpent answers)
        → (o : Option Refusal) → refusal_in a ≡ o
        → MatchOption o ((read : Reading) × Accepts texts m b.message read a mid) (λ refusal. Refuses texts m b.message.command refusal × (mid ≡ m))
        → OnlySpent a × AllByRecursion OnlySpent answers
    by next None is new_one =
        let accepts = new_one.1 in (
          subst (λ o. IfSome o (λ refusal. refusal ≢ NoMemory → refusal ≢ StoreFault → refusal ≡ NumbersSpent)) (sym is) tt,
          next mid
              (subst (IsWellFormed texts) (sym accepts.becomes)
              (well_formed_entered texts m b.message new_one.0 accepts.change accepts.at well_formed accepts.reads accepts.allowed accepts.makes (holds.each b (inl refl)).is_message))
              (subst (λ c. Holds c bookings) (sym accepts.becomes) (accepted texts m b bookings well_formed holds accepts.at new_one.0 accepts.change accepts.reads accepts.makes)) more,
        )
    by next (Some r) is none = (
      subst (λ o. IfSome o (λ refusal. refusal ≢ NoMemory → refusal ≢ StoreFault → refusal ≡ NumbersSpent)) (sym is)
          (λ memory store. refused texts m b bookings well_formed holds r none.0 memory store),
      next m well_formed (others texts m b bookings well_formed holds) (subst (λ c. Run texts c (sent_by bookings) answers new) none.1 more),
    )

pub stand_together : (texts : Texts) (m new : Content) (bookings : List Booking) (answers : List Reply) → IsWellFormed texts m → AreBookable m bookings
    → Run texts m (sent_by bookings) answers new → All OnlySpent answers
stand_together texts m new bookings answers well_formed are run =
    All-from_recursion OnlySpent answers (only_spent texts m new bookings answers well_formed (record {
      each = λ b i. all_in (IsBookable m) bookings are.each b i;
      parts = pairs_in (λ (a b : Booking). a.part ≢ b.part) bookings are.parts;
      message_ids = pairs_in (λ (a b : Booking). message_id_of a.message ≢ message_id_of b.message) bookings are.message_ids;
      left = are.left;
    }) run)
