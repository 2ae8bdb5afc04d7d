-- Reservations of reported parts by the plans that are reported for them don't stand in each other's way.
use Rattle.std.proofs.Common.{◌≡◌, ◌≢◌, ℕ, ◌+◌, ◌≤◌, List, [], ◌∷◌, map, true, refl, sym, ap, subst, ◌∙◌, inl, inr, arith, eqb-true}
use Rattle.std.specs.Prelude.{Some, None, All, Contains, slice_get, ◌==◌, ◌&&◌}
use Rattle.std.specs.List.{AllByRecursion}
use Rattle.std.proofs.lemmas.Bool.{and_parts}
use Rattle.std.proofs.lemmas.List.Elements.{All-map, All-weaker, recursion_from_All}
use Rattle.std.proofs.lemmas.List.Sorted.{All-permutation}
use Rattle.cut_measure.specs.Names.{Name}
use Rattle.cut_tree.specs.Spelling.{text_of}
use Rattle.cut_tree.specs.Tree.{Tree, count_of}
use Rattle.cut_wants.specs.declared.wants.Want.{Want}
use Rattle.cut_bound.specs.declared.planned.PlannedUnit.{PlannedUnit}
use Rattle.cut_bound.specs.declared.stock.StockSize.{StockSize}
use Rattle.cut_bound.specs.Solutions.{CutUnit}
use Rattle.cut_bound.specs.Planned.{IsPlanFor, IsPlannedUnit, one_of}
use Rattle.cut_bound.proofs.PlannedUnits.{planned_all}
use Rattle.shop_records.specs.declared.records.Demand.{Demand}
use Rattle.shop_records.specs.declared.records.Material.{Material}
use Rattle.shop_records.specs.declared.messages.Command.TheVariants.{Reserve}
use Rattle.shop_records.specs.declared.messages.Message.{Message}
use Rattle.shop_records.specs.declared.messages.Reply.{Reply}
use Rattle.shop_records.specs.Content.{Content, demand_at}
use Rattle.shop_records.specs.Elements.{IsIn}
use Rattle.shop_records.specs.Messages.{Texts, message_id_of}
use Rattle.shop_records.specs.WellFormed.{IsWellFormed}
use Rattle.shop_records.proofs.Basics.{all_in, any_in, in_map, map_in, same_some}
use Rattle.shop_records.proofs.Puts.{Pairwise, all_from, pairs_from, pairs_in}
use Rattle.shop_answers.specs.Planning.{found_refusal, left_of}
use Rattle.shop_machine.specs.Machine.{Run}
use Rattle.shop_machine.proofs.Allowed.{or_none}
use Rattle.shop_plans.specs.declared.answers.PlansReply.{PlansReply}
use Rattle.shop_plans.specs.declared.answers.ReportedPlan.{ReportedPlan}
use Rattle.shop_plans.specs.declared.queries.PlansQuery.{PlansQuery}
use Rattle.shop_planning.specs.declared.instance.PlanInstance.{PlanInstance}
use Rattle.shop_planning.specs.declared.instance.StockPart.{StockPart}
use Rattle.shop_planning.specs.declared.response.Entry.{Entry}
use Rattle.shop_planning.specs.Answers.{IsPlansReply}
use Rattle.shop_planning.specs.Asked.{demands_for, parts_for}
use Rattle.shop_planning.specs.Entries.{entries_of, is_of}
use Rattle.shop_planning.specs.Queries.{IsInstance, parts_refusal, rows_refusal}
use Rattle.shop_planning.specs.Shares.{are_alike, share_of, shares_of}
use Rattle.shop_planning.specs.Stock.{firsts}
use Rattle.shop_planning.proofs.Firsts.{all_firsts}
use Rattle.shop_bookings.specs.Bookings.{AreBookable, Booking, IsBookable, OnlySpent, booked, sent_by}
use Rattle.shop_bookings.specs.Reported.{AreBookedBy, IsBookedBy, IsReportedFor}
use Rattle.shop_bookings.proofs.Asked.{IsPartOf, IsWantOf, parts_found, wants_found}
use Rattle.shop_bookings.proofs.Fitting as fitting
use Rattle.shop_bookings.proofs.Slots.{Slot, slots_are, slots_from, slots_sum, reported_slot}
use Rattle.shop_bookings.proofs.Together.{stand_together}
use Rattle.shop_bookings.proofs.Pieces.{contains_in, few_pieces, shared, sum_within}

-- ---- messages as bookings

-- a message as a booking of a slot
record Booked (m : Content) (slots : List Slot) (message : Message) : Type 0 where
  booking : Booking
  of : booking.message ≡ message
  bookable : IsBookable m booking
  slot : Slot
  there : IsIn slot slots
  named : booking.part ≡ slot.part.name
  planned : booking.plan.tree ≡ slot.unit.plan.tree

module _ (m : Content) (slots : List Slot) where
  abbrev bookings_of : (messages : List Message) → AllByRecursion (Booked m slots) messages → List Booking
  bookings_of [] all = []
  bookings_of (x ∷ xs) all = all.0.booking ∷ bookings_of xs all.1

  sent_same : (messages : List Message) (all : AllByRecursion (Booked m slots) messages) → sent_by (bookings_of messages all) ≡ messages
  sent_same [] all = refl
  sent_same (x ∷ xs) all = ap (λ (y : Message). y ∷ sent_by (bookings_of xs all.1)) all.0.of ∙ ap (λ ys. x ∷ ys) (sent_same xs all.1)

  each_booked : (messages : List Message) (all : AllByRecursion (Booked m slots) messages) (b : Booking) → IsIn b (bookings_of messages all)
      → (x : Message) × (r : Booked m slots x) × (b ≡ r.booking)
  each_booked [] all b i = absurd i
  each_booked (x ∷ xs) all b (inl e) = (x, all.0, e)
  each_booked (x ∷ xs) all b (inr i) = each_booked xs all.1 b i

unmapped : {X Y : Type 0} (R : X → X → Type 0) (f : Y → X) (ys : List Y) → Pairwise R (map f ys) → Pairwise (λ (a b : Y). R (f a) (f b)) ys
unmapped R f [] h = tt
unmapped R f (y ∷ ys) h = (λ z i. h.0 (f z) (map_in f ys z i), unmapped R f ys h.1)

abbrev ReserveOthers : Message → Message → Type 0
ReserveOthers a b = (part : Name) (text other : List ℕ) → a.command ≡ Reserve part text → b.command ≢ Reserve part other

parts_apart : (m : Content) (bs : List Booking) → ((b : Booking) → IsIn b bs → IsBookable m b) → Pairwise (λ (a b : Booking). ReserveOthers a.message b.message) bs
    → Pairwise (λ (a b : Booking). a.part ≢ b.part) bs
parts_apart m [] each h = tt
parts_apart m (b ∷ bs) each h = (
  λ c i e. h.0 c i b.part b.text c.text (each b (inl refl)).command ((each c (inr i)).command ∙ ap (λ n. Reserve n c.text) (sym e)),
  parts_apart m bs (λ c i. each c (inr i)) h.1,
)

-- a unit whose plan is one for its size
record IsShare (wants : List Want) (kerf : ℕ) (sizes : List StockSize) (unit : PlannedUnit) : Type 0 where
  stock : StockSize
  there : slice_get sizes unit.place ≡ Some stock
  planned : IsPlanFor wants kerf stock.size unit.plan

module _ (texts : Texts) (m : Content) (well_formed : IsWellFormed texts m) (q : PlansQuery) (instance : PlanInstance) (asks : IsInstance m q instance) (reply : PlansReply) (answer : IsPlansReply instance reply) where
  abbrev material : Material
  material = asks.material

  abbrev wants : List Want
  wants = instance.wants.items

  abbrev sizes : List StockSize
  sizes = instance.sizes.items

  abbrev units : List PlannedUnit
  units = answer.plan.units.items

  abbrev shares : List PlannedUnit
  shares = shares_of units

  abbrev slots : List Slot
  slots = slots_from sizes answer.plans.ranked [] shares

  rows_allowed : rows_refusal q material.kind (demands_for m q.material q.demands) (parts_for m q.material material.kind q.parts) ≡ None
  rows_allowed = (or_none _ _ asks.is.allowed).0

  wants_are : All (IsWantOf m q.material) wants
  wants_are =
      subst (All (IsWantOf m q.material)) (sym asks.is.wants)
      (wants_found m q.material texts well_formed q.demands (or_none (found_refusal q.material (demands_for m q.material q.demands)) _ rows_allowed).0)

  parts_are : All (IsPartOf m q.material material.kind) answer.plans.ranked
  parts_are =
      All-permutation (IsPartOf m q.material material.kind) instance.parts.items answer.plans.ranked answer.plans.parts.all
      (subst (All (IsPartOf m q.material material.kind)) (sym asks.is.parts)
      (parts_found m q.material material.kind texts well_formed q.remnant q.parts
      (or_none (parts_refusal q.material (parts_for m q.material material.kind q.parts)) _ (or_none (found_refusal q.material (demands_for m q.material q.demands)) _ rows_allowed).1).0))

  planned : All (IsPlannedUnit wants material.limits.kerf sizes) units
  planned = subst (λ k. All (IsPlannedUnit wants k sizes) units) asks.is.kerf answer.answers.planned.plan.planned

  shares_are : All (IsShare wants material.limits.kerf sizes) shares
  shares_are =
      All-map (IsShare wants material.limits.kerf sizes) (share_of units) (firsts are_alike [] units)
      (all_firsts are_alike (λ u. IsShare wants material.limits.kerf sizes (share_of units u)) [] units
      (All-weaker (IsPlannedUnit wants material.limits.kerf sizes) (λ u. IsShare wants material.limits.kerf sizes (share_of units u))
      (λ u is. record { stock = is.stock; there = is.there; planned = is.planned }) units planned))

  -- a part and a plan that is reported for it have a slot
  slot_of : (part : Name) (text : List ℕ) → IsReportedFor reply.plans.items part text → (slot : Slot) × IsIn slot slots × (slot.part.name ≡ part) × (text ≡ text_of slot.unit.plan.tree)
  slot_of part text reported =
      let p = any_in (λ (p : ReportedPlan). Contains p.parts part × (text ≡ p.tree)) reply.plans.items reported in
      let e = in_map (λ (e : Entry). e.reported) answer.plans.list p.0 (subst (IsIn p.0) answer.plans.plans p.1) in
      let P = λ (e : Entry). (name : Name) → IsIn name e.reported.parts → (slot : Slot) × IsIn slot slots × (slot.part.name ≡ name) × (e.reported.tree ≡ text_of slot.unit.plan.tree) in
      let all = All-permutation P (entries_of sizes answer.plans.ranked shares) answer.plans.list answer.plans.each
      (all_from P (entries_of sizes answer.plans.ranked shares) (λ e i name j. reported_slot sizes answer.plans.ranked [] shares e name i j)) in
      let inside : IsIn part e.0.reported.parts = subst (λ (x : ReportedPlan). IsIn part x.parts) e.2 (contains_in p.0.parts part p.2.0) in
      let r = all_in P answer.plans.list all e.0 e.1 part inside in
      (r.0, r.1, r.2, p.2.1 ∙ ap (λ (x : ReportedPlan). x.tree) e.2 ∙ r.3)

  same_sides : (s : StockSize) (p : StockPart) → is_of s p ≡ true → (p.size.w ≡ s.size.w) × (p.size.h ≡ s.size.h)
  same_sides s p e =
      let both = and_parts (p.size.w == s.size.w && p.size.h == s.size.h) (p.cost == s.cost) e in
      let sides = and_parts (p.size.w == s.size.w) (p.size.h == s.size.h) both.0 in
      (eqb-true p.size.w s.size.w sides.0, eqb-true p.size.h s.size.h sides.1)

  booked_by : (message : Message) → IsBookedBy m reply message → Booked m slots message
  booked_by message by =
      let slot = slot_of by.part by.text by.reported in
      let is = slots_are sizes answer.plans.ranked [] shares slot.0 slot.1 in
      let share = all_in (IsShare wants material.limits.kerf sizes) shares shares_are slot.0.unit is.unit in
      let part = all_in (IsPartOf m q.material material.kind) answer.plans.ranked parts_are slot.0.part is.part in
      let same : is.stock ≡ share.stock = same_some is.stock share.stock (sym is.there ∙ share.there) in
      let sides = same_sides share.stock slot.0.part (subst (λ (s : StockSize). is_of s slot.0.part ≡ true) same is.of) in
      record {
        booking = record { message = message; part = slot.0.part.name; text = text_of slot.0.unit.plan.tree; plan = slot.0.unit.plan };
        of = refl;
        bookable = record {
          is_message = by.is_message;
          command = by.command ∙ ap (λ n. Reserve n by.text) (sym slot.2) ∙ ap (Reserve slot.0.part.name) slot.3;
          unkept = by.unkept;
          reading = fitting.reading texts m well_formed q.material material asks.known wants wants_are slot.0.part part share.stock.size sides.0 sides.1 slot.0.unit.plan share.planned;
          some_piece = fitting.some_piece texts m well_formed q.material material asks.known wants wants_are slot.0.part part share.stock.size sides.0 sides.1 slot.0.unit.plan share.planned;
          taken = fitting.taken texts m well_formed q.material material asks.known wants wants_are slot.0.part part share.stock.size sides.0 sides.1 slot.0.unit.plan share.planned;
        };
        slot = slot.0;
        there = slot.1;
        named = refl;
        planned = refl;
      }

  module _ (messages : List Message) (by : AreBookedBy m reply messages) where
    all : AllByRecursion (Booked m slots) messages
    all =
        recursion_from_All (Booked m slots) messages
        (All-weaker (IsBookedBy m reply) (Booked m slots) booked_by messages by.each)

    abbrev bookings : List Booking
    bookings = bookings_of m slots messages all

    each : (b : Booking) → IsIn b bookings → IsBookable m b
    each b i = let r = each_booked m slots messages all b i in subst (IsBookable m) (sym r.2) r.1.bookable

    apart : Pairwise (λ (a b : Booking). a.part ≢ b.part) bookings
    apart =
        parts_apart m bookings each
        (unmapped ReserveOthers (λ (b : Booking). b.message) bookings (subst (Pairwise ReserveOthers) (sym (sent_same m slots messages all)) (pairs_in ReserveOthers messages by.parts)))

    abbrev OfOtherMessage : Message → Message → Type 0
    OfOtherMessage a b = message_id_of a ≢ message_id_of b

    other_message_ids : Pairwise (λ (a b : Booking). message_id_of a.message ≢ message_id_of b.message) bookings
    other_message_ids =
        unmapped OfOtherMessage (λ (b : Booking). b.message) bookings (subst (Pairwise OfOtherMessage) (sym (sent_same m slots messages all)) (pairs_in OfOtherMessage messages by.message_ids))

    left : (number : ℕ) (d : Demand) → demand_at m number ≡ Some d → d.reserved + d.made + booked number bookings ≤ d.wanted
    left number d found =
        let f = λ (u : CutUnit). count_of u.tree number in
        let slotted = sum_within (λ (b : Booking). count_of b.plan.tree number) (λ (s : Slot). f (one_of s.unit)) (λ (b : Booking). b.part) (λ (s : Slot). s.part.name) bookings slots apart
        (λ b i. let r = each_booked m slots messages all b i in
        record {
          one = r.1.slot;
          there = r.1.there;
          named = ap (λ (c : Booking). c.part) r.2 ∙ r.1.named;
          same = ap (λ (c : Booking). count_of c.plan.tree number) r.2 ∙ ap (λ (t : Tree). count_of t number) r.1.planned;
        }) in
        let few = slots_sum sizes answer.plans.ranked f [] shares in
        let same = shared f units in
        let all_units = planned_all f units in
        let last = few_pieces wants material.limits.kerf sizes units planned m q.material wants_are answer.answers.planned.plan.no_more number d found in
        let within = (well_formed.demands number d found).counted.few in
        by_sums slotted few same all_units last within
      where
        by_sums : {a b c e p : ℕ} → a ≤ b → b ≤ c → c ≡ e → p ≡ e → p ≤ left_of d → d.reserved + d.made ≤ d.wanted → d.reserved + d.made + a ≤ d.wanted
        by_sums s t u v w x = omega (arith, s, t, u, v, w, x)

    are_bookable : AreBookable m bookings
    are_bookable = record {
      each = all_from (IsBookable m) bookings each;
      parts = pairs_from (λ (a b : Booking). a.part ≢ b.part) bookings apart;
      message_ids = pairs_from (λ (a b : Booking). message_id_of a.message ≢ message_id_of b.message) bookings other_message_ids;
      left = left;
    }

    pub booked_together : (new : Content) (answers : List Reply) → Run texts m messages answers new → All OnlySpent answers
    booked_together new answers run =
        stand_together texts m new bookings answers well_formed are_bookable (subst (λ ms. Run texts m ms answers new) (sym (sent_same m slots messages all)) run)
