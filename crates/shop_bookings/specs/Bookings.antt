-- Reservations that were chosen together, so that none stands in another's way.
use Rattle.std.specs.Prelude.{◌≡◌, ◌≢◌, ℕ, ◌+◌, ◌≤◌, List, map, length, All, AllPairs, Some, None, IfSome, sum_by}
use Rattle.cut_measure.specs.Names.{Name}
use Rattle.cut_tree.specs.Tree.{count_of}
use Rattle.cut_tree.specs.Patterns.{Pattern}
use Rattle.shop_records.specs.declared.records.Demand.{Demand}
use Rattle.shop_records.specs.declared.messages.Command.TheVariants.{Reserve}
use Rattle.shop_records.specs.declared.messages.Message.{Message}
use Rattle.shop_records.specs.declared.messages.Reply.{Reply}
use Rattle.shop_records.specs.declared.refusals.Refusal.TheVariants.{NumbersSpent, NoMemory, StoreFault}
use Rattle.shop_records.specs.Content.{Content, kept_at, demand_at}
use Rattle.shop_records.specs.Messages.{IsMessage, refusal_in, message_id_of}
use Rattle.shop_machine.specs.Recounts.{plan_leaves}
use Rattle.shop_machine.specs.Reserving.{IsReading, leaves_refusal}

-- a message that reserves a part, and the plan that its text stands for
pub record Booking : Type 0 where
  pub message : Message
  pub part : Name
  pub text : List ℕ
  pub plan : Pattern

-- The message isn't kept yet. The part stands, the text is read as the plan, this has a piece, and each of its pieces is one
-- that its demand takes from the part's material.
pub record IsBookable (content : Content) (booking : Booking) : Type 0 where
  pub is_message : IsMessage booking.message
  pub command : booking.message.command ≡ Reserve booking.part booking.text
  pub unkept : kept_at content (message_id_of booking.message) ≡ None
  pub reading : IsReading content booking.part booking.text booking.plan
  pub some_piece : 1 ≤ length (plan_leaves booking.plan)
  pub taken : leaves_refusal (demand_at content) reading.row.material (plan_leaves booking.plan) ≡ None

-- how many pieces of a demand their plans have
abbrev pub booked : ℕ → List Booking → ℕ
booked number bookings = sum_by (λ (b : Booking). count_of b.plan.tree number) bookings

-- Of different parts and message IDs, and with no more pieces of a demand than are left of it.
pub record AreBookable (content : Content) (bookings : List Booking) : Type 0 where
  pub each : All (IsBookable content) bookings
  pub parts : AllPairs (λ a b. a.part ≢ b.part) bookings
  pub message_ids : AllPairs (λ a b. message_id_of a.message ≢ message_id_of b.message) bookings
  pub left : (number : ℕ) (demand : Demand) → demand_at content number ≡ Some demand
      → demand.reserved + demand.made + booked number bookings ≤ demand.wanted

abbrev pub sent_by : List Booking → List Message
sent_by bookings = map (λ (b : Booking). b.message) bookings

-- accepted, or refused because numbers are spent, memory and the store aside
abbrev pub OnlySpent : Reply → Type 0
OnlySpent answer = IfSome (refusal_in answer) (λ refusal. refusal ≢ NoMemory → refusal ≢ StoreFault → refusal ≡ NumbersSpent)
