-- Reservations of parts by the plans that are reported for them.
use Rattle.std.specs.Prelude.{◌≡◌, ◌≢◌, ℕ, List, All, AllPairs, Any, Contains, None}
use Rattle.cut_measure.specs.Names.{Name}
use Rattle.shop_records.specs.declared.messages.Command.TheVariants.{Reserve}
use Rattle.shop_records.specs.declared.messages.Message.{Message}
use Rattle.shop_records.specs.Content.{Content, kept_at}
use Rattle.shop_records.specs.Messages.{IsMessage, message_id_of}
use Rattle.shop_plans.specs.declared.answers.PlansReply.{PlansReply}
use Rattle.shop_plans.specs.declared.answers.ReportedPlan.{ReportedPlan}

-- the text is that of a plan that is reported for the part
abbrev pub IsReportedFor : List ReportedPlan → Name → List ℕ → Type 0
IsReportedFor plans part text = Any (λ p. Contains p.parts part × (text ≡ p.tree)) plans

-- a message that isn't kept yet, and reserves a part by a plan that is reported for it
pub record IsBookedBy (content : Content) (reply : PlansReply) (message : Message) : Type 0 where
  pub is_message : IsMessage message
  pub unkept : kept_at content (message_id_of message) ≡ None
  pub part : Name
  pub text : List ℕ
  pub command : message.command ≡ Reserve part text
  pub reported : IsReportedFor reply.plans.items part text

-- of different message IDs, and none reserves a part that another one reserves
pub record AreBookedBy (content : Content) (reply : PlansReply) (messages : List Message) : Type 0 where
  pub each : All (IsBookedBy content reply) messages
  pub parts : AllPairs (λ a b. (part : Name) (text other : List ℕ) → a.command ≡ Reserve part text → b.command ≢ Reserve part other) messages
  pub message_ids : AllPairs (λ a b. message_id_of a ≢ message_id_of b) messages
