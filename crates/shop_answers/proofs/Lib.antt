-- asking for a plan, or for a bound
pub mod PlanningDecision
pub mod PlanningReply
-- asking for lists, for a job, for orders and for a terminal
pub mod ListingReply
pub mod OrdersReply
