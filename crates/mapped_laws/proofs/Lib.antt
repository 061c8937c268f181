pub mod BuiltNetlists
pub mod PassedOver
pub mod PlanMoved
pub mod PlanWords
pub mod PlanRefusals
pub mod MappedPlans
pub mod OwnAnswer
pub mod OneReply
