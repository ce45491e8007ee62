pub mod ActorLaws
pub mod ActorMaps
pub mod ActorOrder
pub mod GreatestLaws
pub mod KeyOrders
mod LostNodesExamples
pub mod LostNodesLaws
pub mod MembersLaws
pub mod NodesLaws
pub mod RisingLaws
pub mod SuccessLaws
