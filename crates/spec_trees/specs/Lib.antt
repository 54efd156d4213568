pub mod FirstTrees
pub mod TreeOrders
pub mod TreeText
pub mod OrderLaws
pub mod Laws
