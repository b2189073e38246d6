pub mod Edges
pub mod Laws
pub mod Position
pub mod Refusals
pub mod Rules
