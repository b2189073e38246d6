pub mod Cells
pub mod Position
pub mod Refusals
pub mod Rules
pub mod laws
