pub mod Cells
pub mod Game
