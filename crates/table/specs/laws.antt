pub mod Below
pub mod Game
pub mod Totals
