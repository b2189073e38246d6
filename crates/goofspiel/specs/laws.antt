pub mod Cards
pub mod Deals
pub mod Drawn
pub mod Game
pub mod Places
