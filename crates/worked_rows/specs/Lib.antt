pub mod Chance
pub mod Weights
