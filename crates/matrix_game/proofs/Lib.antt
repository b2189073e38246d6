pub mod FirstLemmas
pub mod Potential
pub mod Gap
pub mod Lifting
pub mod Lists
pub mod Mixtures
pub mod Law
pub mod Loop
pub mod Stages
pub mod ShiftLemmas
pub mod HeightLemmas
pub mod BudgetLemmas
mod Rows
pub mod MemoryLemmas
pub mod LaneLemmas
