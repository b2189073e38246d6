mod Examples
pub mod PositionLemmas
