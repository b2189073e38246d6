mod Examples
pub mod PositionLemmas
pub mod RoundLemmas
