mod Examples
pub mod PositionLemmas
mod TrailLemmas
