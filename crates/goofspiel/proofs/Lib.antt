mod CountLemmas
mod Examples
mod HandLemmas
mod PartLemmas
mod PlaceLemmas
pub mod PositionLemmas
pub mod ScoreLemmas
pub mod TreeLemmas
pub mod SerialLemmas
