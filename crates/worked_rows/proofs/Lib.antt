pub mod EndLemmas
pub mod TurnLemmas
pub mod WidthLemmas
