pub mod ReachLemmas
pub mod RewardLemmas
pub mod ResolutionLemmas
pub mod SideLemmas
pub mod StateLemmas
