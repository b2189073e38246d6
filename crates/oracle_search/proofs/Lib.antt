pub mod BetterLemmas
pub mod GrowLemmas
pub mod KeyLemmas
pub mod LeftLemmas
pub mod RingLemmas
pub mod SweepLemmas
pub mod TurnLemmas
pub mod WorkLemmas
