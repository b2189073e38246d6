pub mod PickLemmas
pub mod PlayLemmas
pub mod StreamLemmas
pub mod SumLemmas
pub mod TallyLemmas
