pub mod LimitLemmas
pub mod SourceLemmas
