pub mod BoundLemmas
pub mod RowLemmas
pub mod CertifyLemmas
pub mod UndecidedLemmas
pub mod FollowLemmas
pub mod SpentLemmas
mod BothLemmas
mod KeyLemmas
mod ListedLemmas
mod PlaceLemmas
mod SolvedLemmas
