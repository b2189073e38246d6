pub mod BoundLemmas
pub mod FoundLemmas
pub mod RowLemmas
pub mod VerdictLemmas
