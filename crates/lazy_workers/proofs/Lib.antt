pub mod JoinLemmas
pub mod KeptLemmas
pub mod RowLemmas
pub mod FoundLemmas
pub mod SummaryLemmas
pub mod WorkerLemmas
