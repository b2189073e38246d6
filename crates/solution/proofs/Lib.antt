pub mod RangeLemmas
pub mod ReportLemmas
