pub mod Keeping
pub mod Searched
pub mod Findings
pub mod Workers
pub mod Solvers
