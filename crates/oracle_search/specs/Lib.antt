pub mod Finished
pub mod Searches
pub mod Sweeps
pub mod Workers
