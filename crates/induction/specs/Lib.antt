pub mod Undecided
pub mod Listed
pub mod Planned
pub mod Certified
pub mod Spent
pub mod Induced
pub mod Keys
pub mod Places
