pub mod Outcomes
pub mod Solutions
