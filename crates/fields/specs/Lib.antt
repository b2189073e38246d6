pub mod Numbers
pub mod Fields
pub mod Positions
pub mod Asks
pub mod Ranges
