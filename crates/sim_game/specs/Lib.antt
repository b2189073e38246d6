pub mod Model
pub mod Numbers
pub mod Resolution
pub mod Sides
pub use Rattle.sums.specs.Sums
pub use Rattle.sums.specs.Quotients
