pub use Rattle.sums.specs.Sums
pub use Rattle.sim_game.specs.Sides
pub mod Replies
