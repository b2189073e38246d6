pub mod Game
