pub mod StateKinds
pub mod StateCounts
pub mod StateLists
pub mod StateRanks
pub mod StateTexts
