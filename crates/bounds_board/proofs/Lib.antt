pub mod FullLemmas
pub mod KnownLemmas
pub mod PlainLemmas
pub mod TableLemmas
pub mod ViewLemmas
