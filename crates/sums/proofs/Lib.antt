pub mod CountLemmas
pub mod IntegerLemmas
pub mod SumLemmas
