pub mod ValueLemmas
pub mod JsonLemmas
pub mod GameLemmas
pub mod FieldLemmas
pub mod LimitLemmas
pub mod ReadingLemmas
