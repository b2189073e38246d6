pub mod PlanLemmas
pub mod StepLemmas
