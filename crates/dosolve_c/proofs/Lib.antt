mod PlanLemmas
mod SeedLemmas
