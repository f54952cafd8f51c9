mod TargetLemmas
mod AttributeLemmas
