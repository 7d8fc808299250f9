pub mod OverlapOutcomes
pub mod OverlapSchedules
pub mod OverlapSteps
pub mod ShownRuns
