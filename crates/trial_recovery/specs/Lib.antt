pub mod Examples
pub mod TrialRecovery
