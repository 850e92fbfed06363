pub mod CheckedRecovery
