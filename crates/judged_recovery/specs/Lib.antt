pub mod JudgedRecovery
