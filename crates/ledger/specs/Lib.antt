pub mod Answers
pub mod Law
pub mod Ledger
pub mod Padded
pub mod Runs
