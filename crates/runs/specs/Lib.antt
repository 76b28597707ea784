pub mod Turns
pub mod Runs
