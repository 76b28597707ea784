pub mod Steps
pub mod Turning
pub mod Runs
pub mod Putting
