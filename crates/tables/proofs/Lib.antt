pub mod Searching
pub mod Held
pub mod Walking
pub mod Seniors
