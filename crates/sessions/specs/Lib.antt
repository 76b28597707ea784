pub mod Attending
pub mod InputLines
pub mod Serving
