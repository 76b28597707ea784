pub mod Blanks
pub mod Adding
pub mod Filling
