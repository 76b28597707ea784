pub mod Sizes
pub mod Desk
