pub mod Mixing
pub mod Halfway
