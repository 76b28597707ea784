pub mod Opening
pub mod Rooting
pub mod Rounding
pub mod Keeping
pub mod Promises
