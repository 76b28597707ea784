pub mod Leaving
pub mod Pruning
