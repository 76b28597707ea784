pub mod Views
pub mod Entering
pub mod Makings
pub mod Phases
pub mod Rooting
