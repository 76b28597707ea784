pub mod Offering
pub mod SheetLists
pub mod Generated
pub mod LaidRows
pub mod Putting
