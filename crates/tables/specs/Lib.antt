pub mod Places
pub mod SheetLists
pub mod Walks
