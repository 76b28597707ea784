pub mod Laying
pub mod Offers
pub mod Putting
pub mod Rows
