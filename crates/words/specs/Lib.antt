pub mod Bytes
pub mod Numbers
pub mod Tokens
pub mod Words
