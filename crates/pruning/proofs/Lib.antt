mod Covering
mod Keeping
