mod Lookups
mod NextRoots
