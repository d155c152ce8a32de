pub mod Inputs
pub mod Differences
pub mod Theorems
