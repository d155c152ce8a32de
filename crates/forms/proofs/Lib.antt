pub mod Packed
pub mod Rows
pub mod Walk
pub mod Weights
pub mod First
