pub mod Formed
pub mod Held
pub mod Rows
pub mod Promises
