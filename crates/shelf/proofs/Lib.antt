pub mod Drawers
pub mod Rows
pub mod Formed
pub mod Filing
pub mod Promises
pub mod Asking
