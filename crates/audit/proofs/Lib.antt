pub mod Steps
pub mod Running
pub mod Numbered
pub mod Law
