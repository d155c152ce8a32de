pub mod Numbers
pub mod Tails
pub mod Heads
pub mod Same
