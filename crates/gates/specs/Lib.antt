pub mod Reductions
pub mod Forms
pub mod Tails
pub mod Turns
pub mod Answers
