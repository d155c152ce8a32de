pub mod Workings
pub mod Polynomials
pub mod Decided
pub mod Forms
pub mod Turns
pub mod Once
