pub mod Jobs
pub mod Printing
pub mod Cards
pub mod Answers
pub mod Printed
