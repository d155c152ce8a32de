pub mod Sums
pub mod Law
pub mod Working
pub mod BitsWorking
pub mod Nested
pub mod Shapes
pub mod Met
