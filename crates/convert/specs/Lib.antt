pub mod Owned
pub mod Products
pub mod Convert
pub mod Places
