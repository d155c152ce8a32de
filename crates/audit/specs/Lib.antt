pub mod Entries
pub mod Faithful
pub mod Runs
pub mod LentTables
