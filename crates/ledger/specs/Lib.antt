pub mod Filings
pub mod Rules
pub mod Ledgers
pub mod Answers
pub mod Drawers
pub mod Laws
