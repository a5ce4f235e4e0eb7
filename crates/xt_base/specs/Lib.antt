pub mod Outside
pub mod Memory
pub mod Reserved
pub mod Identifiers
pub mod First
