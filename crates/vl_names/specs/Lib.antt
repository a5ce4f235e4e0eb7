pub mod Declarations
pub mod Interfaces
pub mod Mentions
