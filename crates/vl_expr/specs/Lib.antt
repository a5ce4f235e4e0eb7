pub mod Terminals
pub mod Classes
pub mod Reading
pub mod Refusals
