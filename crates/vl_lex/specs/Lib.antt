pub mod Bytes
pub mod Fronts
pub mod Numbers
pub mod Operators
pub mod Refusals
pub mod Spelling
pub mod Tokens
pub mod Views
