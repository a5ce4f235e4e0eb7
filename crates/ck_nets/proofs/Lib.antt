pub mod Appends
pub mod Names
pub mod Members
pub mod Depends
pub mod Circular
pub mod Rows
