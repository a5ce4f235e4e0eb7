pub mod Input
pub mod Parts
pub mod Declarations
pub mod Statements
pub mod Routines
pub mod Modules
pub mod Refusals
pub mod inner
