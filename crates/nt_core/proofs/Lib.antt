pub mod Apart
pub mod Copies
pub mod Drives
pub mod Ends
mod Examples
pub mod Equal
pub mod FormValues
pub mod Grown
pub mod NodeLists
pub mod Ranges
pub mod States
pub mod Traces
pub mod Values
pub mod Writes
