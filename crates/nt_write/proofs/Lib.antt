pub mod Taking
pub mod Digits
pub mod Pins
pub mod LineLists
pub mod PortLists
pub mod Assigning
pub mod Whole
pub mod Ending
