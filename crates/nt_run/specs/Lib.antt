pub mod Acknowledged
pub mod Kept
pub mod Machine
pub mod Order
pub mod Ticks
