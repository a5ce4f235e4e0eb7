-- Helpers of the private contracts.
pub mod Steps
pub mod Parts
pub mod Heads
