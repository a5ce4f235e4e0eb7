pub mod Numbers
pub mod Integers
pub mod Vectors
pub mod Readings
