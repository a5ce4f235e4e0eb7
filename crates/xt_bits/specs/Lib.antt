pub mod Word
pub mod Operators
pub mod Trace
pub mod Stimulus
