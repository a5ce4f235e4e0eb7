pub mod Pen
pub mod Lines
