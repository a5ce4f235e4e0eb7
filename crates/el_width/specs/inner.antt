pub mod Open
pub mod Operands
