pub mod Hardware
pub mod first
