pub mod Words
pub mod Names
pub mod Forms
pub mod Sketch
pub mod Told
