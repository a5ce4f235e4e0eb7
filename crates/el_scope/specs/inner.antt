pub mod Maps
pub mod Findings
pub mod Steps
