pub mod Lists
pub mod Equations
pub mod MentionRows
