pub mod Reversing
pub mod Searching
pub mod Finishing
pub mod Ordering
pub mod Labelling
