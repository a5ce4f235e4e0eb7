pub mod Evaluated
pub mod Hosts
pub mod KeptLemmas
pub mod Marks
pub mod PortLemmas
pub mod Quiet
pub mod Replies
pub mod States
