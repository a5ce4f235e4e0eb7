pub mod Shows
pub mod Hosts
pub mod HostRows
pub mod first_form
