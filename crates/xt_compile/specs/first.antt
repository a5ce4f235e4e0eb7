-- The form of a source that is compiled today. It goes when every checked design is compiled.
pub mod Source
pub mod Flatten
pub mod Form
pub mod Tree
pub mod Machine
pub mod Nodes
pub mod Compiled
