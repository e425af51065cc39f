pub mod CoreSteps
pub mod Plain
pub mod Nodes
pub mod Repeats
pub mod Cores
pub mod Decided
