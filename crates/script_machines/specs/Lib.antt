pub mod Holding
pub mod Machines
pub mod Printed
pub mod Alike
pub mod Limits
pub mod StatedLengths
pub mod Kept
