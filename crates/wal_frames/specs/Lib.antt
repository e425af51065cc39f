pub mod Checksum
pub mod Text
pub mod Headers
pub mod Valid
pub mod Writing
pub mod Lent
