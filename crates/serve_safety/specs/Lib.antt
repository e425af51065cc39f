pub mod Paths
pub mod Beside
pub mod Alone
pub mod Begun
