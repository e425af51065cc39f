mod Onward
mod Stepped
mod Beside
mod Alone
pub mod Begun
