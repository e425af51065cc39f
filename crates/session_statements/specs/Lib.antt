pub mod Texts
pub mod Running
pub mod Learning
pub mod Agreeing
pub mod Calls
