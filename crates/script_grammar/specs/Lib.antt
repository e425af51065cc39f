pub mod ScriptSize
pub mod Lines
pub mod Events
pub mod Grammar
pub mod Spelling
pub mod Modes
pub mod Usage
