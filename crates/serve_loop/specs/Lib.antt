pub mod Bridge
pub mod Watching
pub mod Telling
pub mod Serving
