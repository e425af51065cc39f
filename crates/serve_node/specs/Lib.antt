pub mod Crew
pub mod Named
pub mod Ending
pub mod Rules
pub mod Serving
