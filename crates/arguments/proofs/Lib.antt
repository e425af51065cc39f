pub mod Servable
pub mod Found
