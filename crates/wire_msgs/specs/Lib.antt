pub mod Fields
pub mod Requests
pub mod Responses
pub mod Kinds
pub mod Bodies
pub mod Reading
