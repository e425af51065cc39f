pub mod Seats
pub mod Happening
pub mod Turns
pub mod Lives
pub mod Safe
