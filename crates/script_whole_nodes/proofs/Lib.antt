pub mod Voting
pub mod Seating
pub mod Turning
pub mod Living
pub mod Guarding
