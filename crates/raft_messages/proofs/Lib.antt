pub mod Grants
pub mod Loops
pub mod InTurn
pub mod EntryLaws
pub mod MessageLaws
pub mod Written
pub mod ServerLaws
pub mod ServerLoops
