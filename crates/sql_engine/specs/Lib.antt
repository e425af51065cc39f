pub mod Replies
pub mod Meanings
pub mod Known
pub mod Runs
pub mod CellTexts
pub mod Cells
pub mod CellChanges
pub mod CellAnswers
